-- A verdict of the code.
use Rattle.std.specs.Prelude.{◌≡◌, ℕ, List, Some, None}
use Rattle.plcx_xml.specs.declared.error.XmlError.{XmlError}
use Rattle.plcx_xml.specs.declared.tree.Node.{Node}
use Rattle.plcx_xml.specs.declared.tree.Node.TheOpen.{Node-F}
use Rattle.plcx_xml.specs.declared.tree.Element.{Element}
use Rattle.plcx_model.specs.declared.broken.Broken as model
use Rattle.plcx_model.specs.declared.project.Project.{Project}
use Rattle.plcx_profile.specs.Profile.{IsBroken, ProfileVerdict, project_in}
use Rattle.plcx_check.specs.declared.checked.Checked.{Checked}
use Rattle.plcx_rules.specs.CheckVerdict.{CheckVerdict}
use Rattle.plcx_view.specs.Checked as view
use Rattle.plcx_command.specs.Verdict.{Breaks, Keeps, tree_rule}
use Rattle.plcx_command.specs.declared.judging.Judgement.{Judgement}
use Rattle.plcx_command.specs.declared.judging.Judgement.TheVariants.{Accepted, Broken}

-- a project that breaks no rule, with its own links, types and plan
abbrev pub IsChecked : Checked → Type 0
IsChecked c = view.IsChecked c.project c.links c.types c.plan

-- the verdict on bytes
abbrev pub IsJudgement : List ℕ → Judgement → Type 0
IsJudgement bytes (Accepted c) = Keeps bytes c.project × IsChecked c
IsJudgement bytes (Broken b) = Breaks bytes b

-- bytes break no rule, and this is the root of their tree
pub record HasTree (bytes : List ℕ) (root : Node-F Node Element) (c : Checked) : Type 0 where
  pub keeps : Keeps bytes c.project
  pub root_is : Node-F.Element keeps.root ≡ root
  pub checked : IsChecked c

-- that of bytes that stand for no tree
abbrev pub IsFault : XmlError → Judgement → Type 0
IsFault e (Accepted c) = ⊥
IsFault e (Broken b) = tree_rule e ≡ Some b

-- that on a project
abbrev pub IsJudgementOfProject : Project → Judgement → Type 0
IsJudgementOfProject project (Accepted c) = (c.project ≡ project) × IsChecked c
IsJudgementOfProject project (Broken b) = CheckVerdict project (Some b)

-- that on an element
pub data IsJudgementOfElement (root : Element) : Judgement → Type 0 where
  OfProfile : {b : model.Broken} → IsBroken root b → IsJudgementOfElement root (Broken b)
  OfProject : {j : Judgement} → ProfileVerdict root None → IsJudgementOfProject (project_in root) j → IsJudgementOfElement root j

abbrev pub IsJudgementOfTree : Node-F Node Element → Judgement → Type 0
IsJudgementOfTree (Node-F.Element e) j = IsJudgementOfElement e j
IsJudgementOfTree (Node-F.Text t) j = ⊥
