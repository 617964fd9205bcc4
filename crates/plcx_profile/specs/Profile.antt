-- The project that a tree stands for, or the first rule from 4 to 16 that it breaks.
use Rattle.std.specs.Prelude.{◌≡◌, ℕ, Option, Some, None}
use Rattle.plcx_xml.specs.declared.tree.Node.{Node}
use Rattle.plcx_xml.specs.declared.tree.Node.TheOpen.{Node-F}
use Rattle.plcx_xml.specs.declared.tree.Element.{Element}
use Rattle.plcx_model.specs.declared.broken.Broken.{Broken}
use Rattle.plcx_model.specs.declared.broken.Place.TheVariants.{Byte}
use Rattle.plcx_model.specs.declared.project.Project.{Project}
use Rattle.plcx_table.specs.declared.row.FormatRule.{FormatRule}
use Rattle.plcx_table.specs.declared.row.FormatRule.TheVariants as format
use Rattle.plcx_table.specs.Format.{FormatVerdict}
use Rattle.plcx_draft.specs.DraftIn.{draft_in}
use Rattle.plcx_profile.specs.declared.error.ProfileError.{ProfileError}
use Rattle.plcx_profile.specs.declared.error.ProfileError.TheVariants as error
use Rattle.plcx_profile.specs.declared.judging.DeclarationRule.{DeclarationRule}
use Rattle.plcx_profile.specs.declared.judging.DeclarationRule.TheVariants as rule
use Rattle.plcx_profile.specs.Judged.{DeclarationVerdict}
use Rattle.plcx_profile.specs.ProjectIn.{settled}

-- the number of a rule
abbrev pub format_number : FormatRule → ℕ
format_number format.Structure = 4
format_number format.Attributes = 5
format_number format.Constructs = 6
format_number format.Limits = 7

-- the number of a rule on declarations; chains and sizes are one rule
abbrev pub declaration_number : DeclarationRule → ℕ
declaration_number rule.Names = 10
declaration_number rule.PouNames = 11
declaration_number rule.VariableNames = 12
declaration_number rule.Types = 13
declaration_number rule.Initials = 14
declaration_number rule.Chains = 15
declaration_number rule.Sizes = 15
declaration_number rule.Addresses = 16

-- the first rule from 4 to 16 that a tree breaks, and the byte where the element begins that breaks it first
pub data ProfileVerdict (root : Element) : Option (ℕ × ℕ) → Type 0 where
  InForm : {r : FormatRule} {byte : ℕ} → FormatVerdict root (Some (r, byte)) → ProfileVerdict root (Some (format_number r, byte))
  InDeclarations : {r : DeclarationRule} {byte : ℕ} → FormatVerdict root None → DeclarationVerdict (draft_in root) (Some (r, byte)) → ProfileVerdict root (Some (declaration_number r, byte))
  Unbroken : FormatVerdict root None → DeclarationVerdict (draft_in root) None → ProfileVerdict root None

-- the project of a tree, whether it breaks a rule or not
abbrev pub project_in : Element → Project
project_in root = settled (draft_in root)

-- a tree that breaks no rule stands for a project
pub record StandsForProject (root : Element) (project : Project) : Type 0 where
  pub verdict : ProfileVerdict root None
  pub is : project ≡ project_in root

-- the file breaks this rule first, at this byte
abbrev pub IsBroken : Element → Broken → Type 0
IsBroken root b = (byte : ℕ) × (b.place ≡ Byte byte) × ProfileVerdict root (Some (b.rule.0, byte))

-- why a tree gives no project
abbrev pub Refuses : Element → ProfileError → Type 0
Refuses root (error.Broken b) = IsBroken root b
Refuses root error.NoMemory = Unit {0}

-- a part of a tree that is an element
abbrev pub IsElement : Node-F Node Element → Type 0
IsElement (Node-F.Element e) = Unit {0}
IsElement (Node-F.Text t) = ⊥

-- a root stands for a project
abbrev pub StandsForRoot : Node-F Node Element → Project → Type 0
StandsForRoot (Node-F.Element e) project = StandsForProject e project
StandsForRoot (Node-F.Text t) project = ⊥

-- why a root gives no project
abbrev pub RefusesRoot : Node-F Node Element → ProfileError → Type 0
RefusesRoot (Node-F.Element e) problem = Refuses e problem
RefusesRoot (Node-F.Text t) problem = Unit {0}
