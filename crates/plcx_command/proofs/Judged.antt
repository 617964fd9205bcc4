-- The verdict on a file, pass by pass.
use Rattle.std.proofs.Common.{◌≡◌, ℕ, List, None, refl, sym, subst}
use Rattle.plcx_xml.specs.Faults.{Fails}
use Rattle.plcx_xml.specs.StandsForTree.{IsTreeOf}
use Rattle.plcx_xml.specs.declared.error.XmlError.{XmlError}
use Rattle.plcx_xml.specs.declared.tree.Element.{Element}
use Rattle.plcx_xml.specs.declared.tree.Node.{Node, out-Node}
use Rattle.plcx_xml.specs.declared.tree.Node.TheOpen.{Node-F}
use Rattle.plcx_xml.specs.declared.tree.Node.TheVariants as node
use Rattle.plcx_model.specs.declared.broken.Broken as model
use Rattle.plcx_model.specs.declared.project.Project as model'
use Rattle.plcx_model.specs.Sound.{Sound}
use Rattle.plcx_profile.specs.Profile.{IsElement, ProfileVerdict, StandsForProject, StandsForRoot, RefusesRoot, project_in}
use Rattle.plcx_profile.specs.declared.error.ProfileError.TheVariants as error
use Rattle.plcx_check.specs.declared.checked.Checked.{Checked}
use Rattle.plcx_command.specs.JudgementOf.{IsJudgement, IsFault, IsJudgementOfProject, IsJudgementOfElement, OfProfile, OfProject, IsJudgementOfTree, HasTree}
use Rattle.plcx_command.specs.Verdict.{InTree, InProfile, InProject}
use Rattle.plcx_command.specs.declared.judging.Judgement.{Judgement}
use Rattle.plcx_command.specs.declared.judging.Judgement.TheVariants.{Accepted, Broken}

pub root_stands : (n : Node-F Node Element) (project : model'.Project) (j : Judgement) → StandsForRoot n project → IsJudgementOfProject project j → IsJudgementOfTree n j
root_stands (Node-F.Text t) project j s h = absurd s
root_stands (Node-F.Element e) project j s h = OfProject s.verdict (subst (λ (p : model'.Project). IsJudgementOfProject p j) s.is h)

pub root_refused : (n : Node-F Node Element) (b : model.Broken) → IsElement n → RefusesRoot n (error.Broken b) → IsJudgementOfTree n (Broken b)
root_refused (Node-F.Text t) b is h = absurd is
root_refused (Node-F.Element e) b is h = OfProfile h

pub root_sound : ((root : Element) (project : model'.Project) → StandsForProject root project → Sound project) → (n : Node-F Node Element) (project : model'.Project)
    → StandsForRoot n project → Sound project
root_sound sound (Node-F.Text t) project s = absurd s
root_sound sound (Node-F.Element e) project s = sound e project s

pub is_element : (tree : Node) (root : Element) → tree ≡ node.Element root → IsElement (out-Node tree)
is_element tree root is = rw (is, node.outs-Element root) tt

judged-project : (bytes : List ℕ) (root : Element) (j : Judgement) → IsTreeOf bytes root → ProfileVerdict root None → IsJudgementOfProject (project_in root) j → IsJudgement bytes j
judged-project bytes root (Accepted c) t none h =
    (record { root = root; tree = t; profile = none; stands = h.0; checks = h.1.verdict }, h.1)
judged-project bytes root (Broken b) t none h = InProject root t none h

judged-element : (bytes : List ℕ) (root : Element) (j : Judgement) → IsTreeOf bytes root → IsJudgementOfElement root j → IsJudgement bytes j
judged-element bytes root _ t (OfProfile h) = InProfile root t h
judged-element bytes root j t (OfProject none h) = judged-project bytes root j t none h

pub judged : (bytes : List ℕ) (tree : Node) (root : Element) (j : Judgement) → tree ≡ node.Element root → IsTreeOf bytes root → IsJudgementOfTree (out-Node tree) j → IsJudgement bytes j
judged bytes tree root j is t h = judged-element bytes root j t (rw (is, node.outs-Element root) at h)

pub faulted : (bytes : List ℕ) (e : XmlError) (j : Judgement) → Fails bytes e → IsFault e j → IsJudgement bytes j
faulted bytes e (Accepted c) f h = absurd h
faulted bytes e (Broken b) f h = InTree e f h

-- the root of a tree that is accepted
rooted : (bytes : List ℕ) (root : Element) (c : Checked) → IsTreeOf bytes root → IsJudgementOfElement root (Accepted c) → HasTree bytes (Node-F.Element root) c
rooted bytes root c t (OfProject none h) =
    record { keeps = record { root = root; tree = t; profile = none; stands = h.0; checks = h.1.verdict }; root_is = refl; checked = h.1 }

pub has_tree : (bytes : List ℕ) (tree : Node) (root : Element) (c : Checked) → tree ≡ node.Element root → IsTreeOf bytes root → IsJudgementOfTree (out-Node tree) (Accepted c)
    → HasTree bytes (out-Node tree) c
has_tree bytes tree root c is t h =
    subst (λ (n : Node). HasTree bytes (out-Node n) c) (sym is)
    (subst (λ (n : Node-F Node Element). HasTree bytes n c) (sym (node.outs-Element root)) (rooted bytes root c t (rw (is, node.outs-Element root) at h)))
