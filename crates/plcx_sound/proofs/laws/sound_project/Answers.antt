use Rattle.std.proofs.Common.{None, sym, subst}
use Rattle.plcx_xml.specs.declared.tree.Element.{Element}
use Rattle.plcx_model.specs.Sound.{Sound}
use Rattle.plcx_draft.specs.DraftIn.{draft_in}
use Rattle.plcx_profile.specs.Profile.{ProfileVerdict, Unbroken, project_in}
use Rattle.plcx_sound.proofs.Files.{draft_formed}
use Rattle.plcx_sound.proofs.Settled.{sound_draft}
use Rattle.plcx_sound.proofs.laws.sound_project.Goals as goal

sound : (root : Element) → ProfileVerdict root None → Sound (project_in root)
sound root (Unbroken form declarations) = let file = draft_formed root form in sound_draft (draft_in root) file.formed file.few declarations

pub returns : goal.returns
returns c = λ root project h. subst Sound (sym h.is) (sound root h.verdict)
