use Rattle.std.proofs.Common.{refl}
use Rattle.plcx_profile.specs.Profile.{InForm}
use Rattle.plcx_profile.proofs.project.project_in.Goals as goal

pub returns-in-Some : goal.returns-in-Some
returns-in-Some c = rw c.broken.ensures (c.in-Some.byte, refl, rw c.format_number.ensures (InForm (rw c.in-Some.is at c.in_ok-rule.ensures)))
