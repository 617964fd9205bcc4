use Rattle.std.proofs.Common.{refl}
use Rattle.plcx_conditions.specs.First.{first_of}
use Rattle.plcx_unit.proofs.declarations.initial_broken.Goals as goal

pub returns-in-None : goal.returns-in-None
unfolding first_of
returns-in-None c = λ unit. rw c.in-None.is refl
