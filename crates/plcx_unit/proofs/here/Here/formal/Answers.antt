use Rattle.std.proofs.Common.{refl}
use Rattle.plcx_conditions.specs.First.{first_of}
use Rattle.plcx_unit.proofs.here.Here.formal.Goals as goal

pub returns-in-Unknown : goal.returns-in-Unknown
unfolding first_of
returns-in-Unknown c = rw c.in-Unknown.is refl

pub returns-in-Elementary : goal.returns-in-Elementary
unfolding first_of
returns-in-Elementary c = rw c.in-Elementary.is refl
