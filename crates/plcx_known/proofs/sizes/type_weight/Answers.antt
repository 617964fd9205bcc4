use Rattle.std.proofs.Common.{refl}
use Rattle.plcx_known.specs.Sizes.{capped}
use Rattle.plcx_known.proofs.sizes.type_weight.Goals as goal

pub returns-in-Elementary : goal.returns-in-Elementary
unfolding capped
returns-in-Elementary c = rw c.in-Elementary.is refl
