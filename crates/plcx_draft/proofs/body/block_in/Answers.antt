use Rattle.std.proofs.Common.{refl}
use Rattle.plcx_draft.specs.BodyIn.{block_in}
use Rattle.plcx_draft.proofs.body.block_in.Goals as goal

pub returns : goal.returns
unfolding block_in
returns c = rw (c.in_ok-type_name.ensures, c.in_ok-instance.ensures, c.in_ok-inputs.ensures, c.in_ok-in_outs.ensures, c.in_ok-outputs.ensures) refl
