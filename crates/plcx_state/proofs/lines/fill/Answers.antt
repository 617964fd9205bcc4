use Rattle.std.proofs.Common.{arith}
use Rattle.plcx_state.specs.Retains.{kept_of}
use Rattle.plcx_state.proofs.Pairing.{all_written}
use Rattle.plcx_state.proofs.lines.fill.Goals as goal

pub returns : goal.returns
returns c = all_written kept_of c.args.leaves.now c.loop-i.draft.items _ c.loop-i.i (omega arith) (omega arith) c.loop-i.invariant.draft
