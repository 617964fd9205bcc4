use Rattle.std.proofs.Common.{arith}
use Rattle.plcx_state.specs.Stores.{begun}
use Rattle.plcx_state.proofs.Pairing.{all_pushed}
use Rattle.plcx_state.proofs.store.begun.Goals as goal

pub returns : goal.returns
returns c = all_pushed begun c.args.leaves.now c.args.kept.now c.loop-i.i c.loop-i.values.items _ (omega arith) c.loop-i.invariant
