use Rattle.std.proofs.Common.{arith}
use Rattle.plcx_state.specs.Stores.{again}
use Rattle.plcx_state.proofs.Pairing.{all_written}
use Rattle.plcx_state.proofs.store.all_again.Goals as goal

pub returns : goal.returns
returns c = all_written (again c.args.keeps) c.args.starts.now c.loop-i.values.items _ c.loop-i.i (omega arith) (omega arith) c.loop-i.invariant.values
