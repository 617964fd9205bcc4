use Rattle.std.proofs.Common.{arith}
use Rattle.plcx_order.proofs.Turns.{all_done}
use Rattle.plcx_model.specs.Shown.{graph_of}
use Rattle.plcx_order.proofs.walk.components.Goals as goal

pub returns : goal.returns
returns c = all_done (graph_of c.args.wires.now) c.loop-root.walk c.loop-root.invariant.under_way c.loop-root.invariant.empty (λ v h. c.loop-root.invariant.seen v (omega arith))
