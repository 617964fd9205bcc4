use Rattle.std.proofs.Common.{map, sym}
use Rattle.std.proofs.lemmas.Result.{IfOk-weaker}
use Rattle.plcx_ticked.proofs.Alike.{ticks_alike}
use Rattle.plcx_ticked.proofs.ticking.text_of.Goals as goal

pub rows_of-requires-clause-events : goal.rows_of-requires-clause-events
rows_of-requires-clause-events g c = ticks_alike c.args.layouts.now (map g.S.Side.laid c.args.sides.now) (sym c.requires.leaves) 0 c.args.events.now c.requires.events

pub returns : goal.returns
returns g c = IfOk-weaker c.task_text.result _ _ (λ text e. record { rows = c.in_ok-trace.trace.rows; are_rows = c.in_ok-trace.ensures; text_is = e }) c.task_text.ensures
