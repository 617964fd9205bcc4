use Rattle.plcx_ticked.proofs.Taken.{can_run, three_ok}
use Rattle.plcx_ticked.proofs.ticking.rows_of.Goals as goal

pub run_tasks-requires-clause-events : goal.run_tasks-requires-clause-events
run_tasks-requires-clause-events g c = can_run g.S.Side.laid g.S.Side.last c.args.sides.now c.args.events.now c.requires.time c.requires.events

pub returns : goal.returns
returns g c = three_ok c.run_tasks.result _ _ _ _ (λ x p q r. record { places = p; lines = q; shown = r }) c.run_tasks.ensures.places c.run_tasks.ensures.lines c.run_tasks.ensures.rows
