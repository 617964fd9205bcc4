use Rattle.std.proofs.Common.{ap}
use Rattle.plcx_state.specs.Layouts.{Laid}
use Rattle.plcx_scan.proofs.Runs.{row_line, row_of}
use Rattle.plcx_tasks.proofs.running.row_after.Goals as goal

pub returns-clause-line : goal.returns-clause-line
returns-clause-line g c =
    let stepped = c.perform-outcome.ensures in
    let made = c.in_ok-row.ensures in
    row_line _ _ stepped.machine c.args.turns _ _ _ _ _ (ap (λ (l : Laid). l.leaves) stepped.laid) _ _ c.requires.layout c.values.ensures.typed stepped.outcome stepped.meaning c.values.ensures.meaning c.in_ok-row.row c.args.shown.now c.requires.shown made.outcome made.values

pub returns-clause-values : goal.returns-clause-values
returns-clause-values g c = row_of _ _ (ap (λ (l : Laid). l.leaves) c.perform-outcome.ensures.laid) _ c.values.ensures.typed c.in_ok-row.row c.args.shown.now c.requires.shown c.in_ok-row.ensures.values
