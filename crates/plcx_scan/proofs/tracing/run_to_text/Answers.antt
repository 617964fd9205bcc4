use Rattle.std.proofs.Common.{◌∙◌, ap, sym}
use Rattle.plcx_state.specs.Layouts.{Laid}
use Rattle.plcx_state.specs.Lines.{retained_lines}
use Rattle.plcx_scan.specs.Events.{meant_events}
use Rattle.plcx_scan.proofs.Runs.{all_brought, on_err}
use Rattle.plcx_scan.proofs.Told.{run_text}
use Rattle.plcx_scan.proofs.tracing.run_to_text.Goals as goal

pub returns-in_err-retained-clause-stopped : goal.returns-in_err-retained-clause-stopped
returns-in_err-retained-clause-stopped g c =
    on_err c.from_residual-in_err-retained.result _
    (all_brought (g.S.Side.machine c.args.side.now) c.args.turns _ (g.S.Side.stands_for c.args.side.now) (g.S.Side.stands_for c.run.new.side) c.in_ok-trace.ensures.meaning)

pub returns-in_err-trace_text-clause-stopped : goal.returns-in_err-trace_text-clause-stopped
returns-in_err-trace_text-clause-stopped g c =
    on_err c.from_residual-in_err-trace_text.result _
    (all_brought (g.S.Side.machine c.args.side.now) c.args.turns _ (g.S.Side.stands_for c.args.side.now) (g.S.Side.stands_for c.run.new.side) c.in_ok-trace.ensures.meaning)

pub returns-clause-text : goal.returns-clause-text
returns-clause-text g c =
    let over = c.in_ok-trace.ensures in
    run_text (g.S.Side.machine c.args.side.now) _ over.machine c.args.turns
    (meant_events (g.S.Side.laid c.args.side.now).leaves c.args.events.now)
    (g.S.Side.stands_for c.args.side.now) (g.S.Side.stands_for c.run.new.side) _ _ (ap (λ (l : Laid). l.leaves) over.laid)
    c.in_ok-trace.trace.rows c.values.result.now c.in_ok-retained.retained.items _ c.layout.ensures.meaning over.lines over.rows over.meaning c.values.ensures.typed c.values.ensures.meaning
    (c.in_ok-retained.ensures ∙ ap (retained_lines (g.S.Side.laid c.run.new.side).leaves) (sym c.values.ensures.held))
    (rw (c.layout.ensures.laid, c.deref.ensures.value) at c.in_ok-trace_text.ensures)
