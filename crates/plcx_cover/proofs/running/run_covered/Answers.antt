use Rattle.std.proofs.Common.{rules, subst}
use Rattle.std.specs.Prelude.{IfOk, OnOk, OnErr}
use Rattle.plcx_eval.specs.declared.side.DiagramSide.{DiagramSide}
use Rattle.plcx_eval.specs.Sides.{machine_of, laid_of, StandsFor}
use Rattle.plcx_scan.specs.Events.{meant_events}
use Rattle.plcx_scan.specs.Rows.{meant_lines}
use Rattle.plcx_scan.specs.Sides.{HasLines}
use Rattle.plcx_cover.specs.Covers.{Grows, GrowsSome}
use Rattle.plcx_cover.proofs.Lent.{lent, counts_of, counts_some}
use Rattle.plcx_cover.proofs.running.run_covered.Goals as goal

pub returns-clause-lines : goal.returns-clause-lines
returns-clause-lines c =
    subst (λ (s : DiagramSide). IfOk c.run_listened.result (λ trace. HasLines (machine_of s) c.args.turns (meant_events (laid_of s).leaves c.args.events.now) (StandsFor s) (meant_lines trace.rows)))
    c.new-watched.ensures.side c.run_listened.ensures.lines

pub returns-clause-counts : goal.returns-clause-counts
returns-clause-counts c =
    lent (λ s b m. OnOk c.run_listened.result (Grows c.args.turns (meant_events (laid_of s).leaves c.args.events.now) s b m)) _ _ _ _ _ _
    c.new-watched.ensures.side c.new-watched.ensures.watch (search rules) (counts_of c.run_listened.result _ _ _ _ _ _ c.run_listened.ensures.covers)

pub returns-clause-stopped : goal.returns-clause-stopped
returns-clause-stopped c =
    lent (λ s b m. OnErr c.run_listened.result (GrowsSome c.args.turns (meant_events (laid_of s).leaves c.args.events.now) s b m)) _ _ _ _ _ _
    c.new-watched.ensures.side c.new-watched.ensures.watch (search rules) (counts_some c.run_listened.result _ _ _ _ _ _ c.run_listened.ensures.stopped)
