use Rattle.std.proofs.Common.{ap}
use Rattle.plcx_eval.specs.Watching.{Lenders}
use Rattle.plcx_eval.specs.Sides.{laid_of}
use Rattle.plcx_scan.specs.Events.{meant_events}
use Rattle.plcx_cover.specs.Counts.{told}
use Rattle.plcx_cover.proofs.Covered.{lines_of, covers, covers_some, own_machine, same_lenders}
use Rattle.plcx_cover.proofs.Lent.{on_ok, on_err}
use Rattle.plcx_cover.proofs.running.run_listened.Goals as goal

pub returns-clause-same_side : goal.returns-clause-same_side
returns-clause-same_side c = ap (λ (n : Lenders). n.diagram) (same_lenders told c.args.side.now c.run.new.side c.run.ensures.machine)

pub returns-clause-same_cover : goal.returns-clause-same_cover
returns-clause-same_cover c = ap (λ (n : Lenders). n.watch) (same_lenders told c.args.side.now c.run.new.side c.run.ensures.machine)

pub returns-clause-lines : goal.returns-clause-lines
returns-clause-lines c =
    lines_of c.args.side.now c.run.new.side c.args.turns (meant_events (laid_of c.args.side.now.side.now).leaves c.args.events.now) c.run.result c.run.ensures.lines

pub returns-clause-covers : goal.returns-clause-covers
returns-clause-covers c = on_ok c.run.result _ _ (λ brings. covers c.args.side.now c.run.new.side c.args.turns c.watch_is_told.ensures _ brings) c.run.ensures.meaning

pub returns-clause-stopped : goal.returns-clause-stopped
returns-clause-stopped c = on_err c.run.result _ _ (λ brings. covers_some c.args.side.now c.run.new.side c.args.turns c.watch_is_told.ensures _ brings) c.run.ensures.stopped

pub returns-clause-machine : goal.returns-clause-machine
returns-clause-machine c = own_machine told c.args.side.now c.run.new.side c.run.ensures.machine
