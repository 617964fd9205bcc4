use Rattle.std.proofs.Common.{rules, subst}
use Rattle.std.specs.Prelude.{IfOk, IfErr}
use Rattle.plcx_io.specs.Counts.{Rose}
use Rattle.plcx_eval.specs.declared.side.DiagramSide.{DiagramSide}
use Rattle.plcx_eval.specs.Sides.{machine_of}
use Rattle.plcx_traced.specs.Files.{WhyNotFollowed}
use Rattle.plcx_simulate.specs.Listening.{IsWatchedTrace, StopsWatched}
use Rattle.plcx_simulate.proofs.Lent.{lent}
use Rattle.plcx_simulate.proofs.simulating.watched.Goals as goal

pub returns-clause-ok : goal.returns-clause-ok
returns-clause-ok g c =
    let r = c.args.run.now in
    lent g.W.Watch.told (λ s Became. IfOk c.listened.result (λ text. IsWatchedTrace (g.D.Desk.file c.args.desk.now r.events.now) r.turns s Became text.items)) _ _ _ _ _ _
    c.new-watched.ensures.side c.new-watched.ensures.watch (search rules) c.listened.ensures.ok

pub returns-clause-err : goal.returns-clause-err
returns-clause-err g c =
    let events = c.args.run.now.events.now in
    let rose = Rose (g.D.Desk.faults c.args.desk.now events) (g.D.Desk.faults c.listened.new.desk events) in
    subst (λ (s : DiagramSide). IfErr c.listened.result (WhyNotFollowed (g.D.Desk.file c.args.desk.now events) rose (machine_of s).layout)) c.new-watched.ensures.side c.listened.ensures.err

pub returns-clause-stops : goal.returns-clause-stops
returns-clause-stops g c =
    let r = c.args.run.now in
    lent g.W.Watch.told (λ s Became. IfErr c.listened.result (StopsWatched (g.D.Desk.file c.args.desk.now r.events.now) r.turns s Became)) _ _ _ _ _ _
    c.new-watched.ensures.side c.new-watched.ensures.watch (search rules) c.listened.ensures.stops
