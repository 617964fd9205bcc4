use Rattle.std.proofs.Common.{◌≡◌, ◌∙◌, arith, ap, refl, to_z, of_z}
use Rattle.std.specs.Int.{w128}
use Rattle.std.specs.Prelude.{Some}
use Rattle.std.specs.Borrow.{MutBor}
use Rattle.std.proofs.lemmas.Int.{ints}
use Rattle.plcx_meaning.specs.Evaluate.{DiagramState}
use Rattle.plcx_meaning.specs.Run.{Side}
use Rattle.plcx_meaning.specs.Traces.{shown_values}
use Rattle.plcx_eval.specs.Listening.{told_behind, lenders}
use Rattle.plcx_eval.specs.Sides.{diagrams, program, machine_of}
use Rattle.plcx_eval.specs.Watching.{watched}
use Rattle.plcx_eval.proofs.Hearing.{watched_runs}
use Rattle.plcx_bench.specs.Summary.{turns, ten_scans, sum_of}
use Rattle.plcx_bench.proofs.watching.sum_listened.Goals as goal

pub returns-clause-same_watch : goal.returns-clause-same_watch
returns-clause-same_watch g c =
    let stands = c.requires.stands in
    ap (λ (m : MutBor g.row.W.Denot). m.ghost_name) (c.watch_is_told.ensures c.args.side.now c.sum_of_scans.new.side turns ten_scans c.sum_of_scans.ensures.meaning stands.0 stands.1)

pub returns-clause-sum : goal.returns-clause-sum
returns-clause-sum g c = λ d stands.
    let old = c.args.side.now in
    let same : to_z w128 (of_z w128 c.sum_of_scans.result) ≡ c.sum_of_scans.result = omega (arith, ints) in
    let h = watched (lenders old) (Some old.watch) d in
    let run = watched_runs (told_behind g.W.Watch.told) (lenders old) (diagrams old.side.now) (program old.side.now) turns ten_scans h in
    same ∙ c.sum_of_scans.ensures.sum h (record { side = stands; watch = refl }) ∙ ap (λ (s : Side DiagramState). sum_of (shown_values (machine_of old.side.now) s)) run.side

pub returns-clause-heard : goal.returns-clause-heard
returns-clause-heard g c = λ d stands.
    ap (λ (m : MutBor g.row.W.Denot). m.now) (c.watch_is_told.ensures c.args.side.now c.sum_of_scans.new.side turns ten_scans c.sum_of_scans.ensures.meaning d stands)
