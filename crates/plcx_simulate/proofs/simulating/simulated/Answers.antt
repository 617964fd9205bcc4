use Rattle.std.proofs.Common.{◌≡◌, Err, rules, List, ℕ}
use Rattle.std.proofs.lemmas.Result.{IfErr-weaker}
use Rattle.std.specs.List.{fold}
use Rattle.plcx_io.specs.Counts.{Rose}
use Rattle.plcx_meaning.specs.Evaluate.{Heard}
use Rattle.plcx_words.specs.Says.{said_by_run}
use Rattle.plcx_traced.specs.Runs.{Begun}
use Rattle.plcx_traced.proofs.Made.{not_begun, not_followed, followed_wider}
use Rattle.plcx_simulate.specs.Programs.{programs_of, diagrams_in}
use Rattle.plcx_simulate.proofs.Heard.{trace_wider, stops_wider, opened, traced_all, stopped_there, match_result}
use Rattle.plcx_simulate.proofs.Simulated.{chosen, both_ok, rose_later}
use Rattle.plcx_simulate.proofs.simulating.simulated.Goals as goal

pub returns-in_err-kept-clause-err : goal.returns-in_err-kept-clause-err
returns-in_err-kept-clause-err g c =
    let r = said_by_run c.args.run.now in
    let ch = chosen c.args.checked.now r c.args.program.now c.in_ok-layout.layout c.requires c.in_ok-layout.ensures.laid c.in_ok-layout.ensures.numbered in
    let same : c.from_residual-in_err-kept.result ≡ Err c.in_err-kept.field-0.0 = search rules in
    rw same (not_begun (programs_of (diagrams_in c.args.checked.now)) (g.D.Desk.file c.args.desk.now) r
    (λ name. Rose (g.D.Desk.faults c.args.desk.now name) (g.D.Desk.faults c.begun.new.desk name)) ch c.in_err-kept.field-0.0 c.in_err-kept.ensures.err)

pub watched-requires-clause-stands : goal.watched-requires-clause-stands
watched-requires-clause-stands g c =
    let q = c.requires in
    (_, (c.in_ok-side.ensures.opens q.pou q.named).begins)

pub returns-clause-ok : goal.returns-clause-ok
returns-clause-ok g c =
    let r = said_by_run c.args.run.now in
    let q = c.requires in
    let project = diagrams_in c.args.checked.now in
    let told = g.D.Desk.file c.args.desk.now in
    let ch = chosen c.args.checked.now r c.args.program.now c.in_ok-layout.layout q c.in_ok-layout.ensures.laid c.in_ok-layout.ensures.numbered in
    let b : Begun told (programs_of project) r = record { chosen = ch; kept = c.in_ok-kept.kept; begins = c.in_ok-kept.ensures.ok } in
    let o = c.in_ok-side.ensures in
    both_ok c.watched.result _ _ _ (λ text plain t. (traced_all project told r b c.in_ok-side.side o.of (o.opens q.pou q.named) _ text.items plain
    (trace_wider _ _ (c.begun.ensures.files r.events) _ _ _ text.items t)).traced) c.watched.ensures.plain c.watched.ensures.ok

pub returns-clause-err : goal.returns-clause-err
returns-clause-err g c =
    let r = said_by_run c.args.run.now in
    let q = c.requires in
    let project = diagrams_in c.args.checked.now in
    let told = g.D.Desk.file c.args.desk.now in
    let ch = chosen c.args.checked.now r c.args.program.now c.in_ok-layout.layout q c.in_ok-layout.ensures.laid c.in_ok-layout.ensures.numbered in
    let b : Begun told (programs_of project) r = record { chosen = ch; kept = c.in_ok-kept.kept; begins = c.in_ok-kept.ensures.ok } in
    let o = c.in_ok-side.ensures in
    let rose = λ (name : List ℕ). Rose (g.D.Desk.faults c.args.desk.now name) (g.D.Desk.faults c.watched.new.desk name) in
    IfErr-weaker c.watched.result _ _ (λ e h.
    not_followed (programs_of project) told r b _ _ _ (opened project told r b c.in_ok-side.side o.of (o.opens q.pou q.named)) rose e
    (followed_wider _ _ (c.begun.ensures.files r.events) _ _ (λ x. rose_later _ _ _ (c.begun.ensures.later r.events) x) _ e h)) c.watched.ensures.err

pub returns-clause-heard : goal.returns-clause-heard
returns-clause-heard g c =
    let r = said_by_run c.args.run.now in
    let q = c.requires in
    let project = diagrams_in c.args.checked.now in
    let told = g.D.Desk.file c.args.desk.now in
    let ch = chosen c.args.checked.now r c.args.program.now c.in_ok-layout.layout q c.in_ok-layout.ensures.laid c.in_ok-layout.ensures.numbered in
    let b : Begun told (programs_of project) r = record { chosen = ch; kept = c.in_ok-kept.kept; begins = c.in_ok-kept.ensures.ok } in
    let o = c.in_ok-side.ensures in
    let became = λ (heard : List Heard). c.watched.new.watch ≡ fold g.W.Watch.told c.args.watch.now heard in
    match_result c.watched.result _ _ _ _ _
    (λ text plain t. traced_all project told r b c.in_ok-side.side o.of (o.opens q.pou q.named) became text.items plain (trace_wider _ _ (c.begun.ensures.files r.events) _ _ _ text.items t))
    (λ e h. stopped_there project told r b c.in_ok-side.side o.of (o.opens q.pou q.named) became e (stops_wider _ _ (c.begun.ensures.files r.events) r.turns c.in_ok-side.side became e h))
    c.watched.ensures.plain c.watched.ensures.ok c.watched.ensures.stops
