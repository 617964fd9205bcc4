use Rattle.std.proofs.Common.{◌≡◌, Err, rules, List, ℕ}
use Rattle.std.proofs.lemmas.Result.{IfErr-weaker}
use Rattle.plcx_io.specs.Counts.{Rose}
use Rattle.plcx_st.specs.Meant.{meant}
use Rattle.plcx_words.specs.Says.{said_by_run}
use Rattle.plcx_traced.specs.Runs.{Begun}
use Rattle.plcx_traced.proofs.Made.{not_begun, not_followed, followed_wider, traced_is, trace_wider}
use Rattle.plcx_execute.specs.Programs.{programs_of}
use Rattle.plcx_execute.proofs.Executed.{chosen, both_ok, rose_later, opened}
use Rattle.plcx_execute.proofs.executing.executed.Goals as goal

pub returns-in_err-kept-clause-err : goal.returns-in_err-kept-clause-err
returns-in_err-kept-clause-err g c =
    let r = said_by_run c.args.run.now in
    let pous = meant c.args.ready.now in
    let ch = chosen pous r c.args.program.now c.in_ok-layout.layout c.requires c.in_ok-layout.ensures.laid c.in_ok-layout.ensures.numbered in
    let same : c.from_residual-in_err-kept.result ≡ Err c.in_err-kept.field-0.0 = search rules in
    rw same (not_begun (programs_of pous) (g.D.Desk.file c.args.desk.now) r
    (λ name. Rose (g.D.Desk.faults c.args.desk.now name) (g.D.Desk.faults c.begun.new.desk name)) ch c.in_err-kept.field-0.0 c.in_err-kept.ensures.err)

pub returns-clause-ok : goal.returns-clause-ok
returns-clause-ok g c =
    let r = said_by_run c.args.run.now in
    let q = c.requires in
    let pous = meant c.args.ready.now in
    let told = g.D.Desk.file c.args.desk.now in
    let ch = chosen pous r c.args.program.now c.in_ok-layout.layout q c.in_ok-layout.ensures.laid c.in_ok-layout.ensures.numbered in
    let b : Begun told (programs_of pous) r = record { chosen = ch; kept = c.in_ok-kept.kept; begins = c.in_ok-kept.ensures.ok } in
    let o = c.in_ok-side.ensures in
    both_ok c.traced.result _ _ _ (λ text plain t. traced_is (programs_of pous) told r b _ _ _ (opened pous told r b c.in_ok-side.side o.of (o.opens q.pou q.named)) _ text.items plain
    (trace_wider _ _ (c.begun.ensures.files r.events) _ _ _ _ text.items t)) c.traced.ensures.plain c.traced.ensures.ok

pub returns-clause-err : goal.returns-clause-err
returns-clause-err g c =
    let r = said_by_run c.args.run.now in
    let q = c.requires in
    let pous = meant c.args.ready.now in
    let told = g.D.Desk.file c.args.desk.now in
    let ch = chosen pous r c.args.program.now c.in_ok-layout.layout q c.in_ok-layout.ensures.laid c.in_ok-layout.ensures.numbered in
    let b : Begun told (programs_of pous) r = record { chosen = ch; kept = c.in_ok-kept.kept; begins = c.in_ok-kept.ensures.ok } in
    let o = c.in_ok-side.ensures in
    let rose = λ (name : List ℕ). Rose (g.D.Desk.faults c.args.desk.now name) (g.D.Desk.faults c.traced.new.desk name) in
    IfErr-weaker c.traced.result _ _ (λ e h.
    not_followed (programs_of pous) told r b _ _ _ (opened pous told r b c.in_ok-side.side o.of (o.opens q.pou q.named)) rose e
    (followed_wider _ _ (c.begun.ensures.files r.events) _ _ (λ x. rose_later _ _ _ (c.begun.ensures.later r.events) x) _ e h)) c.traced.ensures.err

pub opened-requires-clause-kept : goal.opened-requires-clause-kept
opened-requires-clause-kept g c = λ p named. record {
  laid = c.in_ok-layout.layout;
  is_laid = c.in_ok-layout.ensures.laid.laid p named;
  is = c.in_ok-kept.ensures.state;
}
