use Rattle.std.proofs.Common.{rules, ◌≡◌, ℤ, sym, ap, ap₂, ◌∙◌, subst, arith, to_z, of_z, w64}
use Rattle.std.proofs.lemmas.Int.{ints}
use mir.Val.{SFits}
use Rattle.std.specs.List.{fold}
use Rattle.plcx_meaning.specs.Run.{tells, after}
use Rattle.plcx_meaning.specs.Watch.{heard_at}
use Rattle.plcx_scan.specs.Events.{scan_of}
use Rattle.plcx_eval.specs.Listening.{told_behind, lenders, watched_machine}
use Rattle.plcx_eval.specs.Sides.{diagrams, program, machine_of, laid_of, StandsFor}
use Rattle.plcx_eval.specs.Watching.{listened_machine, unwatched}
use Rattle.plcx_eval.proofs.Hearing.{tells_same}
use Rattle.plcx_eval.proofs.Listened.{listens}
use Rattle.plcx_eval.proofs.watching.WatchedSide.scan.Goals as goal

pub returns-clause-outcome : goal.returns-clause-outcome
returns-clause-outcome g c = λ h stands.
    let old = c.args.self.now in
    let side = old.side.now in
    let fits : SFits w64 c.args.time = search rules in
    let clock = to_z w64 (of_z w64 c.args.time) in
    let same : clock ≡ c.args.time = omega (arith, ints) in
    ap (λ (t : ℤ). tells (watched_machine g.W.Watch.told old) c.args.turns (scan_of (laid_of side).leaves t c.args.inputs.now) h) (sym same)
    ∙ tells_same (told_behind g.W.Watch.told) (lenders old) (diagrams side) (program side) c.args.turns (scan_of (laid_of side).leaves clock c.args.inputs.now) h
    ∙ c.scan_watched.ensures.outcome (unwatched h) stands.side

pub returns-clause-meaning : goal.returns-clause-meaning
returns-clause-meaning g c = λ h stands.
    let old = c.args.self.now in
    let side = old.side.now in
    let fits : SFits w64 c.args.time = search rules in
    let clock = to_z w64 (of_z w64 c.args.time) in
    let same : clock ≡ c.args.time = omega (arith, ints) in
    let event = λ (t : ℤ). scan_of (laid_of side).leaves t c.args.inputs.now in
    listens g.W.Watch.told old _ c.args.turns (event c.args.time) h stands
    (subst (λ (t : ℤ). StandsFor c.scan_watched.new.self (after (machine_of side) c.args.turns (event t) (unwatched h))) same (c.scan_watched.ensures.meaning (unwatched h) stands.side))
    (ap (λ m. record old.watch { now = m })
    (c.scan_watched.ensures.heard (unwatched h) stands.side ∙ ap (λ (t : ℤ). fold g.W.Watch.told old.watch.now (heard_at (diagrams side) (program side) c.args.turns (event t) (unwatched h))) same))

pub returns-clause-machine : goal.returns-clause-machine
returns-clause-machine g c = ap₂ (listened_machine (told_behind g.W.Watch.told) (lenders c.args.self.now)) c.scan_watched.ensures.project c.scan_watched.ensures.program
