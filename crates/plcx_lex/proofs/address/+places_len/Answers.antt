use Rattle.std.proofs.Common.{◌+◌, ◌-◌, ◌<◌, ℕ, List, inl, inr, arith, subst}
use Rattle.std.proofs.lemmas.List.{length-take}
use Rattle.plcx_types.specs.Name.{in_lower_case}
use Rattle.plcx_types.specs.Address.{ArePlaces}
use Rattle.plcx_lex.specs.Lexis.{is_decimal}
use Rattle.plcx_lex.specs.Scan.{LongestOf, NoneOf, IsRun}
use Rattle.plcx_lex.proofs.TypedScan.{rest_all}
use Rattle.plcx_lex.proofs.PlaceScan.{places_none, places_digits, places_more}
use Rattle.plcx_lex.proofs.address.+places_len.Goals.{then-most-eq0-via-then-most-eq0, then-most-eq0-via-else-most-eq0+then-n-eq0, then-n-text-via-then-n-text, then-n-text-via-else-n-text+then-text-n-ne46}
use Rattle.plcx_lex.proofs.address.+places_len.Goals as goal

pub returns-then-most-eq0 : goal.returns-then-most-eq0
returns-then-most-eq0 t c =
    let run = subst (λ (t : List ℕ). IsRun is_decimal t c.run_len-n.result) c.prefix.ensures c.run_len-n.ensures in
    elim c.then-most-eq0.branch [
      | then-most-eq0-via-then-most-eq0 w ↦ places_none c.args.most c.args.text.now c.run_len-n.result run (inl w.if-most-eq0.true)
      | then-most-eq0-via-else-most-eq0+then-n-eq0 w ↦ places_none c.args.most c.args.text.now c.run_len-n.result run (inr w.if-n-eq0.true)
    ]

pub returns-then-n-text : goal.returns-then-n-text
returns-then-n-text t c =
    let run = subst (λ (t : List ℕ). IsRun is_decimal t c.run_len-n.result) c.prefix.ensures c.run_len-n.ensures in
    let some : 0 < c.args.most = omega (arith, c.if-most-eq0.false) in
    let digits : 0 < c.run_len-n.result = omega (arith, c.if-n-eq0.false) in
    elim c.then-n-text.branch [
      | then-n-text-via-then-n-text w ↦ places_digits c.args.most c.args.text.now c.run_len-n.result some digits run (λ lt is. let end = w.if-n-text.true in absurd (omega arith))
      | then-n-text-via-else-n-text+then-text-n-ne46 w ↦ places_digits c.args.most c.args.text.now c.run_len-n.result some digits run (λ lt is. absurd (w.if-text-n-ne46.true is))
    ]

pub returns-in-None : goal.returns-in-None
returns-in-None t c =
    let run = subst (λ (t : List ℕ). IsRun is_decimal t c.run_len-n.result) c.prefix.ensures c.run_len-n.ensures in
    places_digits c.args.most c.args.text.now c.run_len-n.result (omega (arith, c.if-most-eq0.false)) (omega (arith, c.if-n-eq0.false)) run
    (λ lt is. subst (λ (t : List ℕ). NoneOf (ArePlaces (c.args.most - 1)) (in_lower_case t)) (rest_all c.args.text.now (c.run_len-n.result + 1)) c.in-None.ensures)

pub returns-in-Some : goal.returns-in-Some
returns-in-Some t c =
    let run = subst (λ (t : List ℕ). IsRun is_decimal t c.run_len-n.result) c.prefix.ensures c.run_len-n.ensures in
    places_more c.args.most c.args.text.now c.run_len-n.result c.in-Some.more (omega (arith, c.if-most-eq0.false)) (omega (arith, c.if-n-eq0.false)) run (omega (arith, run.within, length-take 9 c.args.text.now, c.if-n-text.false)) c.if-text-n-ne46.false
    (subst (λ (t : List ℕ). LongestOf (ArePlaces (c.args.most - 1)) (in_lower_case t) c.in-Some.more) (rest_all c.args.text.now (c.run_len-n.result + 1)) c.in-Some.ensures)
