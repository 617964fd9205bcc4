use Rattle.std.proofs.Common.{ℕ, List, Some, None, arith, sym, ◌∙◌, subst}
use Rattle.plcx_types.specs.Name.{in_lower_case}
use Rattle.plcx_types.specs.Address.{ArePlaces}
use Rattle.plcx_lex.specs.Scan.{LongestOf, NoneOf}
use Rattle.plcx_lex.proofs.TypedScan.{rest_all}
use Rattle.plcx_lex.proofs.AddressScan.{address_none, sized_here, plain_here}
use Rattle.plcx_lex.proofs.address.address_len.Goals.{then-text-lt3-via-then-text-lt3, then-text-lt3-via-else-text-lt3+then-text-ne37, then-text-lt3-via-else-text-lt3+else-text-ne37+then-not-is_area}
use Rattle.plcx_lex.proofs.address.address_len.Goals as goal

pub returns-then-text-lt3 : goal.returns-then-text-lt3
returns-then-text-lt3 c = elim c.then-text-lt3.branch [
  | then-text-lt3-via-then-text-lt3 w ↦ address_none c.args.text.now (λ long mark area. let short = w.if-text-lt3.true in absurd (omega arith))
  | then-text-lt3-via-else-text-lt3+then-text-ne37 w ↦ address_none c.args.text.now (λ long mark area. w.if-text-ne37.true mark)
  | then-text-lt3-via-else-text-lt3+else-text-ne37+then-not-is_area w ↦ address_none c.args.text.now (λ long mark area. let bad = sym (sym w.is_area.ensures ∙ w.if-not-is_area.true) ∙ area in absurd (cc))
]

pub returns-in-None : goal.returns-in-None
returns-in-None c =
    sized_here c.args.text.now None c.if-text-lt3.false c.if-text-ne37.false (sym c.is_area.ensures ∙ c.if-not-is_area.false) (sym c.is_size.ensures ∙ c.if-is_size.true)
    (subst (λ (t : List ℕ). NoneOf (ArePlaces 8) (in_lower_case t)) (rest_all c.args.text.now 3) c.in-None.ensures)

pub returns-in-Some : goal.returns-in-Some
returns-in-Some c =
    sized_here c.args.text.now (Some c.in-Some.n) c.if-text-lt3.false c.if-text-ne37.false (sym c.is_area.ensures ∙ c.if-not-is_area.false) (sym c.is_size.ensures ∙ c.if-is_size.true)
    (subst (λ (t : List ℕ). LongestOf (ArePlaces 8) (in_lower_case t) c.in-Some.n) (rest_all c.args.text.now 3) c.in-Some.ensures)

pub returns-in-None-places_len : goal.returns-in-None-places_len
returns-in-None-places_len c =
    plain_here c.args.text.now None c.if-text-lt3.false c.if-text-ne37.false (sym c.is_area.ensures ∙ c.if-not-is_area.false) (sym c.is_size.ensures ∙ c.if-is_size.false)
    (subst (λ (t : List ℕ). NoneOf (ArePlaces 8) (in_lower_case t)) (rest_all c.args.text.now 2) c.in-None-places_len.ensures)

pub returns-in-Some-places_len : goal.returns-in-Some-places_len
returns-in-Some-places_len c =
    plain_here c.args.text.now (Some c.in-Some-places_len.n) c.if-text-lt3.false c.if-text-ne37.false (sym c.is_area.ensures ∙ c.if-not-is_area.false) (sym c.is_size.ensures ∙ c.if-is_size.false)
    (subst (λ (t : List ℕ). LongestOf (ArePlaces 8) (in_lower_case t) c.in-Some-places_len.n) (rest_all c.args.text.now 2) c.in-Some-places_len.ensures)
