use Rattle.std.proofs.Common.{◌≡◌, ◌<◌, ◌≤◌, ℕ, Bool, arith, length, true, false, refl, sym, ◌∙◌, ap, eq-eqb}
use Rattle.std.specs.Bool.{◌==◌}
use Rattle.std.specs.Prelude.{codes}
use Rattle.std.proofs.lemmas.Bool.{both_ways, eqb-true}
use Rattle.plcx_types.specs.Name.{in_lower_case}
use Rattle.plcx_types.specs.Reading.{behind}
use Rattle.plcx_types.proofs.Addresses.{rest_of, long_enough, short_digits, last_place, more_places, places_behind, no_places_behind, no_rest, some_rest}
use Rattle.plcx_types.proofs.address.+are_places.Goals.{then-most-eq0-via-then-most-eq0, then-most-eq0-via-else-most-eq0+then-is_empty, then-most-eq0-via-else-most-eq0+else-is_empty+then-digits-gt9}
use Rattle.plcx_types.proofs.address.+are_places.Goals as goal

-- what `is_empty` answers
is_none : (n : ℕ) (answer : Bool) → answer ≡ (n == 0) → answer ≡ true → n ≡ 0
is_none n answer is held = eqb-true n 0 (sym is ∙ held)

is_some : (n : ℕ) (answer : Bool) → answer ≡ (n == 0) → answer ≡ false → n ≡ 0 → ⊥
is_some n answer is failed none = both_ways answer failed (is ∙ eq-eqb n 0 none)

pub returns-then-most-eq0 : goal.returns-then-most-eq0
returns-then-most-eq0 t c =
    let digits = c.split_digits.result.0.now in
    let low = in_lower_case c.args.text.now in
    elim c.then-most-eq0.branch [
      | then-most-eq0-via-then-most-eq0 w ↦ ((λ h. absurd (cc)), (λ are. let s = short_digits c.args.most low digits c.split_digits.ensures.digits are in let none = w.if-most-eq0.true in absurd (omega arith)))
      | then-most-eq0-via-else-most-eq0+then-is_empty w ↦ ((λ h. absurd (cc)), (λ are. let s = short_digits c.args.most low digits c.split_digits.ensures.digits are in let none = is_none (length digits) _ w.is_empty.ensures w.if-is_empty.true in absurd (omega arith)))
      | then-most-eq0-via-else-most-eq0+else-is_empty+then-digits-gt9 w ↦ ((λ h. absurd (cc)), (λ are. let s = short_digits c.args.most low digits c.split_digits.ensures.digits are in let many = w.if-digits-gt9.true in absurd (omega arith)))
    ]

pub returns-then-is_empty-2 : goal.returns-then-is_empty-2
returns-then-is_empty-2 t c =
    let digits = c.split_digits.result.0.now in
    let low = in_lower_case c.args.text.now in
    let positive : 0 < c.args.most = (let some = c.if-most-eq0.false in omega arith) in
    let long : 1 ≤ length digits = (let some = is_some (length digits) _ c.is_empty.ensures c.if-is_empty.false in omega arith) in
    let ends : rest_of low ≡ _ = sym c.split_digits.ensures.rest ∙ no_rest c.split_digits.result.1.now (is_none (length c.split_digits.result.1.now) _ c.is_empty-2.ensures c.if-is_empty-2.true) in
    ((λ h. last_place c.args.most low positive (long_enough low digits c.split_digits.ensures.digits long c.if-digits-gt9.false) ends), (λ are. refl))

pub returns-in-Some : goal.returns-in-Some
returns-in-Some t c =
    let digits = c.split_digits.result.0.now in
    let low = in_lower_case c.args.text.now in
    let positive : 0 < c.args.most = (let some = c.if-most-eq0.false in omega arith) in
    let long : 1 ≤ length digits = (let some = is_some (length digits) _ c.is_empty.ensures c.if-is_empty.false in omega arith) in
    let goes = ap (behind (codes ".")) (sym c.split_digits.ensures.rest) ∙ c.in-Some.ensures in (
      (λ h. more_places c.args.most low (in_lower_case c.in-Some.rest.now) positive (long_enough low digits c.split_digits.ensures.digits long c.if-digits-gt9.false) goes (c.are_places.ensures.0 h)),
      (λ are. c.are_places.ensures.1 (places_behind c.args.most low (in_lower_case c.in-Some.rest.now) goes are)),
    )

pub returns-in-None : goal.returns-in-None
returns-in-None t c =
    let low = in_lower_case c.args.text.now in
    let rest = c.split_digits.result.1.now in
    let none = ap (behind (codes ".")) (sym c.split_digits.ensures.rest) ∙ c.in-None.ensures in (
      (λ h. absurd (cc)),
      (λ are. absurd (no_places_behind c.args.most low none (λ ends. some_rest rest (is_some (length rest) _ c.is_empty-2.ensures c.if-is_empty-2.false) (c.split_digits.ensures.rest ∙ ends)) are)),
    )
