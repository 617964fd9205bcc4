-- One item more, from the back.
use Rattle.std.proofs.Common.{◌≡◌, ℕ, zero, suc, ◌+◌, ◌<◌, ◌≤◌, ◌^◌, List, [], ◌∷◌, length, drop, get_or, refl, sym, ◌∙◌, ap, subst, arith}
use Rattle.std.proofs.lemmas.List.{drop_more}
use Rattle.plcx_types.specs.Lists.{Each}
use Rattle.plcx_model.specs.declared.body.BodyElement.{BodyElement}
use Rattle.plcx_model.specs.declared.source.Source.{Source}
use Rattle.plcx_model.specs.Numbering.{LocalIdsDiffer, HasGraph, pins_of, pins_in}
use Rattle.plcx_order_rows.specs.Tested.{HasOnePin, OtherId, AreBelow}

pub each_start : {A : Type 0} (P : A → Type 0) (xs : List A) (k : ℕ) → length xs ≤ k → Each P (drop k xs)
each_start P [] zero h = tt
each_start P [] (suc k) h = tt
each_start P (x ∷ xs) zero h = absurd (omega (arith, h))
each_start P (x ∷ xs) (suc k) h = each_start P xs k (omega (arith, h))

pub each_more : {A : Type 0} (P : A → Type 0) (xs : List A) (k : ℕ) (x : A) → k < length xs → x ≡ get_or xs k x → P x → Each P (drop (k + 1) xs) → Each P (drop k xs)
each_more P xs k x h is p e = subst (Each P) (sym (drop_more xs k x h ∙ ap (λ y. y ∷ drop (k + 1) xs) (sym is))) (p, e)

pub differ_start : (xs : List BodyElement) (k : ℕ) → length xs ≤ k → LocalIdsDiffer (drop k xs)
differ_start [] zero h = tt
differ_start [] (suc k) h = tt
differ_start (x ∷ xs) zero h = absurd (omega (arith, h))
differ_start (x ∷ xs) (suc k) h = differ_start xs k (omega (arith, h))

pub differ_more : (xs : List BodyElement) (k : ℕ) (x : BodyElement) → k < length xs → x ≡ get_or xs k x → Each (OtherId x.local_id) (drop (k + 1) xs) → LocalIdsDiffer (drop (k + 1) xs) → LocalIdsDiffer (drop k xs)
differ_more xs k x h is p e = subst LocalIdsDiffer (sym (drop_more xs k x h ∙ ap (λ y. y ∷ drop (k + 1) xs) (sym is))) (p, e)

one_each : (xs : List BodyElement) → Each HasOnePin xs → pins_in xs ≡ length xs
one_each [] e = refl
one_each (x ∷ xs) e = omega (arith, e.0, one_each xs e.1)

small_each : (xs : List BodyElement) → Each HasOnePin xs → Each (λ (e : BodyElement). pins_of e.kind < 2 ^ 32) xs
small_each [] e = tt
small_each (x ∷ xs) e = (omega (arith, e.0), small_each xs e.1)

pub has : (es : List BodyElement) (pins : List (List Source)) → length es < 2 ^ 32 → length es ≡ length pins → Each HasOnePin es → Each (AreBelow (length es)) pins → LocalIdsDiffer es → HasGraph es pins
has es pins small same one below differ = record { count = small; each_count = small_each es one; each_pin = one_each es one ∙ same; within = below; differ = differ }
