-- Whole numbers and truths as the forms that are scanned.
use Rattle.std.proofs.Common.{◌≡◌, ℕ, ℤ, pos, neg_ℤ, false, inl, inr, List, ◌++◌, take, Option, refl, sym, subst}
use Rattle.std.specs.Prelude.{codes}
use Rattle.plcx_types.specs.Numeral.{IsNumeral, IsWholeNumber, plain, plus, minus, binary, octal, hexadecimal}
use Rattle.std.proofs.lemmas.Bool.{false_from_ne_true}
use Rattle.plcx_types.specs.declared.ty.Ty.{Ty}
use Rattle.plcx_types.specs.declared.ty.Ty.TheVariants as ty
use Rattle.plcx_types.specs.TypeName.{same_ty}
use Rattle.plcx_types.proofs.TypeTable.{same_is}
use Rattle.plcx_types.specs.Literal.{IsTruth, IsNumber}
use Rattle.plcx_types.specs.Literal as form
use Rattle.plcx_lex.specs.Scan.{Finds, Either, After, Numeral, Number, Whole, Truth, longer}
use Rattle.plcx_lex.proofs.Finding.{alike, either}

abbrev pub Signed : List ℕ → Type 0
Signed = Either (After (codes "+") (Numeral 10)) (After (codes "-") (Numeral 10))

abbrev pub Small : List ℕ → Type 0
Small = Either (After (codes "2#") (Numeral 2)) (After (codes "8#") (Numeral 8))

abbrev pub Plain : List ℕ → Type 0
Plain = Either (After (codes "16#") (Numeral 16)) (Numeral 10)

after_refl : (word rest : List ℕ) (base n : ℕ) → IsNumeral base rest n → After word (Numeral base) (word ++ rest)
after_refl word rest base n is = (rest, refl, (n, is))

way_of : (xs : List ℕ) (n : ℤ) → IsWholeNumber xs n → Either Signed (Either Small Plain) xs
way_of xs n (plain {n = m} is) = inr (inr (inr (m, is)))
way_of xs n (plus {text = rest} {n = m} is) = inl (inl (after_refl (codes "+") rest 10 m is))
way_of xs n (minus {text = rest} {n = m} is) = inl (inr (after_refl (codes "-") rest 10 m is))
way_of xs n (binary {text = rest} {n = m} is) = inr (inl (inl (after_refl (codes "2#") rest 2 m is)))
way_of xs n (octal {text = rest} {n = m} is) = inr (inl (inr (after_refl (codes "8#") rest 8 m is)))
way_of xs n (hexadecimal {text = rest} {n = m} is) = inr (inr (inl (after_refl (codes "16#") rest 16 m is)))

behind_whole : (word xs : List ℕ) (base : ℕ) → ((rest : List ℕ) (m : ℕ) → IsNumeral base rest m → Whole (word ++ rest)) → After word (Numeral base) xs → Whole xs
behind_whole word xs base make h = subst Whole (sym h.1) (make h.0 h.2.0 h.2.1)

whole_of : (xs : List ℕ) → Either Signed (Either Small Plain) xs → Whole xs
whole_of xs (inl (inl h)) = behind_whole (codes "+") xs 10 (λ rest m is. (pos m, plus is)) h
whole_of xs (inl (inr h)) = behind_whole (codes "-") xs 10 (λ rest m is. (neg_ℤ (pos m), minus is)) h
whole_of xs (inr (inl (inl h))) = behind_whole (codes "2#") xs 2 (λ rest m is. (pos m, binary is)) h
whole_of xs (inr (inl (inr h))) = behind_whole (codes "8#") xs 8 (λ rest m is. (pos m, octal is)) h
whole_of xs (inr (inr (inl h))) = behind_whole (codes "16#") xs 16 (λ rest m is. (pos m, hexadecimal is)) h
whole_of xs (inr (inr (inr h))) = (pos h.0, plain h.1)

pub whole_finds : (xs : List ℕ) (a b c d e f : Option ℕ) → Finds (After (codes "+") (Numeral 10)) xs a → Finds (After (codes "-") (Numeral 10)) xs b → Finds (After (codes "2#") (Numeral 2)) xs c → Finds (After (codes "8#") (Numeral 8)) xs d
    → Finds (After (codes "16#") (Numeral 16)) xs e → Finds (Numeral 10) xs f → Finds Whole xs (longer (longer a b) (longer (longer c d) (longer e f)))
whole_finds xs a b c d e f p q r s t u =
    alike (Either Signed (Either Small Plain)) Whole xs _ (λ m h. whole_of (take m xs) h) (λ m h. way_of (take m xs) h.0 h.1)
    (either Signed (Either Small Plain) xs (longer a b) (longer (longer c d) (longer e f)) (either (After (codes "+") (Numeral 10)) (After (codes "-") (Numeral 10)) xs a b p q)
    (either Small Plain xs (longer c d) (longer e f) (either (After (codes "2#") (Numeral 2)) (After (codes "8#") (Numeral 8)) xs c d r s) (either (After (codes "16#") (Numeral 16)) (Numeral 10) xs e f t u)))

abbrev pub Is : List ℕ → List ℕ → Type 0
Is word text = text ≡ word

truth_way : (xs : List ℕ) (n : ℤ) → IsTruth xs n → Either (Is (codes "true")) (Is (codes "false")) xs
truth_way xs n form.IsTruth.truth = inl refl
truth_way xs n form.falsehood = inr refl

truth_of : (xs : List ℕ) → Either (Is (codes "true")) (Is (codes "false")) xs → Truth xs
truth_of xs (inl is) = (pos 1, subst (λ t. IsTruth t (pos 1)) (sym is) form.IsTruth.truth)
truth_of xs (inr is) = (pos 0, subst (λ t. IsTruth t (pos 0)) (sym is) form.falsehood)

pub truth_finds : (xs : List ℕ) (a b : Option ℕ) → Finds (λ front. front ≡ codes "true") xs a → Finds (λ front. front ≡ codes "false") xs b → Finds Truth xs (longer a b)
truth_finds xs a b p q = alike (Either (Is (codes "true")) (Is (codes "false"))) Truth xs _ (λ m h. truth_of (take m xs) h) (λ m h. truth_way (take m xs) h.0 h.1) (either (Is (codes "true")) (Is (codes "false")) xs a b p q)

-- ---- numbers of a type

-- what stands behind the name of a type other than TIME
other_way : (t : Ty) (xs : List ℕ) (n : ℤ) → (t ≡ ty.Time → ⊥) → IsNumber t xs n → Either Truth Whole xs
other_way t xs n other (form.IsNumber.truth {n = m} is) = inl (n, is)
other_way t xs n other (form.IsNumber.whole {n = m} apart is) = inr (n, is)
other_way t xs n other (form.time is) = absurd (other refl)

pub bool_finds : (xs : List ℕ) (a b : Option ℕ) → Finds Truth xs a → Finds Whole xs b → Finds (Number ty.Bool) xs (longer a b)
bool_finds xs a b p q = alike (Either Truth Whole) (Number ty.Bool) xs _ (λ m h. of_bool (take m xs) h) (λ m h. other_way ty.Bool (take m xs) h.0 (λ is. absurd (cc)) h.1) (either Truth Whole xs a b p q)
  where
    of_bool : (ys : List ℕ) → Either Truth Whole ys → Number ty.Bool ys
    of_bool ys (inl h) = (h.0, form.IsNumber.truth h.1)
    of_bool ys (inr h) = (h.0, form.IsNumber.whole refl h.1)

whole_way : (t : Ty) (xs : List ℕ) (n : ℤ) → (t ≡ ty.Bool → ⊥) → (t ≡ ty.Time → ⊥) → IsNumber t xs n → Whole xs
whole_way t xs n no_bool no_time (form.IsNumber.truth is) = absurd (no_bool refl)
whole_way t xs n no_bool no_time (form.IsNumber.whole apart is) = (n, is)
whole_way t xs n no_bool no_time (form.time is) = absurd (no_time refl)

apart_from : (t : Ty) → (t ≡ ty.Time → ⊥) → same_ty t ty.Time ≡ false
apart_from t other = false_from_ne_true _ (λ h. other (same_is t ty.Time h))

pub other_finds : (t : Ty) (xs : List ℕ) (a : Option ℕ) → (t ≡ ty.Bool → ⊥) → (t ≡ ty.Time → ⊥) → Finds Whole xs a → Finds (Number t) xs a
other_finds t xs a no_bool no_time p =
    alike Whole (Number t) xs a (λ m h. (h.0, form.IsNumber.whole (apart_from t no_time) h.1)) (λ m h. whole_way t (take m xs) h.0 no_bool no_time h.1) p
