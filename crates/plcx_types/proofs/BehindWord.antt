-- A text that begins with a word.
use Rattle.std.proofs.Common.{◌≡◌, ◌<◌, ℕ, inl, inr, List, [], ◌∷◌, ◌++◌, length, take, drop, Some, None, refl, ap, arith, nat_eq, sym, ◌∙◌, ◌+◌, get_or, add-one, drop-cons}
use Rattle.std.proofs.lemmas.Bool.{eqb-true, eq-eqb, cases_Bool}
use Rattle.std.specs.Char.{to_ascii_lowercase}
use Rattle.std.proofs.lemmas.List.{take-map, drop-map, length-map, length-take}
use Rattle.plcx_types.specs.Name.{in_lower_case}
use Rattle.plcx_types.specs.Reading.{behind}

-- it goes on with what stands behind the word
pub behind_some : (word text : List ℕ) → take (length word) text ≡ word → behind word text ≡ Some (drop (length word) text)
behind_some [] text same = refl
behind_some (w ∷ ws) [] same = absurd (cc)
behind_some (w ∷ ws) (b ∷ bs) same =
    let first : b ≡ w = cc in
    let again = behind_some ws bs (cc) in
    rw (eq-eqb b w first) again

pub behind_none : (word text : List ℕ) → (take (length word) text ≡ word → ⊥) → behind word text ≡ None
behind_none [] text other = absurd (other refl)
behind_none (w ∷ ws) [] other = refl
behind_none (w ∷ ws) (b ∷ bs) other = elim (cases_Bool (nat_eq b w)) [
  | inl same ↦ rw same (behind_none ws bs (λ rest. let first : b ≡ w = eqb-true b w same in other (cc)))
  | inr apart ↦ rw apart
]

pub behind_again : (word rest : List ℕ) → behind word (word ++ rest) ≡ Some rest
behind_again [] rest = refl
behind_again (w ∷ ws) rest = rw (eq-eqb w w refl) (behind_again ws rest)

pub behind_is : (word text rest : List ℕ) → behind word text ≡ Some rest → text ≡ word ++ rest
behind_is [] text rest found = cc
behind_is (w ∷ ws) [] rest found = absurd (cc)
behind_is (w ∷ ws) (b ∷ bs) rest found = elim (cases_Bool (nat_eq b w)) [
  | inl same ↦ let first : b ≡ w = eqb-true b w same in let again = behind_is ws bs rest (rw same at found) in cc
  | inr apart ↦ absurd (let none = rw apart at found in cc)
]

-- texts in any case
lower_take : (n : ℕ) (text : List ℕ) → in_lower_case (take n text) ≡ take n (in_lower_case text)
lower_take n text = sym (take-map to_ascii_lowercase n text)

lower_drop : (n : ℕ) (text : List ℕ) → in_lower_case (drop n text) ≡ drop n (in_lower_case text)
lower_drop n text = sym (drop-map to_ascii_lowercase n text)

lower_length : (text : List ℕ) → length (in_lower_case text) ≡ length text
lower_length text = length-map text to_ascii_lowercase

pub lower_some : (word text front rest : List ℕ) → front ≡ take (length word) text → rest ≡ drop (length word) text → in_lower_case front ≡ in_lower_case word → behind (in_lower_case word) (in_lower_case text) ≡ Some (in_lower_case rest)
lower_some word text front rest is_front is_rest same =
    let n = lower_length word in
    behind_some (in_lower_case word) (in_lower_case text) (rw n (sym (lower_take (length word) text) ∙ ap in_lower_case (sym is_front) ∙ same))
    ∙ rw n (ap Some (sym (lower_drop (length word) text) ∙ ap in_lower_case (sym is_rest)))

pub lower_none : (word text front : List ℕ) → front ≡ take (length word) text → (in_lower_case front ≡ in_lower_case word → ⊥) → behind (in_lower_case word) (in_lower_case text) ≡ None
lower_none word text front is_front other =
    behind_none (in_lower_case word) (in_lower_case text) (λ same. other (ap in_lower_case is_front ∙ lower_take (length word) text ∙ (rw (lower_length word) at same)))

pub lower_short : (word text : List ℕ) → length text < length word → behind (in_lower_case word) (in_lower_case text) ≡ None
lower_short word text short =
    behind_none (in_lower_case word) (in_lower_case text) (λ same. absurd (omega (arith, ap length same, length-take (length (in_lower_case word)) (in_lower_case text), lower_length word, lower_length text)))

-- a text from one of its bytes on
pub lower_at : (text : List ℕ) (i : ℕ) → i < length text → in_lower_case (drop i text) ≡ to_ascii_lowercase (get_or text i 0) ∷ in_lower_case (drop (i + 1) text)
lower_at text i within = rw (add-one, drop-cons text i 0 within)
