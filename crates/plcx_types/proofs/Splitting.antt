-- A text is split at the first byte that fails a test.
use Rattle.std.proofs.Common.{◌≡◌, ◌≤◌, ◌<◌, ◌+◌, ℕ, Bool, true, false, List, [], ◌∷◌, ◌++◌, length, take, drop, get_or, refl, ap, arith, sym, ◌∙◌, append_assoc, append-nil}
use Rattle.std.proofs.lemmas.List.{take_more, map-append, drop_all}
use Rattle.std.specs.Char.{to_ascii_lowercase}
use Rattle.plcx_types.specs.Name.{in_lower_case}
use Rattle.plcx_types.specs.Reading.{front, back}
use Rattle.plcx_types.proofs.BehindWord.{lower_at}

-- so many bytes pass
pub record Splits (passes : ℕ → Bool) (text : List ℕ) (i : ℕ) : Type 0 where
  pub within : i ≤ length text
  pub fronts : front passes (in_lower_case text) ≡ in_lower_case (take i text) ++ front passes (in_lower_case (drop i text))
  pub backs : back passes (in_lower_case text) ≡ back passes (in_lower_case (drop i text))

pub splits_none : (passes : ℕ → Bool) (text : List ℕ) → Splits passes text 0
splits_none passes text = record { within = omega arith; fronts = refl; backs = refl }

pub splits_more : (passes : ℕ → Bool) (text : List ℕ) (i : ℕ) → i < length text → passes (to_ascii_lowercase (get_or text i 0)) ≡ true → Splits passes text i → Splits passes text (i + 1)
splits_more passes text i within passing splits =
    let here = lower_at text i within in
    let fronts : front passes (in_lower_case (drop i text)) ≡ to_ascii_lowercase (get_or text i 0) ∷ front passes (in_lower_case (drop (i + 1) text)) = rw (here, passing) in
    let backs : back passes (in_lower_case (drop i text)) ≡ back passes (in_lower_case (drop (i + 1) text)) = rw (here, passing) in
    let taken : in_lower_case (take (i + 1) text) ≡ in_lower_case (take i text) ++ (to_ascii_lowercase (get_or text i 0) ∷ []) = ap in_lower_case (take_more text i 0 within) ∙ map-append to_ascii_lowercase (take i text) (get_or text i 0 ∷ []) in
    record {
      within = omega arith;
      fronts = splits.fronts ∙ ap (λ xs. in_lower_case (take i text) ++ xs) fronts ∙ sym (append_assoc (in_lower_case (take i text)) (to_ascii_lowercase (get_or text i 0) ∷ []) (front passes (in_lower_case (drop (i + 1) text)))) ∙ ap (λ xs. xs ++ front passes (in_lower_case (drop (i + 1) text))) (sym taken);
      backs = splits.backs ∙ backs;
    }

-- what the split gives
pub record IsSplit (passes : ℕ → Bool) (text : List ℕ) (i : ℕ) : Type 0 where
  pub fronts : in_lower_case (take i text) ≡ front passes (in_lower_case text)
  pub backs : in_lower_case (drop i text) ≡ back passes (in_lower_case text)

pub split_at_byte : (passes : ℕ → Bool) (text : List ℕ) (i : ℕ) → i < length text → passes (to_ascii_lowercase (get_or text i 0)) ≡ false → Splits passes text i → IsSplit passes text i
split_at_byte passes text i within failing splits =
    let here = lower_at text i within in
    let fronts : front passes (in_lower_case (drop i text)) ≡ [] = rw (here, failing) in
    let backs : back passes (in_lower_case (drop i text)) ≡ in_lower_case (drop i text) = rw (here, failing) in
    record { fronts = sym (splits.fronts ∙ ap (λ xs. in_lower_case (take i text) ++ xs) fronts ∙ append-nil (in_lower_case (take i text))); backs = sym (splits.backs ∙ backs) }

pub split_at_end : (passes : ℕ → Bool) (text : List ℕ) (i : ℕ) → length text ≤ i → Splits passes text i → IsSplit passes text i
split_at_end passes text i long splits =
    let none : drop i text ≡ [] = drop_all i text long in
    let fronts : front passes (in_lower_case (drop i text)) ≡ [] = rw none in
    let backs : back passes (in_lower_case (drop i text)) ≡ in_lower_case (drop i text) = rw none in
    record { fronts = sym (splits.fronts ∙ ap (λ xs. in_lower_case (take i text) ++ xs) fronts ∙ append-nil (in_lower_case (take i text))); backs = sym (splits.backs ∙ backs) }
