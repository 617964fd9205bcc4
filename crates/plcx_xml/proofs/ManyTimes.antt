-- Reading over and over, turn by turn.
use Rattle.std.proofs.Common.{◌≡◌, ◌<◌, ◌++◌, ◌+◌, ◌-◌, [], ◌∷◌, ℕ, suc, zero, List, sym, ◌∙◌, ap, refl, append_assoc, append-nil, arith, None, Some}
use Rattle.std.specs.declared.option.Option.{Option}
use Rattle.plcx_xml.specs.Reads.{many, after_front}

module _ {A : Type 0} (read : List ℕ → Option (A × List ℕ)) where
  -- nothing is read where nothing stands
  pub many-none : (n : ℕ) (bytes : List ℕ) → None ≡ read bytes → many read n bytes ≡ ([], bytes)
  many-none zero bytes h = refl
  many-none (suc n) bytes h = rw (← h)

  pub many-some : (n : ℕ) (bytes : List ℕ) (a : A × List ℕ) → Some a ≡ read bytes → many read (suc n) bytes ≡ (a.0 ∷ (many read n a.1).0, (many read n a.1).1)
  many-some n bytes a h = rw (← h)

  -- the loop ends where nothing more is read
  pub many-ends : (front : List A) (n : ℕ) (bytes : List ℕ) (whole : List A × List ℕ) → None ≡ read bytes → after_front front (many read n bytes) ≡ whole → (front, bytes) ≡ whole
  many-ends front n bytes whole h p =
      ap (λ (xs : List A). let r : List A × List ℕ = (xs, bytes) in r) (sym (append-nil front)) ∙ (ap (after_front front) (sym (many-none n bytes h)) ∙ p)

  -- a turn reads one more
  pub many-turn : (front : List A) (n t : ℕ) (bytes : List ℕ) (whole : List A × List ℕ) (a : A × List ℕ) → t < n → Some a ≡ read bytes → after_front front (many read (n - t) bytes) ≡ whole → after_front (front ++ a.0 ∷ []) (many read (n - (t + 1)) a.1) ≡ whole
  many-turn front n t bytes whole a l h p =
      let left : n - t ≡ suc (n - (t + 1)) = omega arith in
      let q = rw left at p in
      ap (λ (xs : List A). let r : List A × List ℕ = (xs, (many read (n - (t + 1)) a.1).1) in r) (append_assoc front (a.0 ∷ []) (many read (n - (t + 1)) a.1).0)
      ∙ (ap (after_front front) (sym (many-some (n - (t + 1)) bytes a h)) ∙ q)
