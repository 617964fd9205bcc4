-- A function so many times.
use Rattle.std.proofs.Common.{◌≡◌, ℕ, zero, suc, ◌+◌, ◌-◌, ◌<◌, refl, ap, ◌∙◌, arith}
use Rattle.plcx_tables.specs.Levels.{repeated}

module _ {A : Type 0} (f : A → A) where
  -- where it changes nothing once, it never does
  pub stays : (n : ℕ) (x : A) → f x ≡ x → repeated n f x ≡ x
  stays zero x same = refl
  stays (suc n) x same = ap (repeated n f) same ∙ stays n x same

  -- one time more
  pub once_more : (count i : ℕ) (x next whole : A) → i < count → next ≡ f x → repeated (count - i) f x ≡ whole → repeated (count - (i + 1)) f next ≡ whole
  once_more count i x next whole low is h =
      let e : suc (count - (i + 1)) ≡ count - i = omega arith in
      ap (repeated (count - (i + 1)) f) is ∙ ap (λ n. repeated n f x) e ∙ h
