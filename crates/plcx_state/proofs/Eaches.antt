-- What holds of each item of a list, one item more.
use Rattle.std.proofs.Common.{◌≡◌, ◌<◌, ◌≤◌, ◌+◌, ◌∷◌, ◌++◌, List, [], ℕ, zero, suc, take, length, get_or, Some, sym, subst}
use Rattle.std.specs.Prelude.{slice_get}
use Rattle.std.proofs.lemmas.List.{take_more, take_all}
use Rattle.plcx_types.specs.Lists.{Each}

module _ {X : Type 0} (P : X → Type 0) where
  pub each_push : (xs : List X) (x : X) → Each P xs → P x → Each P (xs ++ x ∷ [])
  each_push [] x h p = (p, tt)
  each_push (y ∷ xs) x h p = (h.0, each_push xs x h.1 p)

  pub each_more : (xs : List X) (i : ℕ) (x : X) → i < length xs → x ≡ get_or xs i x → P x → Each P (take i xs) → Each P (take (i + 1) xs)
  each_more xs i x lt at p h = subst (Each P) (sym (take_more xs i x lt)) (each_push (take i xs) (get_or xs i x) h (subst P at p))

  pub each_all : (xs : List X) (i : ℕ) → length xs ≤ i → Each P (take i xs) → Each P xs
  each_all xs i le h = subst (Each P) (take_all i xs le) h

  pub each_get : (xs : List X) (i : ℕ) (x : X) → slice_get xs i ≡ Some x → Each P xs → P x
  each_get [] i x e h = absurd (cc)
  each_get (y ∷ xs) zero x e h = let same : y ≡ x = cc in subst P same h.0
  each_get (y ∷ xs) (suc i) x e h = each_get xs i x e h.1
