-- What a loop has made, and what is left of its list.
use Rattle.std.proofs.Common.{◌≡◌, ℕ, ◌+◌, ◌<◌, List, ◌∷◌, ◌++◌, map, drop, get_or, length, ap, sym, ◌∙◌, subst}
use Rattle.std.specs.List.{flat_map}
use Rattle.std.proofs.lemmas.List.{append_assoc}
use Rattle.plcx_types.specs.Lists.{Each}
use Rattle.plcx_rules.proofs.Lists.{each_split}
use Rattle.plcx_drawn.proofs.Walks.{left}

module _ {X Y A : Type 0} (f : Y → List A) (g : X → Y) (xs : List X) (i : ℕ) (x : X) (low : i < length xs) (is : x ≡ get_or xs i x) where
  -- what holds of all that is left holds of what the item gives
  pub each_here : (P : A → Type 0) → Each P (flat_map f (map g (drop i xs))) → Each P (f (g x)) × Each P (flat_map f (map g (drop (i + 1) xs)))
  each_here P h = each_split P (f (g x)) (flat_map f (map g (drop (i + 1) xs))) (subst (λ ys. Each P (flat_map f (map g ys))) (left xs i x low is) h)

  -- what was made, and what is left
  pub made_here : (old new whole : List A) → new ≡ old ++ f (g x) → old ++ flat_map f (map g (drop i xs)) ≡ whole → new ++ flat_map f (map g (drop (i + 1) xs)) ≡ whole
  made_here old new whole made before =
      ap (λ l. l ++ flat_map f (map g (drop (i + 1) xs))) made
      ∙ append_assoc old (f (g x)) (flat_map f (map g (drop (i + 1) xs)))
      ∙ ap (λ ys. old ++ flat_map f (map g ys)) (sym (left xs i x low is))
      ∙ before
