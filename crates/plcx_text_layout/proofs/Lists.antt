-- Lists that stand one behind another.
use Rattle.std.proofs.Common.{◌≡◌, ℕ, zero, suc, List, [], ◌∷◌, map, get_or, Option, Some, None, option_map, slice_get, refl, ◌∙◌, ap}
use Rattle.std.proofs.lemmas.Option.{get_or_from_slice_get}
use Rattle.plcx_types.specs.Lists.{Each}

-- what is kept of the item at a place
pub at_place : {X Y : Type 0} (f : X → Y) (d : Y) (xs : List X) (i : ℕ) → get_or (map f xs) i d ≡ elim (slice_get xs i) [ Some x ↦ f x | None ↦ d ]
at_place f d [] i = refl
at_place f d (x ∷ xs) zero = refl
at_place f d (x ∷ xs) (suc i) = at_place f d xs i

-- what holds of each item, and of another one where there is none, holds at each place
pub each_place : {X : Type 0} (P : X → Type 0) (d : X) (xs : List X) (i : ℕ) → P d → Each P xs → P (get_or xs i d)
each_place P d [] i none all = none
each_place P d (x ∷ xs) zero none all = all.0
each_place P d (x ∷ xs) (suc i) none all = each_place P d xs i none all.1
