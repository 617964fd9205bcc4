-- Lists that a loop goes over, and items found at places.
use Rattle.std.proofs.Common.{◌≡◌, ℕ, ◌+◌, ◌<◌, List, ◌∷◌, drop, get_or, length, Option, ap, sym, ◌∙◌}
use Rattle.std.specs.Prelude.{slice_get}
use Rattle.std.specs.List.{filter_map, cons_option}
use Rattle.std.proofs.lemmas.List.{at_drop_more, drop_more}

-- the item of a loop, and those that are left
pub left : {X : Type 0} (xs : List X) (i : ℕ) (x : X) → i < length xs → x ≡ get_or xs i x → drop i xs ≡ x ∷ drop (i + 1) xs
left xs i x low is = drop_more xs i x low ∙ ap (λ y. y ∷ drop (i + 1) xs) (sym is)

-- items found at places: the place of a loop, and those that are left
pub found_here : {X : Type 0} (xs : List X) (places : List ℕ) (i : ℕ) (o : Option X) → i < length places → o ≡ slice_get xs (get_or places i 0)
    → filter_map (slice_get xs) (drop i places) ≡ cons_option o (filter_map (slice_get xs) (drop (i + 1) places))
found_here xs places i o low is = at_drop_more (filter_map (slice_get xs)) places i 0 low ∙ ap (λ found. cons_option found (filter_map (slice_get xs) (drop (i + 1) places))) (sym is)
