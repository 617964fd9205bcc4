-- Ranks compare as keys do.
use Rattle.std.proofs.Common.{◌≡◌, ◌↔◌, ℕ, true, false, Option, Some, None, refl}
use Rattle.std.specs.Ordering.{is_gt, is_le}
use Rattle.std.specs.declared.cmp.Ordering.{Ordering}
use Rattle.std.specs.declared.cmp.Ordering.TheVariants.{Less, Equal, Greater}
use Rattle.plcx_model.specs.declared.key.Key.{Key}
use Rattle.plcx_model.specs.Keys.{order_cmp, key_cmp}
use Rattle.plcx_order.specs.declared.rank.Place.{Place}
use Rattle.plcx_order.specs.Ranks.{rank_at, rank_of, place_of, places_cmp, ranks_cmp}
use Rattle.std.specs.Ordering.{ordering_then}

at_orders : (a b : Option ℕ) (p q : Place) → ranks_cmp (rank_at a p) (rank_at b q) ≡ ordering_then (order_cmp a b) (places_cmp p q)
at_orders (Some a) (Some b) p q = refl
at_orders (Some a) None p q = refl
at_orders None (Some b) p q = refl
at_orders None None p q = refl

pub compare_alike : (a b : Key) → ranks_cmp (rank_of a) (rank_of b) ≡ key_cmp a b
compare_alike a b = at_orders a.order b.order (place_of a) (place_of b)

-- at most, or not greater
pub le_or_gt : (o : Ordering) → (is_le o ≡ true) ↔ (is_gt o ≡ false)
le_or_gt Less = ((λ _. refl), (λ _. refl))
le_or_gt Equal = ((λ _. refl), (λ _. refl))
le_or_gt Greater = ((λ e. absurd (let f : false ≡ true = e in cc)), (λ e. absurd (let f : true ≡ false = e in cc)))
