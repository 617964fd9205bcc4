-- Keys as values that compare as keys do. Only proofs are served by it.
use Rattle.std.specs.Prelude.{ℕ, Option, Some, None, true, false}
use Rattle.std.specs.Ordering.{ordering_then, nat_cmp, int_cmp, bool_cmp}
use Rattle.std.specs.declared.cmp.Ordering.{Ordering}
use Rattle.plcx_model.specs.declared.key.Key.{Key}
use Rattle.plcx_order.specs.declared.rank.Place.{Place}
use Rattle.plcx_order.specs.declared.rank.Rank.{Rank}

abbrev pub place_of : Key → Place
place_of k = record { y = k.y; x = k.x; local_id = k.local_id }

abbrev pub rank_at : Option ℕ → Place → Rank
rank_at (Some order) place = record { is_late = false; order = order; place = place }
rank_at None place = record { is_late = true; order = 0; place = place }

abbrev pub rank_of : Key → Rank
rank_of k = rank_at k.order (place_of k)

-- as places and ranks compare
abbrev pub places_cmp : Place → Place → Ordering
places_cmp a b = ordering_then (int_cmp a.y b.y) (ordering_then (int_cmp a.x b.x) (nat_cmp a.local_id b.local_id))

abbrev pub ranks_cmp : Rank → Rank → Ordering
ranks_cmp a b = ordering_then (bool_cmp a.is_late b.is_late) (ordering_then (nat_cmp a.order b.order) (places_cmp a.place b.place))
