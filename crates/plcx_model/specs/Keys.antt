-- The order of keys.
use Rattle.std.specs.Prelude.{ℕ, Option, Some, None}
use Rattle.std.specs.Ordering.{ordering_then, nat_cmp, int_cmp}
use Rattle.std.specs.declared.cmp.Ordering.{Ordering}
use Rattle.std.specs.declared.cmp.Ordering.TheVariants.{Less, Equal, Greater}
use Rattle.plcx_model.specs.declared.key.Key.{Key}

-- a given order comes before none
abbrev pub order_cmp : Option ℕ → Option ℕ → Ordering
order_cmp (Some a) (Some b) = nat_cmp a b
order_cmp (Some a) None = Less
order_cmp None (Some b) = Greater
order_cmp None None = Equal

-- by y, then by x, then by localId
abbrev pub place_cmp : Key → Key → Ordering
place_cmp a b = ordering_then (int_cmp a.y b.y) (ordering_then (int_cmp a.x b.x) (nat_cmp a.local_id b.local_id))

-- by order, then by place
abbrev pub key_cmp : Key → Key → Ordering
key_cmp a b = ordering_then (order_cmp a.order b.order) (place_cmp a b)
