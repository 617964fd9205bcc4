-- Keys and places are ordered.
use Rattle.std.proofs.Common.{◌≡◌, ℕ, ◌<◌, inl, inr, Bool, true, false, Option, Some, None, refl, sym, ◌∙◌, ap}
use Rattle.std.specs.Cmp.{IsTotalOrder}
use Rattle.std.specs.Ordering.{ordering_then, ordering_reverse, nat_cmp, int_cmp, is_gt}
use Rattle.std.specs.declared.cmp.Ordering.{Ordering}
use Rattle.std.specs.declared.cmp.Ordering.TheVariants.{Less, Equal, Greater}
use Rattle.std.proofs.lemmas.Cmp.{nat_cmp_total, int_cmp_total, on_total, then_total, upto, tied_itself, ranked, by_ranked}
use Rattle.plcx_model.specs.declared.key.Key.{Key}
use Rattle.plcx_model.specs.Keys.{order_cmp, place_cmp, key_cmp}
use Rattle.plcx_model.specs.Graph.{Graph, IsGraph, KeyAtMost, PlaceBefore, elements, key_at}
use Rattle.plcx_order.proofs.Deciding.{Dec}

-- THE LAWS

orders_antisymm : (a b : Option ℕ) → order_cmp a b ≡ ordering_reverse (order_cmp b a)
orders_antisymm (Some a) (Some b) = nat_cmp_total.antisymm a b
orders_antisymm (Some a) None = refl
orders_antisymm None (Some b) = refl
orders_antisymm None None = refl

orders_trans : (a b c : Option ℕ) → order_cmp a b ≡ Less → order_cmp b c ≡ Less → order_cmp a c ≡ Less
orders_trans (Some a) (Some b) (Some c) e f = nat_cmp_total.trans a b c e f
orders_trans (Some a) b None e f = refl
orders_trans (Some a) None (Some c) e f = absurd (let g : Greater ≡ Less = f in cc)
orders_trans None (Some b) c e f = absurd (let g : Greater ≡ Less = e in cc)
orders_trans None None c e f = absurd (let g : Equal ≡ Less = e in cc)

orders_congr : (a b c : Option ℕ) → order_cmp a b ≡ Equal → order_cmp a c ≡ order_cmp b c
orders_congr (Some a) (Some b) (Some c) e = nat_cmp_total.congr a b c e
orders_congr (Some a) (Some b) None e = refl
orders_congr (Some a) None c e = absurd (let g : Less ≡ Equal = e in cc)
orders_congr None (Some b) c e = absurd (let g : Greater ≡ Equal = e in cc)
orders_congr None None c e = refl

orders_total : IsTotalOrder order_cmp
orders_total = record { antisymm = orders_antisymm; trans = orders_trans; congr = orders_congr }

pub places_total : IsTotalOrder place_cmp
places_total = then_total (on_total (λ (k : Key). k.y) int_cmp_total) (then_total (on_total (λ (k : Key). k.x) int_cmp_total) (on_total (λ (k : Key). k.local_id) nat_cmp_total))

pub keys_total : IsTotalOrder key_cmp
keys_total = then_total (on_total (λ (k : Key). k.order) orders_total) places_total

-- KEYS

pub at_most_itself : (g : Graph) (u : ℕ) → KeyAtMost g u u
at_most_itself g u = ap is_gt (tied_itself keys_total (key_at g u))

pub at_most_then : (g : Graph) (u v w : ℕ) → KeyAtMost g u v → KeyAtMost g v w → KeyAtMost g u w
at_most_then g u v w h k = upto keys_total (key_at g u) (key_at g v) (key_at g w) h k

false_or_not : (b : Bool) → Dec (b ≡ false)
false_or_not true = inr (λ e. let f : true ≡ false = e in cc)
false_or_not false = inl refl

pub at_most_or_not : (g : Graph) (u v : ℕ) → Dec (KeyAtMost g u v)
at_most_or_not g u v = false_or_not (is_gt (key_cmp (key_at g u) (key_at g v)))

turned : (a b : Ordering) → a ≡ ordering_reverse b → (is_gt a ≡ false → ⊥) → is_gt b ≡ false
turned a Less e h = refl
turned a Equal e h = refl
turned a Greater e h = absurd (h (ap is_gt e))

pub at_most_back : (g : Graph) (u v : ℕ) → (KeyAtMost g u v → ⊥) → KeyAtMost g v u
at_most_back g u v h = turned (key_cmp (key_at g u) (key_at g v)) (key_cmp (key_at g v) (key_at g u)) (keys_total.antisymm (key_at g u) (key_at g v)) h

both_level : (a b : Ordering) → a ≡ ordering_reverse b → is_gt a ≡ false → is_gt b ≡ false → a ≡ Equal
both_level a Less e h k = absurd (let f : true ≡ false = sym (ap is_gt e) ∙ h in cc)
both_level a Equal e h k = e
both_level a Greater e h k = absurd (let f : true ≡ false = k in cc)

last_equal : (a b : Ordering) → ordering_then a b ≡ Equal → b ≡ Equal
last_equal Less b e = absurd (let f : Less ≡ Equal = e in cc)
last_equal Equal b e = e
last_equal Greater b e = absurd (let f : Greater ≡ Equal = e in cc)

same_number : (a b : ℕ) → nat_cmp a b ≡ Equal → a ≡ b
same_number a b e = by_ranked (a < b) (a ≡ b) (b < a) (nat_cmp a b) (ranked a b (nat_cmp a b) refl)
    (λ less _. absurd (let f : Less ≡ Equal = sym less ∙ e in cc))
    (λ _ is. is)
    (λ more _. absurd (let f : Greater ≡ Equal = sym more ∙ e in cc))

place_level : (a b : Key) → place_cmp a b ≡ Equal → a.local_id ≡ b.local_id
place_level a b e = same_number a.local_id b.local_id (last_equal (int_cmp a.x b.x) (nat_cmp a.local_id b.local_id) (last_equal (int_cmp a.y b.y) (ordering_then (int_cmp a.x b.x) (nat_cmp a.local_id b.local_id)) e))

-- no two elements have one key
pub one_key : (g : Graph) (u v : ℕ) → IsGraph g → u < elements g → v < elements g → KeyAtMost g u v → KeyAtMost g v u → u ≡ v
one_key g u v is hu hv h k =
    let level = both_level (key_cmp (key_at g u) (key_at g v)) (key_cmp (key_at g v) (key_at g u)) (keys_total.antisymm (key_at g u) (key_at g v)) h k in
    is.differ u v hu hv (place_level (key_at g u) (key_at g v) (last_equal (order_cmp (key_at g u).order (key_at g v).order) (place_cmp (key_at g u) (key_at g v)) level))

-- PLACES

pub not_before_itself : (g : Graph) (u : ℕ) → PlaceBefore g u u → ⊥
not_before_itself g u h = let f : Equal ≡ Less = sym (tied_itself places_total (key_at g u)) ∙ h in cc

pub before_then : (g : Graph) (u v w : ℕ) → PlaceBefore g u v → PlaceBefore g v w → PlaceBefore g u w
before_then g u v w h k = places_total.trans (key_at g u) (key_at g v) (key_at g w) h k

less_or_not : (a : Ordering) → Dec (a ≡ Less)
less_or_not Less = inl refl
less_or_not Equal = inr (λ e. let f : Equal ≡ Less = e in cc)
less_or_not Greater = inr (λ e. let f : Greater ≡ Less = e in cc)

pub before_or_not : (g : Graph) (u v : ℕ) → Dec (PlaceBefore g u v)
before_or_not g u v = less_or_not (place_cmp (key_at g u) (key_at g v))

neither_less : (a b : Ordering) → a ≡ ordering_reverse b → (a ≡ Less → ⊥) → (b ≡ Less → ⊥) → a ≡ Equal
neither_less a Less e h k = absurd (k refl)
neither_less a Equal e h k = e
neither_less a Greater e h k = absurd (h e)

-- of two elements one stands before the other
pub one_place : (g : Graph) (u v : ℕ) → IsGraph g → u < elements g → v < elements g → (PlaceBefore g u v → ⊥) → (PlaceBefore g v u → ⊥) → u ≡ v
one_place g u v is hu hv h k = is.differ u v hu hv (place_level (key_at g u) (key_at g v) (neither_less (place_cmp (key_at g u) (key_at g v)) (place_cmp (key_at g v) (key_at g u)) (places_total.antisymm (key_at g u) (key_at g v)) h k))
