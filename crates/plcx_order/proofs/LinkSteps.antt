-- Links, one connection on, and elements with their places.
use Rattle.std.proofs.Common.{◌≡◌, ℕ, zero, suc, ◌+◌, ◌-◌, ◌<◌, ◌≤◌, ◌⊎◌, inl, inr, List, [], ◌∷◌, ◌++◌, true, false, length, get_or, refl, sym, ◌∙◌, ap, subst, arith}
use Rattle.std.proofs.lemmas.Bool.{cases_lt, cases_eq}
use Rattle.std.proofs.lemmas.List.{length_push, get_or_push, get_or_append_left, get_or_default}
use Rattle.std.proofs.lemmas.List.Elements.{All-push, Contains-push, Contains-append_left}
use Rattle.std.proofs.lemmas.List.Sorted.{All-permutation, Contains-permutation}
use Rattle.std.specs.List.{Contains}
use Rattle.std.specs.List.Sorted.{IsPermutation, IsSorted}
use Rattle.std.specs.Ordering.{nat_cmp, is_lt, is_gt, ordering_then, ordering_reverse}
use Rattle.std.specs.declared.cmp.Ordering.{Ordering}
use Rattle.std.specs.declared.cmp.Ordering.TheVariants.{Less, Equal, Greater}
use Rattle.std.specs.Cmp.{IsTotalOrder}
use Rattle.std.proofs.lemmas.Cmp.{nat_cmp_total, int_cmp_total, on_total, then_total, upto, tied_itself}
use Rattle.plcx_model.specs.declared.source.Wire.{Wire}
use Rattle.plcx_model.specs.Keys.{place_cmp}
use Rattle.plcx_model.specs.Graph.{Graph, IsGraph, TakesPart, PlaceBefore, elements, key_at, wire_at, from_at, to_at}
use Rattle.plcx_model.specs.Paths.{IsWire, IsLink}
use Rattle.plcx_order.specs.declared.rank.Place.{Place}
use Rattle.plcx_order.specs.declared.standing.Standing.{Standing}
use Rattle.plcx_order.specs.Ranks.{place_of, places_cmp}
use Rattle.plcx_order.specs.Classes.{AreSound, AreLinks, standing_of, standing_cmp, IsStanding, AreStandings}
use Rattle.plcx_order.proofs.Listings.{not_greater}
use Rattle.plcx_order.proofs.KeyOrder.{one_place, before_or_not, places_total}

pub sound_more : (g : Graph) (links : List Wire) (w : Wire) → AreSound g links → IsLink g w.from.element w.to.element → AreSound g (links ++ w ∷ [])
sound_more g links w s l i h = elim (cases_lt i (length links)) [
  | inl lt ↦ subst (λ x. IsLink g x.from.element x.to.element) (sym (get_or_append_left links (w ∷ []) (record { from = record { element = 0; pin = 0 }; to = record { element = 0; pin = 0 } }) i lt)) (s i lt)
  | inr ge ↦ let at : i ≡ length links = omega (arith, h, length_push links w) in subst (λ x. IsLink g x.from.element x.to.element) (sym (get_or_push links w (record { from = record { element = 0; pin = 0 }; to = record { element = 0; pin = 0 } }) i (sym at))) l
]

pub wire_kept : (links : List Wire) (w : Wire) (u v : ℕ) → IsWire links u v → IsWire (links ++ w ∷ []) u v
wire_kept links w u v x =
    let same : wire_at (links ++ w ∷ []) x.place ≡ wire_at links x.place = get_or_append_left links (w ∷ []) (record { from = record { element = 0; pin = 0 }; to = record { element = 0; pin = 0 } }) x.place x.below in
    record {
      place = x.place;
      below = omega (arith, x.below, length_push links w);
      out_of = ap (λ y. y.from.element) same ∙ x.out_of;
      into = ap (λ y. y.to.element) same ∙ x.into;
    }

pub wire_there : (links : List Wire) (w : Wire) → IsWire (links ++ w ∷ []) w.from.element w.to.element
wire_there links w =
    let same : wire_at (links ++ w ∷ []) (length links) ≡ w = get_or_push links w (record { from = record { element = 0; pin = 0 }; to = record { element = 0; pin = 0 } }) (length links) refl in
    record {
      place = length links;
      below = omega (arith, length_push links w);
      out_of = ap (λ y. y.from.element) same;
      into = ap (λ y. y.to.element) same;
    }

pub links_more : (g : Graph) (i : ℕ) (old new : List Wire) → AreLinks g i old → AreSound g new → ((u v : ℕ) → IsWire old u v → IsWire new u v) → (TakesPart g (from_at g.wires i) → TakesPart g (to_at g.wires i) → IsWire new (from_at g.wires i) (to_at g.wires i)) → (TakesPart g (from_at g.wires i) → TakesPart g (to_at g.wires i) → IsWire new (to_at g.wires i) (from_at g.wires i)) → AreLinks g (i + 1) new
links_more g i old new a sound keeps forth back = record {
  sound = sound;
  whole = λ j h from to. elim (cases_lt j i) [
    | inl lt ↦ let was = a.whole j lt from to in (keeps (from_at g.wires j) (to_at g.wires j) was.0, keeps (to_at g.wires j) (from_at g.wires j) was.1)
    | inr ge ↦
        let at : j ≡ i = omega arith in
        let from_i = subst (λ x. TakesPart g (from_at g.wires x)) at from in
        let to_i = subst (λ x. TakesPart g (to_at g.wires x)) at to in
        subst (λ x. IsWire new (from_at g.wires x) (to_at g.wires x) × IsWire new (to_at g.wires x) (from_at g.wires x)) (sym at) (forth from_i to_i, back from_i to_i)
  ];
}

-- EMPTY LISTS

pub still_empty : (lists : List (List ℕ)) → ((k : ℕ) → get_or lists k [] ≡ []) → (k : ℕ) → get_or (lists ++ [] ∷ []) k [] ≡ []
still_empty [] e zero = refl
still_empty [] e (suc k) = refl
still_empty (x ∷ xs) e zero = e 0
still_empty (x ∷ xs) e (suc k) = still_empty xs (λ j. e (suc j)) k

-- STANDINGS

pub standings_more : (g : Graph) (v : ℕ) (all : List Standing) → v < elements g → AreStandings g v all → AreStandings g (v + 1) (all ++ standing_of g v ∷ [])
standings_more g v all h s = record {
  each = All-push (IsStanding g) all (standing_of g v) s.each (record { element = h; place = refl });
  whole = λ w lt. elim (cases_eq w v) [
    | inl is ↦ subst (λ x. Contains (all ++ standing_of g v ∷ []) (standing_of g x)) (sym is) (Contains-push all (standing_of g v))
    | inr other ↦ Contains-append_left all (standing_of g v ∷ []) (standing_of g w) (s.whole w (omega arith))
  ];
}

pub standings_permuted : (g : Graph) (n : ℕ) (xs ys : List Standing) → IsPermutation xs ys → AreStandings g n xs → AreStandings g n ys
standings_permuted g n xs ys p s = record {
  each = All-permutation (IsStanding g) xs ys p s.each;
  whole = λ v h. Contains-permutation xs ys (standing_of g v) p (s.whole v h);
}

standings_total : IsTotalOrder standing_cmp
standings_total = then_total (on_total (λ (s : Standing). s.place) (then_total (on_total (λ (p : Place). p.y) int_cmp_total) (then_total (on_total (λ (p : Place). p.x) int_cmp_total) (on_total (λ (p : Place). p.local_id) nat_cmp_total)))) (on_total (λ (s : Standing). s.element) nat_cmp_total)

-- in a sorted list no later element is less
none_less_later : (xs : List Standing) (d : Standing) → IsSorted standing_cmp xs → (i k : ℕ) → i + k < length xs → is_gt (standing_cmp (get_or xs i d) (get_or xs (i + k) d)) ≡ false
none_less_later xs d s i zero h = let same : i + 0 ≡ i = omega arith in subst (λ j. is_gt (standing_cmp (get_or xs i d) (get_or xs j d)) ≡ false) (sym same) (ap is_gt (tied_itself standings_total (get_or xs i d)))
none_less_later xs d s i (suc k) h =
    let before = none_less_later xs d s i k (omega arith) in
    let next : (i + k) + 1 ≡ i + suc k = omega arith in
    let last : is_gt (standing_cmp (get_or xs (i + k) d) (get_or xs (i + suc k) d)) ≡ false = not_greater (standing_cmp (get_or xs (i + suc k) d) (get_or xs (i + k) d)) (standing_cmp (get_or xs (i + k) d) (get_or xs (i + suc k) d)) (standings_total.antisymm (get_or xs (i + k) d) (get_or xs (i + suc k) d))
    (subst (λ j. is_lt (standing_cmp (get_or xs j d) (get_or xs (i + k) d)) ≡ false) next (s (i + k) d (omega arith) (omega arith))) in
    upto standings_total (get_or xs i d) (get_or xs (i + k) d) (get_or xs (i + suc k) d) before last

gt_then : (a b : Ordering) → is_gt (ordering_then a b) ≡ false → is_gt a ≡ false
gt_then Less b e = refl
gt_then Equal b e = refl
gt_then Greater b e = e

not_less_back : (a b : Ordering) → a ≡ ordering_reverse b → is_gt a ≡ false → b ≡ Less → ⊥
not_less_back a Less e h k = let f : true ≡ false = sym (ap is_gt e) ∙ h in cc
not_less_back a Equal e h k = let f : Equal ≡ Less = k in cc
not_less_back a Greater e h k = let f : Greater ≡ Less = k in cc

-- what stands at or after place k isn't before what stands there
pub root_is_least : (g : Graph) (xs : List Standing) (d : Standing) (k v : ℕ) → IsGraph g → AreStandings g (elements g) xs → IsSorted standing_cmp xs → k < length xs → v < elements g → ((j : ℕ) → j < k → v ≡ (get_or xs j d).element → ⊥) → (v ≡ (get_or xs k d).element) ⊎ PlaceBefore g (get_or xs k d).element v
root_is_least g xs d k v is a s h hv later =
    let root = (get_or xs k d).element in
    let there = a.whole v hv in
    let p = there.0 in
    let at : get_or xs p d ≡ standing_of g v = get_or_default xs p d (standing_of g v) there.1 ∙ there.2 in
    let element : (get_or xs p d).element ≡ v = ap (λ x. x.element) at in
    let late : k ≤ p = elim (cases_lt p k) [ inl low ↦ absurd (later p low (sym element)) | inr high ↦ high ] in
    let gap : k + (p - k) ≡ p = omega arith in
    let none : is_gt (standing_cmp (get_or xs k d) (get_or xs p d)) ≡ false = subst (λ j. is_gt (standing_cmp (get_or xs k d) (get_or xs j d)) ≡ false) gap (none_less_later xs d s k (p - k) (omega (arith, there.1))) in
    let standing : IsStanding g (get_or xs k d) = a.each k d h in
    let places : is_gt (place_cmp (key_at g root) (key_at g v)) ≡ false = subst (λ x. is_gt (places_cmp x (place_of (key_at g v))) ≡ false) standing.place (subst (λ x. is_gt (places_cmp (get_or xs k d).place x.place) ≡ false) at (gt_then (places_cmp (get_or xs k d).place (get_or xs p d).place) (nat_cmp root (get_or xs p d).element) none)) in
    elim (before_or_not g root v) [
      | inl before ↦ inr before
      | inr not ↦ inl (sym (one_place g root v is standing.element hv not (not_less_back (place_cmp (key_at g root) (key_at g v)) (place_cmp (key_at g v) (key_at g root)) (places_total.antisymm (key_at g root) (key_at g v)) places)))
    ]
