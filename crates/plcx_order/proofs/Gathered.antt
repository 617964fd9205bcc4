-- The lists of the networks.
use Rattle.std.proofs.Common.{◌≡◌, ℕ, zero, suc, ◌+◌, ◌-◌, ◌<◌, ◌⊎◌, inl, inr, Bool, true, false, List, [], ◌∷◌, ◌++◌, length, get_or, slice_index, nat_eq, refl, sym, ◌∙◌, ap, subst, arith}
use Rattle.std.proofs.lemmas.Bool.{cases_eq}
use Rattle.std.proofs.lemmas.Bool.Decides.{nat_tests}
use Rattle.plcx_types.specs.Lists.{Each}
use Rattle.plcx_model.specs.Graph.{Graph, IsGraph, TakesPart, elements}
use Rattle.plcx_model.specs.Paths.{IsLink, Reaches}
use Rattle.plcx_model.specs.Networks.{Listed, IsRising, IsNetwork, ComesBefore, AreInOrder, IsInOne, AreNetworks}
use Rattle.plcx_order.specs.Classes.{IsSpread, append_if, members, class_below}
use Rattle.plcx_order.proofs.Paths.{kept}
use Rattle.plcx_order.proofs.InNetwork.{part_within, linked_part}
use Rattle.plcx_order.proofs.OneOrder.{stays_listed, last_listed, was_listed}
use Rattle.plcx_order.proofs.Counting.{eq_true}

equal : (m n : ℕ) → nat_eq m n ≡ true → m ≡ n
equal m n h = grind (arith, nat_tests)

-- MEMBERS

if_listed : (b : Bool) (xs : List ℕ) (n v : ℕ) → Listed xs v ⊎ ((b ≡ true) × (v ≡ n)) → Listed (append_if b xs n) v
if_listed true xs n v (inl there) = stays_listed xs n v there
if_listed true xs n v (inr is) = last_listed xs n v is.1
if_listed false xs n v (inl there) = there
if_listed false xs n v (inr is) = absurd (let f : false ≡ true = is.0 in cc)

listed_if : (b : Bool) (xs : List ℕ) (n v : ℕ) → Listed (append_if b xs n) v → Listed xs v ⊎ ((b ≡ true) × (v ≡ n))
listed_if true xs n v there = elim (was_listed xs n v there) [ inl is ↦ inr (refl, is) | inr before ↦ inl before ]
listed_if false xs n v there = inl there

pub member : (p : ℕ → Bool) (n v : ℕ) → v < n → p v ≡ true → Listed (members p n) v
member p zero v h e = absurd (omega (arith, h))
member p (suc n) v h e = elim (cases_eq v n) [
  | inl is ↦ if_listed (p n) (members p n) n v (inr (sym (ap p is) ∙ e, is))
  | inr other ↦ if_listed (p n) (members p n) n v (inl (member p n v (omega arith) e))
]

pub member_passes : (p : ℕ → Bool) (n v : ℕ) → Listed (members p n) v → (v < n) × (p v ≡ true)
member_passes p zero v h = absurd h
member_passes p (suc n) v h = elim (listed_if (p n) (members p n) n v h) [
  | inl before ↦ let old = member_passes p n v before in (omega (arith, old.0), old.1)
  | inr is ↦ (omega (arith, is.1), ap p is.1 ∙ is.0)
]

each_more : (P : ℕ → Type 0) (xs : List ℕ) (n : ℕ) → Each P xs → P n → Each P (xs ++ n ∷ [])
each_more P [] n e h = (h, tt)
each_more P (x ∷ xs) n e h = (e.0, each_more P xs n e.1 h)

rising_more : (xs : List ℕ) (n : ℕ) → IsRising xs → ((v : ℕ) → Listed xs v → v < n) → IsRising (xs ++ n ∷ [])
rising_more [] n r low = (tt, tt)
rising_more (x ∷ xs) n r low = (each_more (λ y. x < y) xs n r.0 (low x (inl refl)), rising_more xs n r.1 (λ v h. low v (inr h)))

rising_if : (b : Bool) (xs : List ℕ) (n : ℕ) → IsRising xs → ((v : ℕ) → Listed xs v → v < n) → IsRising (append_if b xs n)
rising_if true xs n r low = rising_more xs n r low
rising_if false xs n r low = r

pub members_rise : (p : ℕ → Bool) (n : ℕ) → IsRising (members p n)
members_rise p zero = tt
members_rise p (suc n) = rising_if (p n) (members p n) n (members_rise p n) (λ v h. (member_passes p n v h).0)

-- LISTS BY THEIR PLACES

pub each_by_place : {A : Type 0} (P : A → Type 0) (xs : List A) (d : A) → ((k : ℕ) → k < length xs → P (get_or xs k d)) → Each P xs
each_by_place P [] d h = tt
each_by_place P (x ∷ xs) d h = (h 0 (omega arith), each_by_place P xs d (λ k lt. h (suc k) (omega (arith, lt))))

pub in_order_by_place : (g : Graph) (ns : List (List ℕ)) → ((i j : ℕ) → i < j → j < length ns → ComesBefore g (get_or ns i []) (get_or ns j [])) → AreInOrder g ns
in_order_by_place g [] h = tt
in_order_by_place g (n ∷ ns) h = (each_by_place (ComesBefore g n) ns [] (λ k lt. h 0 (suc k) (omega arith) (omega (arith, lt))), in_order_by_place g ns (λ i j lt below. h (suc i) (suc j) (omega (arith, lt)) (omega (arith, below))))

pub in_one_by_place : (ns : List (List ℕ)) (k v : ℕ) → k < length ns → Listed (get_or ns k []) v → IsInOne ns v
in_one_by_place [] k v h there = absurd (omega (arith, h))
in_one_by_place (n ∷ ns) zero v h there = inl there
in_one_by_place (n ∷ ns) (suc k) v h there = inr (in_one_by_place ns k v (omega (arith, h)) there)

-- THE NETWORKS

-- all of a network's links are met, so it has one number
one_number : (g : Graph) (number firsts : List ℕ) (k u v : ℕ) → IsSpread g number (Listed []) firsts → Reaches (IsLink g) u v → slice_index number u ≡ k + 1 → slice_index number v ≡ k + 1
one_number g number firsts k u v s r e = kept (IsLink g) (λ x. slice_index number x ≡ k + 1) (λ x y link at. elim (s.met x y link (omega (arith, at))) [ inl level ↦ level ∙ at | inr not ↦ absurd not ]) u v r e

in_class : (number : List ℕ) (k n v : ℕ) → v < n → slice_index number v ≡ k + 1 → Listed (class_below number k n) v
in_class number k n v h e = member (λ x. nat_eq (slice_index number x) (k + 1)) n v h (eq_true (slice_index number v) (k + 1) e)

has_number : (number : List ℕ) (k n v : ℕ) → Listed (class_below number k n) v → slice_index number v ≡ k + 1
has_number number k n v h = equal (slice_index number v) (k + 1) (member_passes (λ x. nat_eq (slice_index number x) (k + 1)) n v h).1

class_is_network : (g : Graph) (number firsts : List ℕ) (k : ℕ) → IsGraph g → IsSpread g number (Listed []) firsts → k < length firsts → IsNetwork g (class_below number k (elements g))
class_is_network g number firsts k is s h = record {
  one = slice_index firsts k;
  takes_part = s.part k h;
  class = λ v. (
    λ there.
        let e = has_number number k (elements g) v there in
        let at : slice_index number v - 1 ≡ k = omega (arith, e) in
        subst (λ x. Reaches (IsLink g) (slice_index firsts x) v) at (s.linked v (omega (arith, e))),
    λ r. in_class number k (elements g) v (part_within g v is (linked_part g (slice_index firsts k) v (s.part k h) r)) (one_number g number firsts k (slice_index firsts k) v s r (s.first k h)),
  );
  rising = members_rise (λ x. nat_eq (slice_index number x) (k + 1)) (elements g);
}

comes_before : (g : Graph) (number firsts : List ℕ) (i j : ℕ) → IsGraph g → IsSpread g number (Listed []) firsts → i < j → j < length firsts → ComesBefore g (class_below number i (elements g)) (class_below number j (elements g))
comes_before g number firsts i j is s lt h =
    let low : i < length firsts = omega arith in
    record {
      least = slice_index firsts i;
      there = in_class number i (elements g) (slice_index firsts i) (part_within g (slice_index firsts i) is (s.part i low)) (s.first i low);
      before = λ v there.
          let e = has_number number j (elements g) v there in
          let takes : TakesPart g v = linked_part g (slice_index firsts j) v (s.part j h) (subst (λ x. Reaches (IsLink g) (slice_index firsts x) v) (let at : slice_index number v - 1 ≡ j = omega (arith, e) in at) (s.linked v (omega (arith, e)))) in
          elim (s.least i v low takes (inr (omega (arith, e)))) [
            | inl same ↦ absurd (omega (arith, ap (slice_index number) same, s.first i low, e))
            | inr before ↦ before
          ];
    }

pub gathered_networks : (g : Graph) (number firsts : List ℕ) (lists : List (List ℕ)) → IsGraph g → IsSpread g number (Listed []) firsts → ((v : ℕ) → TakesPart g v → 0 < slice_index number v) → length lists ≡ length firsts → ((k : ℕ) → k < length firsts → get_or lists k [] ≡ class_below number k (elements g)) → AreNetworks g lists
gathered_networks g number firsts lists is s seen e at = record {
  each = each_by_place (IsNetwork g) lists [] (λ k h. let low : k < length firsts = omega (arith, e) in subst (IsNetwork g) (sym (at k low)) (class_is_network g number firsts k is s low));
  whole = λ v takes.
      let pos = seen v takes in
      let k : ℕ = slice_index number v - 1 in
      let low : k < length firsts = omega (arith, s.below v) in
      in_one_by_place lists k v (omega (arith, e)) (subst (λ xs. Listed xs v) (sym (at k low)) (in_class number k (elements g) v (part_within g v is takes) (omega arith)));
  in_order = in_order_by_place g lists (λ i j lt h.
      let top : j < length firsts = omega (arith, e) in
      let low : i < length firsts = omega arith in
      subst (λ x. ComesBefore g x (get_or lists j [])) (sym (at i low)) (subst (ComesBefore g (class_below number i (elements g))) (sym (at j top)) (comes_before g number firsts i j is s lt top)));
}
