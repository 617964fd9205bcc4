-- Sums of the values of shown leaves.
use Rattle.std.proofs.Common.{◌≡◌, ◌∙◌, ◌<◌, ◌≤◌, ◌+◌, ◌+ℤ◌, ℕ, zero, suc, ℤ, pos, Bool, true, false, List, [], ◌∷◌, map, length, drop, get_or, refl, sym, ap, ap₂, arith}
use Rattle.std.specs.Prelude.{filter, if◌then◌else◌}
use Rattle.std.proofs.Math.IntN.{+ℤ_assoc, +ℤ_idl, +ℤ_idr}
use Rattle.plcx_types.specs.Value.{Value}
use Rattle.plcx_meaning.specs.Base.{Path}
use Rattle.plcx_meaning.specs.Layout.{Leaf as Meant}
use Rattle.plcx_meaning.specs.Run.{Machine, Side}
use Rattle.plcx_meaning.specs.Traces.{shown_values}
use Rattle.plcx_state.specs.declared.layout.Leaf.{Leaf}
use Rattle.plcx_state.specs.Layouts.{all_meant, meant, meant_path}
use Rattle.plcx_state.specs.Retains.{Pairwise, numbers, Agrees}
use Rattle.plcx_bench.specs.Summary.{sum_of}
use Rattle.plcx_bench.specs.Sides.{number_in, sum_in}

-- the sum of what is left, by its first item
left_sum : (leaves : List Leaf) (values : List Value) (i : ℕ) (leaf : Leaf) (v : Value) → i < length leaves → i < length values
    → sum_in (drop i leaves) (drop i values) ≡ number_in (get_or leaves i leaf) (get_or values i v) +ℤ sum_in (drop (suc i) leaves) (drop (suc i) values)
left_sum [] values i leaf v a b = absurd (omega arith)
left_sum (l ∷ leaves) [] i leaf v a b = absurd (omega arith)
left_sum (l ∷ leaves) (w ∷ values) zero leaf v a b = refl
left_sum (l ∷ leaves) (w ∷ values) (suc i) leaf v a b = left_sum leaves values i leaf v (omega arith) (omega arith)

-- one more is added
pub next_sum : (leaves : List Leaf) (values : List Value) (i : ℕ) (leaf : Leaf) (v : Value) (was n now all : ℤ) → i < length leaves → i < length values
    → leaf ≡ get_or leaves i leaf → v ≡ get_or values i v → n ≡ number_in leaf v → now ≡ was +ℤ n → was +ℤ sum_in (drop i leaves) (drop i values) ≡ all
    → now +ℤ sum_in (drop (i + 1) leaves) (drop (i + 1) values) ≡ all
next_sum leaves values i leaf v was n now all a b there held is added h =
    let next : i + 1 ≡ suc i = omega arith in
    let rest = λ (j : ℕ). sum_in (drop j leaves) (drop j values) in
    ap₂ (λ z j. z +ℤ rest j) (added ∙ ap (λ z. was +ℤ z) (is ∙ ap₂ number_in there held)) next
    ∙ +ℤ_assoc was (number_in (get_or leaves i leaf) (get_or values i v)) (rest (suc i))
    ∙ ap (λ z. was +ℤ z) (sym (left_sum leaves values i leaf v a b)) ∙ h

-- nothing is left
pub last_sum : (leaves : List Leaf) (values : List Value) (i : ℕ) (was all : ℤ) → length leaves ≤ i → was +ℤ sum_in (drop i leaves) (drop i values) ≡ all → was ≡ all
last_sum leaves values i was all a h = sym (+ℤ_idr was) ∙ ap (λ z. was +ℤ z) (sym (none leaves values i a)) ∙ h
  where
    none : (leaves : List Leaf) (values : List Value) (i : ℕ) → length leaves ≤ i → sum_in (drop i leaves) (drop i values) ≡ pos 0
    none [] values zero a = refl
    none [] values (suc i) a = refl
    none (l ∷ leaves) values zero a = absurd (omega arith)
    none (l ∷ leaves) [] (suc i) a = by (drop i leaves)
      where
        by : (ls : List Leaf) → sum_in ls [] ≡ pos 0
        by [] = refl
        by (l ∷ ls) = refl
    none (l ∷ leaves) (w ∷ values) (suc i) a = none leaves values i (omega arith)

-- it is the sum of what a store shows that agrees with all values
shown_pairs : (store : Path → ℤ) (leaves : List Leaf) (values : List Value) → Pairwise (λ (leaf : Leaf) (n : ℤ). store (meant_path leaf.path) ≡ n) leaves (numbers values)
    → sum_in leaves values ≡ sum_of (map (λ (leaf : Meant). store leaf.path) (filter (λ (leaf : Meant). leaf.shown) (all_meant leaves)))
shown_pairs store [] values h = refl
shown_pairs store (leaf ∷ leaves) [] h = absurd h
shown_pairs store (leaf ∷ leaves) (v ∷ vs) h = by leaf.shown (sum_in leaves vs) _ (shown_pairs store leaves vs h.1)
  where
    by : (b : Bool) (sum : ℤ) (ms : List Meant) → sum ≡ sum_of (map (λ (leaf : Meant). store leaf.path) ms)
        → (if b then v.n else pos 0) +ℤ sum ≡ sum_of (map (λ (leaf : Meant). store leaf.path) (if b then meant leaf ∷ ms else ms))
    by false sum ms is = +ℤ_idl sum ∙ is
    by true sum ms is = ap₂ (λ n z. n +ℤ z) (sym h.0) is

pub shown_sum : (store : Path → ℤ) (leaves : List Leaf) (values : List Value) → Agrees leaves store (numbers values)
    → sum_in leaves values ≡ sum_of (map (λ (leaf : Meant). store leaf.path) (filter (λ (leaf : Meant). leaf.shown) (all_meant leaves)))
shown_sum store leaves values h = shown_pairs store leaves values h.agrees

-- and so it is what a side shows
pub shown_behind : {G : Type 0} (m : Machine G) (g : Side G) (leaves ls : List Leaf) (values : List Value) → leaves ≡ ls → all_meant ls ≡ m.layout → Agrees ls (m.value g.state) (numbers values) → sum_in leaves values ≡ sum_of (shown_values m g)
shown_behind {G} m g leaves ls values same are h =
    ap (λ (xs : List Leaf). sum_in xs values) same ∙ shown_sum (m.value g.state) ls values h
    ∙ ap (λ (ms : List Meant). sum_of (map (λ (leaf : Meant). m.value g.state leaf.path) (filter (λ (leaf : Meant). leaf.shown) ms))) are
