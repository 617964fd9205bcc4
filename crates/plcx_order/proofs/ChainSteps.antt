-- The chains, one connection on.
use Rattle.std.proofs.Common.{◌≡◌, ℕ, ◌+◌, ◌-◌, ◌<◌, inl, inr, List, [], ◌∷◌, ◌++◌, length, set, slice_index, refl, sym, ◌∙◌, ap, subst, arith, length-set, get_or-set_same, get_or-set_other}
use Rattle.std.proofs.lemmas.Bool.{cases_lt, cases_eq}
use Rattle.std.proofs.lemmas.List.{length_push, get_or_push, get_or_append_left}
use Rattle.plcx_model.specs.declared.source.Wire.{Wire}
use Rattle.plcx_model.specs.Graph.{from_at, to_at}
use Rattle.plcx_order.specs.Walks.{IsLast, IsTable, AreLast}

last_else : (ws : List Wire) (i u k : ℕ) → (u ≡ from_at ws i → ⊥) → IsLast ws i u k → IsLast ws (i + 1) u k
last_else ws i u k other l = record {
  most = omega (arith, l.most);
  own = l.own;
  none_after = λ j h ge e. elim (cases_lt j i) [
    | inl lt ↦ l.none_after j lt ge e
    | inr up ↦ let at : j ≡ i = omega arith in other (sym e ∙ ap (from_at ws) at)
  ];
}

last_here : (ws : List Wire) (i u : ℕ) → u ≡ from_at ws i → IsLast ws (i + 1) u (i + 1)
last_here ws i u e = record {
  most = omega arith;
  own = λ h. let at : (i + 1) - 1 ≡ i = omega arith in ap (from_at ws) at ∙ sym e;
  none_after = λ j h ge e. omega arith;
}

pub last_more : (n : ℕ) (ws : List Wire) (i : ℕ) (last : List ℕ) → AreLast n ws i last → from_at ws i < n → AreLast n ws (i + 1) (set last (from_at ws i) (i + 1))
last_more n ws i last a h = record {
  count = length-set last (from_at ws i) (i + 1) ∙ a.count;
  each = λ u hu. elim (cases_eq u (from_at ws i)) [
    | inl is ↦
        let at : slice_index (set last (from_at ws i) (i + 1)) u ≡ i + 1 = ap (slice_index (set last (from_at ws i) (i + 1))) is ∙ get_or-set_same last (from_at ws i) (i + 1) 0 (omega (arith, a.count)) in
        subst (IsLast ws (i + 1) u) (sym at) (last_here ws i u is)
    | inr other ↦
        let at : slice_index (set last (from_at ws i) (i + 1)) u ≡ slice_index last u = get_or-set_other last (from_at ws i) u (i + 1) 0 other in
        subst (IsLast ws (i + 1) u) (sym at) (last_else ws i u (slice_index last u) other (a.each u hu))
  ];
}

pub table_more : (ws : List Wire) (i : ℕ) (before to : List ℕ) (b t : ℕ) → IsTable ws i before to → IsLast ws i (from_at ws i) b → t ≡ to_at ws i → IsTable ws (i + 1) (before ++ b ∷ []) (to ++ t ∷ [])
table_more ws i before to b t m l e = record {
  befores = length_push before b ∙ ap (λ n. n + 1) m.befores;
  tos = length_push to t ∙ ap (λ n. n + 1) m.tos;
  last = λ k h. elim (cases_lt k i) [
    | inl lt ↦ subst (IsLast ws k (from_at ws k)) (sym (get_or_append_left before (b ∷ []) 0 k (omega (arith, m.befores)))) (m.last k lt)
    | inr ge ↦
        let at : k ≡ i = omega arith in
        let read : slice_index (before ++ b ∷ []) k ≡ b = get_or_push before b 0 k (m.befores ∙ sym at) in
        subst (IsLast ws k (from_at ws k)) (sym read) (subst (λ x. IsLast ws x (from_at ws x) b) (sym at) l)
  ];
  into = λ k h. elim (cases_lt k i) [
    | inl lt ↦ get_or_append_left to (t ∷ []) 0 k (omega (arith, m.tos)) ∙ m.into k lt
    | inr ge ↦
        let at : k ≡ i = omega arith in
        get_or_push to t 0 k (m.tos ∙ sym at) ∙ (e ∙ ap (to_at ws) (sym at))
  ];
}

pub last_start : (n : ℕ) (ws : List Wire) (last : List ℕ) → length last ≡ n → ((u : ℕ) → u < n → slice_index last u ≡ 0) → AreLast n ws 0 last
last_start n ws last e none = record {
  count = e;
  each = λ u h. record { most = omega (arith, none u h); own = λ pos. absurd (omega (arith, none u h)); none_after = λ j lt ge e. omega arith };
}

pub table_start : (ws : List Wire) → IsTable ws 0 [] []
table_start ws = record { befores = refl; tos = refl; last = λ i h. absurd (omega arith); into = λ i h. absurd (omega arith) }
