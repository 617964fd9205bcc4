-- A connection within a component goes both ways.
use Rattle.std.proofs.Common.{◌≡◌, ℕ, ◌+◌, ◌<◌, ◌↔◌, inl, inr, Bool, true, false, List, [], ◌∷◌, ◌++◌, get_or, sym, ◌∙◌, ap, subst, arith}
use Rattle.std.proofs.lemmas.Bool.{cases_lt}
use Rattle.std.proofs.lemmas.List.{length_push, get_or_push, get_or_append_left}
use Rattle.plcx_order.specs.declared.walk.Place.{Place}
use Rattle.plcx_order.specs.declared.walk.Place.TheVariants.{Unseen, Done}
use Rattle.plcx_model.specs.Graph.{from_at, to_at, Graph, elements}
use Rattle.plcx_model.specs.Paths.{IsWire, Reaches}
use Rattle.plcx_model.specs.Feedback.{IsFeedback, AreFirstMarks}
use Rattle.plcx_order.specs.Walks.{AreComponents}
use Rattle.plcx_order.proofs.Paths.{by_wire}

pub goes_back : (g : Graph) (places : List Place) (u v c d : ℕ) → AreComponents g places → IsWire g.wires u v → u < (elements g) → v < (elements g) → ((e : ℕ) → get_or places u Unseen ≡ Done e → c ≡ e) → ((e : ℕ) → get_or places v Unseen ≡ Done e → d ≡ e) → (c ≡ d) ↔ Reaches (IsWire g.wires) v u
goes_back g places u v c d a w hu hv is_c is_d =
    let e = a.done u hu in
    let f = a.done v hv in
    let both = a.one u v e.0 f.0 hu hv e.1 f.1 (by_wire g.wires w.place u v w.below w.out_of w.into) in
    (λ h. both.0 (omega (arith, is_c e.0 e.1, is_d f.0 f.1)), λ r. omega (arith, both.1 r, is_c e.0 e.1, is_d f.0 f.1))

pub marks_more : (g : Graph) (i : ℕ) (marks : List Bool) (b : Bool) → AreFirstMarks g i marks → ((b ≡ true) ↔ IsFeedback g (from_at g.wires i) (to_at g.wires i)) → AreFirstMarks g (i + 1) (marks ++ b ∷ [])
marks_more g i marks b m h = record {
  count = length_push marks b ∙ ap (λ n. n + 1) m.count;
  each = λ k hk. elim (cases_lt k i) [
    | inl lt ↦ subst (λ x. (x ≡ true) ↔ IsFeedback g (from_at g.wires k) (to_at g.wires k)) (sym (get_or_append_left marks (b ∷ []) false k (omega (arith, m.count)))) (m.each k lt)
    | inr ge ↦
        let at : k ≡ i = omega arith in
        subst (λ x. (x ≡ true) ↔ IsFeedback g (from_at g.wires k) (to_at g.wires k)) (sym (get_or_push marks b false k (m.count ∙ sym at))) (subst (λ j. (b ≡ true) ↔ IsFeedback g (from_at g.wires j) (to_at g.wires j)) (sym at) h)
  ];
}
