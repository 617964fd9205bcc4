-- The walk's first state, a place with nothing left, and a connection that is met.
use Rattle.std.proofs.Common.{◌≡◌, ℕ, ◌+◌, ◌-◌, ◌<◌, ◌≤◌, ◌↔◌, inl, inr, get_or, List, length, refl, sym, ◌∙◌, ap, subst, arith}
use Rattle.std.proofs.lemmas.Bool.{cases_lt, cases_eq}
use Rattle.plcx_model.specs.declared.source.Wire.{Wire}
use Rattle.plcx_order.specs.declared.walk.Place.{Place}
use Rattle.plcx_order.specs.declared.walk.Place.TheVariants.{Unseen, Open, Done}
use Rattle.plcx_model.specs.Graph.{from_at, to_at, AreWithin, Graph, elements}
use Rattle.plcx_model.specs.Paths.{Reaches, IsWire}
use Rattle.plcx_order.specs.Walks.{IsLast, State, IsDoneBy, IsMet, closed, within, IsSettled, waits, met, Good, Goes, KeepsSeen, IsUnderWay, AreComponents, state_of}
use Rattle.plcx_order.specs.declared.walk.Walk.{Walk}
use Rattle.plcx_order.proofs.Moves.{open≢unseen, done≢unseen, met_stays, old_place, push, push_meets, push_keeps_seen, merge, merge_meets}
use Rattle.plcx_order.proofs.Paths.{then, by_wire, kept_by_wires}

-- REST: the top place has nothing left

pub rest : (n : ℕ) (ws : List Wire) (s : State) (todo : ℕ → ℕ) (todos : ℕ) → Good n ws s → todos + 1 ≡ s.todos → ((k : ℕ) → k < todos → todo k ≡ s.todo k) → s.left (s.stack (s.todo todos)) ≡ 0 → Good n ws (record s { todo = todo; todos = todos })
rest n ws s todo todos g e same none = record {
  inside = g.inside;
  stands = g.stands;
  placed = g.placed;
  leads = λ a b ha hb na. g.leads a b ha hb (record { all = na.all });
  settled = λ i h. again i (g.settled i h);
  falls = g.falls;
  same = g.same;
  fresh = g.fresh;
  rise = g.rise;
  top = g.top;
  bottom = g.bottom;
  some = g.some;
  listed = λ p h not. elim (cases_eq (s.todo todos) p) [
    | inl is ↦ sym (ap (λ x. s.left (s.stack x)) is) ∙ none
    | inr other ↦ g.listed p h (λ k hk is. elim (cases_lt k todos) [
      | inl lt ↦ not k lt (same k lt ∙ is)
      | inr ge ↦ let at : k ≡ todos = omega arith in other (sym (ap s.todo at) ∙ is)
    ])
  ];
  todo_rise = λ k l h hl. omega (arith, same k (omega arith), same l hl, g.todo_rise k l h (omega arith));
  todo_top = λ k h. omega (arith, same k h, g.todo_top k (omega arith));
  chained = g.chained;
}
  where
    again : (i : ℕ) → IsSettled ws s i → IsSettled ws (record s { todo = todo; todos = todos }) i
    again i (waits w) = waits w
    again i (met m) = met (met_stays ws s (record s { todo = todo; todos = todos }) i (λ v. refl) (λ a b na. record { all = na.all }) m)

-- PASS: connection i out of u is met, and the one before it is next

pub record Passes (ws : List Wire) (s : State) (left : ℕ → ℕ) (u i k : ℕ) : Type 0 where
  pub was : s.left u ≡ i + 1
  pub now : left u ≡ k
  pub else : (w : ℕ) → (w ≡ u → ⊥) → left w ≡ s.left w
  pub next : IsLast ws i u k

pub pass : (n : ℕ) (ws : List Wire) (s : State) (left : ℕ → ℕ) (u i k : ℕ) → Good n ws s → Passes ws s left u i k → IsMet ws s i → Good n ws (record s { left = left })
pass n ws s left u i k g m is_met = record {
  inside = g.inside;
  stands = g.stands;
  placed = g.placed;
  leads = λ a b ha hb na. g.leads a b ha hb (record { all = na.all });
  settled = λ j h. again j h (g.settled j h);
  falls = g.falls;
  same = g.same;
  fresh = g.fresh;
  rise = g.rise;
  top = g.top;
  bottom = g.bottom;
  some = g.some;
  listed = λ p h not. elim (cases_eq (s.stack p) u) [
    | inl is ↦ absurd (omega (arith, g.listed p h not, ap s.left is, m.was))
    | inr other ↦ m.else (s.stack p) other ∙ g.listed p h not
  ];
  todo_rise = g.todo_rise;
  todo_top = g.todo_top;
  chained = λ w h. elim (cases_eq w u) [
    | inl is ↦
        let at : left w ≡ k = ap left is ∙ m.now in
        let bound : k ≤ length ws = omega (arith, m.next.most, (g.chained w h).0, ap s.left is, m.was) in
        subst (λ y. (y ≤ length ws) × (0 < y → from_at ws (y - 1) ≡ w)) (sym at) (bound, λ pos. m.next.own pos ∙ sym is)
    | inr other ↦ subst (λ y. (y ≤ length ws) × (0 < y → from_at ws (y - 1) ≡ w)) (sym (m.else w other)) (g.chained w h)
  ];
}
  where
    still : (j : ℕ) → IsMet ws s j → IsMet ws (record s { left = left }) j
    still j m' = met_stays ws s (record s { left = left }) j (λ v. refl) (λ a b na. record { all = na.all }) m'

    again : (j : ℕ) → j < length ws → IsSettled ws s j → IsSettled ws (record s { left = left }) j
    again j h (met m') = met (still j m')
    again j h (waits w) = elim (cases_eq (from_at ws j) u) [
      | inr other ↦ waits (subst (λ x. j < x) (sym (m.else (from_at ws j) other)) w)
      | inl is ↦ elim (cases_lt j k) [
        | inl lt ↦ waits (subst (λ x. j < x) (sym (ap left is ∙ m.now)) lt)
        | inr ge ↦ elim (cases_eq j i) [
          | inl at ↦ met (still j (subst (IsMet ws s) (sym at) is_met))
          | inr not ↦ absurd (m.next.none_after j (omega (arith, ap s.left is, m.was)) ge is)
        ]
      ]
    ]

-- START: nothing is seen

pub record Starts (n : ℕ) (ws : List Wire) (s : State) : Type 0 where
  pub place : (v : ℕ) → s.place v ≡ Unseen
  pub height : s.height ≡ 0
  pub starts : s.starts ≡ 0
  pub todos : s.todos ≡ 0
  pub left : (u : ℕ) → u < n → IsLast ws (length ws) u (s.left u)

pub start : (n : ℕ) (ws : List Wire) (s : State) → AreWithin n ws → Starts n ws s → Good n ws s
start n ws s w m = record {
  inside = λ p h. absurd (omega (arith, m.height));
  stands = λ p h. absurd (omega (arith, m.height));
  placed = λ v p h e. absurd (open≢unseen p (sym e ∙ m.place v));
  leads = λ a b ha hb na. absurd (omega (arith, m.height));
  settled = λ i h. waits (elim (cases_lt i (s.left (from_at ws i))) [ inl lt ↦ lt | inr ge ↦ absurd ((m.left (from_at ws i) (w i h).0).none_after i h ge refl) ]);
  falls = λ i c h e. absurd (done≢unseen c (sym e ∙ m.place (from_at ws i)));
  same = λ u v c hu hv e f. absurd (done≢unseen c (sym e ∙ m.place u));
  fresh = λ v c h e. absurd (done≢unseen c (sym e ∙ m.place v));
  rise = λ k l h hl. absurd (omega (arith, m.starts));
  top = λ k h. absurd (omega (arith, m.starts));
  bottom = λ h. absurd (omega (arith, m.starts));
  some = λ e. m.height;
  listed = λ p h not. absurd (omega (arith, m.height));
  todo_rise = λ k l h hl. absurd (omega (arith, m.todos));
  todo_top = λ k h. absurd (omega (arith, m.todos));
  chained = λ u h. ((m.left u h).most, (m.left u h).own);
}

-- GO: where the next connection leads, something is done about it

pub record Went (n : ℕ) (ws : List Wire) (s t : State) (i : ℕ) : Type 0 where
  pub good : Good n ws t
  pub is_met : IsMet ws t i
  pub seen : KeepsSeen n s t

pub go_keeps : (n : ℕ) (ws : List Wire) (s t : State) (p i : ℕ) → AreWithin n ws → Good n ws s → i < length ws → p < s.height → ((k : ℕ) → k < s.starts → s.start k ≤ p) → from_at ws i ≡ s.stack p → Goes s t (to_at ws i) → Went n ws s t i
go_keeps n ws s t p i w g h hp top out goes = by_place (s.place (to_at ws i)) refl
  where
    from : s.place (from_at ws i) ≡ Open p
    from = ap s.place out ∙ g.stands p hp

    by_place : (x : Place) → s.place (to_at ws i) ≡ x → Went n ws s t i
    by_place Unseen e =
        let o = goes.unseen e in
        record {
          good = push n ws s t (to_at ws i) w (w i h).1 e g o (λ r hr. then (IsWire ws) (s.stack r) (s.stack p) (to_at ws i) (g.leads r p hr hp (record { all = λ k hk le. top k hk })) (by_wire ws i (s.stack p) (to_at ws i) h out refl));
          is_met = within p s.height (old_place s t (to_at ws i) (from_at ws i) (Open p) o e (open≢unseen p) from) o.place_here (push_meets n ws s t (to_at ws i) p g o);
          seen = push_keeps_seen n s t (to_at ws i) o;
        }
    by_place (Open q) e =
        let m = goes.opened q e in
        let at = g.placed (to_at ws i) q (w i h).1 e in
        record {
          good = merge n ws s t p q i g (record { from = hp; to = at.0; in_top = top; below = h; out_of = out; into = sym at.1; lowers = m });
          is_met = within p q (m.place (from_at ws i) ∙ from) (m.place (to_at ws i) ∙ e) (merge_meets n ws s t p q g m);
          seen = λ x hx f. sym (m.place x) ∙ f;
        }
    by_place (Done d) e =
        let same = goes.done d e in
        record {
          good = subst (Good n ws) (sym same) g;
          is_met = subst (λ x. IsMet ws x i) (sym same) (closed d e);
          seen = λ x hx f. ap (λ (y : State). y.place x) (sym same) ∙ f;
        }

-- FINISH: nothing is open, and nothing unseen

finished : (n : ℕ) (ws : List Wire) (s : State) (v : ℕ) → Good n ws s → s.height ≡ 0 → v < n → (s.place v ≡ Unseen → ⊥) → (c : ℕ) × (s.place v ≡ Done c)
finished n ws s v g e h seen = by_place (s.place v) refl
  where
    by_place : (x : Place) → s.place v ≡ x → (c : ℕ) × (s.place v ≡ Done c)
    by_place Unseen is = absurd (seen is)
    by_place (Open p) is = absurd (omega (arith, (g.placed v p h is).0))
    by_place (Done c) is = (c, is)

less_done : (c d : ℕ) (x : Place) → d ≤ c → IsDoneBy d x → IsDoneBy c x
less_done c d Unseen l h = h
less_done c d (Open p) l h = h
less_done c d (Done e) l h = omega arith

stays_done : (n : ℕ) (ws : List Wire) (s : State) (c i : ℕ) → Good n ws s → i < length ws → IsDoneBy c (s.place (from_at ws i)) → IsDoneBy c (s.place (to_at ws i))
stays_done n ws s c i g h d = by_place (s.place (from_at ws i)) refl d
  where
    by_place : (x : Place) → s.place (from_at ws i) ≡ x → IsDoneBy c x → IsDoneBy c (s.place (to_at ws i))
    by_place Unseen is k = absurd k
    by_place (Open p) is k = absurd k
    by_place (Done e) is k = less_done c e (s.place (to_at ws i)) k (g.falls i e h is)

-- what a done element reaches is done, in no later component
reached : (n : ℕ) (ws : List Wire) (s : State) (u v c d : ℕ) → Good n ws s → s.place u ≡ Done c → s.place v ≡ Done d → Reaches (IsWire ws) u v → d ≤ c
reached n ws s u v c d g e f r =
    let by : IsDoneBy c (s.place v) = kept_by_wires ws (λ x. IsDoneBy c (s.place x)) (λ i h k. stays_done n ws s c i g h k) u v r (subst (IsDoneBy c) (sym e) (let l : c ≤ c = omega arith in l)) in
    subst (IsDoneBy c) f by

pub one_component : (n : ℕ) (ws : List Wire) (s : State) (u v c d : ℕ) → Good n ws s → u < n → v < n → s.place u ≡ Done c → s.place v ≡ Done d → Reaches (IsWire ws) u v → (c ≡ d) ↔ Reaches (IsWire ws) v u
one_component n ws s u v c d g hu hv e f r =
    (λ is. g.same v u d hv hu f (e ∙ ap Done is), λ back. omega (arith, reached n ws s u v c d g e f r, reached n ws s v u d c g f e back))

pub all_done : (g : Graph) (w : Walk) → IsUnderWay g w → length w.starts.items ≡ 0 → ((v : ℕ) → v < (elements g) → get_or w.place.items v Unseen ≡ Unseen → ⊥) → AreComponents g w.place.items
all_done g w way empty seen = record {
  count = way.places;
  done = λ v h. finished (elements g) g.wires (state_of w) v way.good (way.good.some empty) h (seen v h);
  one = λ u v c d hu hv e f r. one_component (elements g) g.wires (state_of w) u v c d way.good hu hv e f r;
}
