-- The top block is a component, and is closed.
use Rattle.std.proofs.Common.{◌≡◌, ℕ, ◌-◌, ◌<◌, ◌≤◌, ◌⊎◌, inl, inr, List, length, refl, sym, ◌∙◌, ap, subst, arith}
use Rattle.std.proofs.lemmas.Bool.{cases_lt}
use Rattle.plcx_model.specs.declared.source.Wire.{Wire}
use Rattle.plcx_order.specs.declared.walk.Place.{Place}
use Rattle.plcx_order.specs.declared.walk.Place.TheVariants.{Unseen, Open, Done}
use Rattle.plcx_model.specs.Graph.{from_at, to_at, AreWithin}
use Rattle.plcx_model.specs.Paths.{Reaches, IsWire}
use Rattle.plcx_order.specs.Walks.{State, NotAbove, IsDoneBy, closed, within, IsSettled, waits, met, Good, IsClosed, Closes, KeepsSeen}
use Rattle.plcx_order.proofs.Moves.{at_ends, open≢unseen, done≢unseen, done≢open, open_is, done_is}

-- nothing waits in the block
abbrev pub IsIdle : State → State → Type 0
IsIdle s t = (k : ℕ) → k < s.todos → s.todo k < t.height

-- what is open was open, below
was_open : (b c p : ℕ) (x y : Place) → IsClosed b c x y → y ≡ Open p → (x ≡ Open p) × (p < b)
was_open b c p Unseen y h e = absurd (open≢unseen p (sym e ∙ h))
was_open b c p (Done d) y h e = absurd (done≢open d p (sym h ∙ e))
was_open b c p (Open q) y h e = elim (cases_lt q b) [
  | inl lt ↦ let same : q ≡ p = open_is q p (sym (h.0 lt) ∙ e) in (ap Open same, omega arith)
  | inr ge ↦ absurd (done≢open c p (sym (h.1 ge) ∙ e))
]

-- what is done was done, or was open in the block
was_done : (b c d : ℕ) (x y : Place) → IsClosed b c x y → y ≡ Done d → (x ≡ Done d) ⊎ ((p : ℕ) × (x ≡ Open p) × (b ≤ p) × (d ≡ c))
was_done b c d Unseen y h e = absurd (done≢unseen d (sym e ∙ h))
was_done b c d (Done f) y h e = inl (sym h ∙ e)
was_done b c d (Open q) y h e = elim (cases_lt q b) [
  | inl lt ↦ absurd (done≢open d q (sym e ∙ h.0 lt))
  | inr ge ↦ inr (q, refl, ge, done_is d c (sym e ∙ h.1 ge))
]

stays_done : (b c d : ℕ) (x y : Place) → IsClosed b c x y → x ≡ Done d → y ≡ Done d
stays_done b c d Unseen y h e = absurd (done≢unseen d (sym e))
stays_done b c d (Done f) y h e = h ∙ e
stays_done b c d (Open q) y h e = absurd (done≢open d q (sym e))

low_stays : (b c p : ℕ) (x y : Place) → IsClosed b c x y → x ≡ Open p → p < b → y ≡ Open p
low_stays b c p Unseen y h e l = absurd (open≢unseen p (sym e))
low_stays b c p (Done f) y h e l = absurd (done≢open f p e)
low_stays b c p (Open q) y h e l = h.0 (omega (arith, open_is q p e)) ∙ e

high_closes : (b c p : ℕ) (x y : Place) → IsClosed b c x y → x ≡ Open p → b ≤ p → y ≡ Done c
high_closes b c p Unseen y h e l = absurd (open≢unseen p (sym e))
high_closes b c p (Done f) y h e l = absurd (done≢open f p e)
high_closes b c p (Open q) y h e l = h.1 (omega (arith, open_is q p e))

done_by : (c d : ℕ) (x : Place) → x ≡ Done d → d ≤ c → IsDoneBy c x
done_by c d x e l = subst (IsDoneBy c) (sym e) l

done_by_stays : (b c d : ℕ) (x y : Place) → IsClosed b c x y → IsDoneBy d x → IsDoneBy d y
done_by_stays b c d Unseen y h e = absurd e
done_by_stays b c d (Open p) y h e = absurd e
done_by_stays b c d (Done f) y h e = done_by d f y h e

-- in the states

less_blocks : (n : ℕ) (s t : State) (a b : ℕ) → Closes n s t → NotAbove s a b → NotAbove t a b
less_blocks n s t a b m na = record { all = λ k hk le. omega (arith, m.start k hk, na.all k (omega (arith, m.starts))) }

more_blocks : (n : ℕ) (s t : State) (a b : ℕ) → Closes n s t → a < t.height → NotAbove t a b → NotAbove s a b
more_blocks n s t a b m ha na = record {
  all = λ k hk le. elim (cases_lt k t.starts) [
    | inl lt ↦ omega (arith, m.start k lt, na.all k lt)
    | inr ge ↦ let same : k ≡ t.starts = omega (arith, m.starts) in absurd (omega (arith, ap s.start same, m.height))
  ];
}

close_settled : (n : ℕ) (ws : List Wire) (s t : State) (i : ℕ) → AreWithin n ws → Good n ws s → Closes n s t → i < length ws → IsSettled ws s i → IsSettled ws t i
close_settled n ws s t i w g m h (waits l) = waits (subst (λ x. i < x) (sym (m.left (from_at ws i))) l)
close_settled n ws s t i w g m h (met (closed d e)) = met (closed d (stays_done t.height s.closed d (s.place (to_at ws i)) (t.place (to_at ws i)) (m.place (to_at ws i) (w i h).1) e))
close_settled n ws s t i w g m h (met (within p q e f na)) =
    let to = m.place (to_at ws i) (w i h).1 in
    let from = m.place (from_at ws i) (w i h).0 in
    elim (cases_lt q t.height) [
      | inr high ↦ met (closed s.closed (high_closes t.height s.closed q (s.place (to_at ws i)) (t.place (to_at ws i)) to f high))
      | inl low ↦ elim (cases_lt p t.height) [
        | inl below ↦ met (within p q (low_stays t.height s.closed p (s.place (from_at ws i)) (t.place (from_at ws i)) from e below) (low_stays t.height s.closed q (s.place (to_at ws i)) (t.place (to_at ws i)) to f low) (less_blocks n s t p q m na))
        | inr above ↦ absurd (omega (arith, na.all t.starts (omega (arith, m.starts)), m.height))
      ]
    ]

-- a connection out of the block leads to what is done by now
from_block : (n : ℕ) (ws : List Wire) (s t : State) (i p : ℕ) → AreWithin n ws → Good n ws s → Closes n s t → IsIdle s t → i < length ws → s.place (from_at ws i) ≡ Open p → t.height ≤ p → IsSettled ws s i → IsDoneBy s.closed (t.place (to_at ws i))
from_block n ws s t i p w g m idle h e high (waits l) =
    let at = g.placed (from_at ws i) p (w i h).0 e in
    let none : s.left (s.stack p) ≡ 0 = g.listed p at.0 (λ k hk is. omega (arith, idle k hk)) in
    absurd (omega (arith, none, ap s.left at.1))
from_block n ws s t i p w g m idle h e high (met (closed d f)) =
    done_by s.closed d (t.place (to_at ws i)) (stays_done t.height s.closed d (s.place (to_at ws i)) (t.place (to_at ws i)) (m.place (to_at ws i) (w i h).1) f) (omega (arith, g.fresh (to_at ws i) d (w i h).1 f))
from_block n ws s t i p w g m idle h e high (met (within p' q e' f na)) =
    let same : p ≡ p' = open_is p p' (sym e ∙ e') in
    let above : t.height ≤ q = omega (arith, na.all t.starts (omega (arith, m.starts)), m.height) in
    done_by s.closed s.closed (t.place (to_at ws i)) (high_closes t.height s.closed q (s.place (to_at ws i)) (t.place (to_at ws i)) (m.place (to_at ws i) (w i h).1) f above) (omega arith)

close_falls : (n : ℕ) (ws : List Wire) (s t : State) (i c : ℕ) → AreWithin n ws → Good n ws s → Closes n s t → IsIdle s t → i < length ws → t.place (from_at ws i) ≡ Done c → IsDoneBy c (t.place (to_at ws i))
close_falls n ws s t i c w g m idle h e = elim (was_done t.height s.closed c (s.place (from_at ws i)) (t.place (from_at ws i)) (m.place (from_at ws i) (w i h).0) e) [
  | inl was ↦ done_by_stays t.height s.closed c (s.place (to_at ws i)) (t.place (to_at ws i)) (m.place (to_at ws i) (w i h).1) (g.falls i c h was)
  | inr now ↦ subst (λ x. IsDoneBy x (t.place (to_at ws i))) (sym now.3) (from_block n ws s t i now.0 w g m idle h now.1 now.2 (g.settled i h))
]

close_same : (n : ℕ) (ws : List Wire) (s t : State) (u v c : ℕ) → Good n ws s → Closes n s t → u < n → v < n → t.place u ≡ Done c → t.place v ≡ Done c → Reaches (IsWire ws) u v
close_same n ws s t u v c g m hu hv e f =
    elim (was_done t.height s.closed c (s.place u) (t.place u) (m.place u hu) e) [
      | inl was ↦ elim (was_done t.height s.closed c (s.place v) (t.place v) (m.place v hv) f) [
        | inl was' ↦ g.same u v c hu hv was was'
        | inr now ↦ absurd (omega (arith, now.3, g.fresh u c hu was))
      ]
      | inr now ↦ elim (was_done t.height s.closed c (s.place v) (t.place v) (m.place v hv) f) [
        | inl was ↦ absurd (omega (arith, now.3, g.fresh v c hv was))
        | inr now' ↦
            let at = g.placed u now.0 hu now.1 in
            let at' = g.placed v now'.0 hv now'.1 in
            at_ends ws (s.stack now.0) u (s.stack now'.0) v (sym at.1) (sym at'.1) (g.leads now.0 now'.0 at.0 at'.0 (record { all = λ k hk le. omega (arith, g.rise k t.starts (omega (arith, m.starts)) (omega (arith, m.starts)), m.height, now'.2) }))
      ]
    ]

close_fresh : (n : ℕ) (s t : State) (v c : ℕ) (ws : List Wire) → Good n ws s → Closes n s t → v < n → t.place v ≡ Done c → c < t.closed
close_fresh n s t v c ws g m h e = elim (was_done t.height s.closed c (s.place v) (t.place v) (m.place v h) e) [
  | inl was ↦ omega (arith, g.fresh v c h was, m.closed)
  | inr now ↦ omega (arith, now.3, m.closed)
]

lower : (n : ℕ) (ws : List Wire) (s t : State) → Good n ws s → Closes n s t → t.height ≤ s.height
lower n ws s t g m = omega (arith, g.top t.starts (omega (arith, m.starts)), m.height)

pub close : (n : ℕ) (ws : List Wire) (s t : State) → AreWithin n ws → Good n ws s → Closes n s t → IsIdle s t → Good n ws t
close n ws s t w g m idle = record {
  inside = λ r h. omega (arith, m.stack r h, g.inside r (omega (arith, lower n ws s t g m)));
  stands = λ r h.
      let below : r < s.height = omega (arith, lower n ws s t g m) in
      ap t.place (m.stack r h) ∙ low_stays t.height s.closed r (s.place (s.stack r)) (t.place (s.stack r)) (m.place (s.stack r) (g.inside r below)) (g.stands r below) h;
  placed = λ v p h e.
      let was = was_open t.height s.closed p (s.place v) (t.place v) (m.place v h) e in
      (was.1, m.stack p was.1 ∙ (g.placed v p h was.0).1);
  leads = λ a b ha hb na. at_ends ws (s.stack a) (t.stack a) (s.stack b) (t.stack b) (m.stack a ha) (m.stack b hb) (g.leads a b (omega (arith, lower n ws s t g m)) (omega (arith, lower n ws s t g m)) (more_blocks n s t a b m ha na));
  settled = λ i h. close_settled n ws s t i w g m h (g.settled i h);
  falls = λ i c h e. close_falls n ws s t i c w g m idle h e;
  same = λ u v c hu hv e f. close_same n ws s t u v c g m hu hv e f;
  fresh = λ v c h e. close_fresh n s t v c ws g m h e;
  rise = λ k l h hl. omega (arith, m.start k (omega arith), m.start l hl, g.rise k l h (omega (arith, m.starts)));
  top = λ k h. omega (arith, m.start k h, m.height, g.rise k t.starts (omega arith) (omega (arith, m.starts)));
  bottom = λ h. m.start 0 h ∙ g.bottom (omega (arith, m.starts));
  some = λ e. m.height ∙ (ap s.start e ∙ g.bottom (omega (arith, m.starts)));
  listed = λ p h none. m.left (t.stack p) ∙ (ap s.left (m.stack p h) ∙ g.listed p (omega (arith, lower n ws s t g m)) (λ k hk e. none k (omega (arith, m.todos)) (m.todo k ∙ e)));
  todo_rise = λ k l h hl. omega (arith, m.todo k, m.todo l, m.todos, g.todo_rise k l h (omega (arith, m.todos)));
  todo_top = λ k h. omega (arith, m.todo k, idle k (omega (arith, m.todos)));
  chained = λ x h. subst (λ y. (y ≤ length ws) × (0 < y → from_at ws (y - 1) ≡ x)) (sym (m.left x)) (g.chained x h);
}

unseen_was : (b c : ℕ) (x y : Place) → IsClosed b c x y → y ≡ Unseen → x ≡ Unseen
unseen_was b c Unseen y h e = refl
unseen_was b c (Done f) y h e = absurd (done≢unseen f (sym h ∙ e))
unseen_was b c (Open q) y h e = elim (cases_lt q b) [
  | inl lt ↦ absurd (open≢unseen q (sym (h.0 lt) ∙ e))
  | inr ge ↦ absurd (done≢unseen c (sym (h.1 ge) ∙ e))
]

pub close_keeps_seen : (n : ℕ) (s t : State) → Closes n s t → KeepsSeen n s t
close_keeps_seen n s t m v h e = unseen_was t.height s.closed (s.place v) (t.place v) (m.place v h) e
