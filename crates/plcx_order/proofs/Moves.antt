-- What each move of the walk keeps.
use Rattle.std.proofs.Common.{◌≡◌, ℕ, ◌+◌, ◌-◌, ◌<◌, ◌≤◌, ◌⊎◌, inl, inr, List, length, refl, sym, ◌∙◌, ap, subst, arith}
use Rattle.std.proofs.lemmas.Bool.{cases_lt, cases_eq}
use Rattle.plcx_model.specs.declared.source.Wire.{Wire}
use Rattle.plcx_order.specs.declared.walk.Place.{Place}
use Rattle.plcx_order.specs.declared.walk.Place.TheVariants.{Unseen, Open, Done}
use Rattle.plcx_model.specs.Graph.{from_at, to_at, AreWithin}
use Rattle.plcx_model.specs.Paths.{Reaches, IsWire}
use Rattle.plcx_order.specs.Walks.{State, NotAbove, IsDoneBy, IsMet, closed, within, IsSettled, waits, met, Good, Opens, Lowers, KeepsSeen}
use Rattle.plcx_order.proofs.Paths.{here, then, by_wire}

abbrev pub at_ends : (ws : List Wire) (u u' v v' : ℕ) → u' ≡ u → v' ≡ v → Reaches (IsWire ws) u v → Reaches (IsWire ws) u' v'
at_ends ws u u' v v' e f r = then (IsWire ws) u' u v' (here (IsWire ws) u' u e) (then (IsWire ws) u v v' r (here (IsWire ws) v v' (sym f)))

-- MERGE: the blocks above place q become one with q's

pub record Merges (ws : List Wire) (s t : State) (p q i : ℕ) : Type 0 where
  pub from : p < s.height
  pub to : q < s.height
  pub in_top : (k : ℕ) → k < s.starts → s.start k ≤ p
  pub below : i < length ws
  pub out_of : from_at ws i ≡ s.stack p
  pub into : to_at ws i ≡ s.stack q
  pub lowers : Lowers s t q

merge_leads : (n : ℕ) (ws : List Wire) (s t : State) (p q i : ℕ) → Good n ws s → Merges ws s t p q i → (a b : ℕ) → a < s.height → b < s.height → NotAbove t a b → Reaches (IsWire ws) (s.stack a) (s.stack b)
merge_leads n ws s t p q i g m a b ha hb na = elim (cases_lt a q) [
  | inl low ↦ g.leads a b ha hb (record {
    all = λ k hk le. elim (cases_lt k t.starts) [
      | inl lt ↦ subst (λ x. x ≤ b) (m.lowers.start k lt) (na.all k lt (subst (λ x. x ≤ a) (sym (m.lowers.start k lt)) le))
      | inr ge ↦ absurd (omega (arith, m.lowers.gone k ge hk))
    ];
  })
  | inr high ↦
      let up : Reaches (IsWire ws) (s.stack a) (s.stack p) = g.leads a p ha m.from (record { all = λ k hk le. m.in_top k hk }) in
      let over : Reaches (IsWire ws) (s.stack p) (s.stack q) = by_wire ws i (s.stack p) (s.stack q) m.below m.out_of m.into in
      let down : Reaches (IsWire ws) (s.stack q) (s.stack b) = g.leads q b m.to hb (record {
        all = λ k hk le. elim (cases_lt k t.starts) [
          | inl lt ↦ subst (λ x. x ≤ b) (m.lowers.start k lt) (na.all k lt (subst (λ x. x ≤ a) (sym (m.lowers.start k lt)) (omega arith)))
          | inr ge ↦ absurd (omega (arith, m.lowers.gone k ge hk))
        ];
      }) in
      then (IsWire ws) (s.stack a) (s.stack p) (s.stack b) up (then (IsWire ws) (s.stack p) (s.stack q) (s.stack b) over down)
]

-- fewer blocks leave a place not above another
pub fewer_blocks : (s t : State) (a b : ℕ) → t.starts ≤ s.starts → ((k : ℕ) → k < t.starts → t.start k ≡ s.start k) → NotAbove s a b → NotAbove t a b
fewer_blocks s t a b h e na = record { all = λ k hk le. subst (λ x. x ≤ b) (sym (e k hk)) (na.all k (omega arith) (subst (λ x. x ≤ a) (e k hk) le)) }

-- what is met stays met where the places stay
pub met_stays : (ws : List Wire) (s t : State) (i : ℕ) → ((v : ℕ) → t.place v ≡ s.place v) → ((a b : ℕ) → NotAbove s a b → NotAbove t a b) → IsMet ws s i → IsMet ws t i
met_stays ws s t i e h (closed d f) = closed d (e (to_at ws i) ∙ f)
met_stays ws s t i e h (within p q f f' na) = within p q (e (from_at ws i) ∙ f) (e (to_at ws i) ∙ f') (h p q na)

pub settled_stays : (ws : List Wire) (s t : State) (i : ℕ) → ((v : ℕ) → t.place v ≡ s.place v) → ((v : ℕ) → t.left v ≡ s.left v) → ((a b : ℕ) → NotAbove s a b → NotAbove t a b) → IsSettled ws s i → IsSettled ws t i
settled_stays ws s t i e l h (waits w) = waits (subst (λ x. i < x) (sym (l (from_at ws i))) w)
settled_stays ws s t i e l h (met m) = met (met_stays ws s t i e h m)

pub merge : (n : ℕ) (ws : List Wire) (s t : State) (p q i : ℕ) → Good n ws s → Merges ws s t p q i → Good n ws t
merge n ws s t p q i g m = record {
  inside = λ r h. subst (λ x. x < n) (sym (m.lowers.stack r)) (g.inside r (subst (λ x. r < x) m.lowers.height h));
  stands = λ r h. m.lowers.place (t.stack r) ∙ ap s.place (m.lowers.stack r) ∙ g.stands r (subst (λ x. r < x) m.lowers.height h);
  placed = λ v r h e. let old = g.placed v r h (sym (m.lowers.place v) ∙ e) in (subst (λ x. r < x) (sym m.lowers.height) old.0, m.lowers.stack r ∙ old.1);
  leads = λ a b ha hb na. at_ends ws (s.stack a) (t.stack a) (s.stack b) (t.stack b) (m.lowers.stack a) (m.lowers.stack b) (merge_leads n ws s t p q i g m a b (subst (λ x. a < x) m.lowers.height ha) (subst (λ x. b < x) m.lowers.height hb) na);
  settled = λ j h. settled_stays ws s t j m.lowers.place m.lowers.left (λ a b. fewer_blocks s t a b m.lowers.fewer m.lowers.start) (g.settled j h);
  falls = λ j c h e. subst (IsDoneBy c) (sym (m.lowers.place (to_at ws j))) (g.falls j c h (sym (m.lowers.place (from_at ws j)) ∙ e));
  same = λ u v c hu hv e f. g.same u v c hu hv (sym (m.lowers.place u) ∙ e) (sym (m.lowers.place v) ∙ f);
  fresh = λ v c h e. subst (λ x. c < x) (sym m.lowers.closed) (g.fresh v c h (sym (m.lowers.place v) ∙ e));
  rise = λ k l h hl. omega (arith, m.lowers.start k (omega arith), m.lowers.start l hl, g.rise k l h (omega arith));
  top = λ k h. omega (arith, m.lowers.start k h, g.top k (omega arith));
  bottom = λ h. m.lowers.start 0 h ∙ g.bottom (omega arith);
  some = λ h. absurd (omega arith);
  listed = λ r h no. (m.lowers.left (t.stack r) ∙ ap s.left (m.lowers.stack r)) ∙ g.listed r (omega arith) (λ k hk e. no k (omega arith) (m.lowers.todo k ∙ e));
  todo_rise = λ k l h hl. omega (arith, m.lowers.todo k, m.lowers.todo l, g.todo_rise k l h (omega arith));
  todo_top = λ k h. omega (arith, m.lowers.todo k, g.todo_top k (omega arith));
  chained = λ u h. subst (λ x. (x ≤ length ws) × (0 < x → from_at ws (x - 1) ≡ u)) (sym (m.lowers.left u)) (g.chained u h);
}

-- PUSH: an element that wasn't seen becomes a block of its own, on top

-- below the new top or the top
top_or_below : (r h k : ℕ) → k ≡ h + 1 → r < k → (r < h) ⊎ (r ≡ h)
top_or_below r h k e l = elim (cases_lt r h) [ inl lt ↦ inl lt | inr ge ↦ inr (omega arith) ]

-- a place that another state has too
pub old_place : (s t : State) (v w : ℕ) (x : Place) → Opens s t v → s.place v ≡ Unseen → (x ≡ Unseen → ⊥) → s.place w ≡ x → t.place w ≡ x
old_place s t v w x o u other e = o.place_else w (λ f. other (sym e ∙ (ap s.place f ∙ u))) ∙ e

-- a place that is new is the top's, or was there
new_place : (s t : State) (v w : ℕ) (x : Place) → Opens s t v → t.place w ≡ x → (s.place w ≡ x) ⊎ ((w ≡ v) × (x ≡ Open s.height))
new_place s t v w x o e = elim (cases_eq w v) [
  | inl is ↦ inr (is, sym e ∙ (ap t.place is ∙ o.place_here))
  | inr not ↦ inl (sym (o.place_else w not) ∙ e)
]

more_blocks : (n : ℕ) (ws : List Wire) (s t : State) (v a b : ℕ) → Good n ws s → Opens s t v → a < s.height → NotAbove s a b → NotAbove t a b
more_blocks n ws s t v a b g o ha na = record {
  all = λ k hk le. elim (top_or_below k s.starts t.starts o.starts hk) [
    | inl lt ↦ omega (arith, na.all k lt, o.start_else k lt)
    | inr is ↦ absurd (omega (arith, ap t.start is, o.start_here))
  ];
}

less_blocks : (s t : State) (v a b : ℕ) → Opens s t v → NotAbove t a b → NotAbove s a b
less_blocks s t v a b o na = record { all = λ k hk le. omega (arith, na.all k (omega arith), o.start_else k hk) }

push_leads : (n : ℕ) (ws : List Wire) (s t : State) (v : ℕ) → Good n ws s → Opens s t v → ((p : ℕ) → p < s.height → Reaches (IsWire ws) (s.stack p) v) → (a b : ℕ) → a < t.height → b < t.height → NotAbove t a b → Reaches (IsWire ws) (t.stack a) (t.stack b)
push_leads n ws s t v g o all a b ha hb na = elim (top_or_below a s.height t.height o.height ha) [
  | inl la ↦ elim (top_or_below b s.height t.height o.height hb) [
    | inl lb ↦ at_ends ws (s.stack a) (t.stack a) (s.stack b) (t.stack b) (o.stack_else a la) (o.stack_else b lb) (g.leads a b la lb (less_blocks s t v a b o na))
    | inr eb ↦ at_ends ws (s.stack a) (t.stack a) v (t.stack b) (o.stack_else a la) (ap t.stack eb ∙ o.stack_here) (all a la)
  ]
  | inr ea ↦ elim (top_or_below b s.height t.height o.height hb) [
    | inl lb ↦ absurd (omega (arith, na.all s.starts (omega arith) (omega arith)))
    | inr eb ↦ here (IsWire ws) (t.stack a) (t.stack b) (ap t.stack (ea ∙ sym eb))
  ]
]

pub open≢unseen : (p : ℕ) → Open p ≡ Unseen → ⊥
open≢unseen p e = cc

pub done≢unseen : (p : ℕ) → Done p ≡ Unseen → ⊥
done≢unseen p e = cc

pub done≢open : (p q : ℕ) → Done p ≡ Open q → ⊥
done≢open p q e = cc

pub open_is : (p q : ℕ) → Open p ≡ Open q → p ≡ q
open_is p q e = cc

pub done_is : (p q : ℕ) → Done p ≡ Done q → p ≡ q
done_is p q e = cc

push_met : (n : ℕ) (ws : List Wire) (s t : State) (v i : ℕ) → Good n ws s → Opens s t v → s.place v ≡ Unseen → AreWithin n ws → i < length ws → IsMet ws s i → IsMet ws t i
push_met n ws s t v i g o u w h (closed d e) = closed d (old_place s t v (to_at ws i) (Done d) o u (done≢unseen d) e)
push_met n ws s t v i g o u w h (within p q e f na) =
    within p q (old_place s t v (from_at ws i) (Open p) o u (open≢unseen p) e) (old_place s t v (to_at ws i) (Open q) o u (open≢unseen q) f) (more_blocks n ws s t v p q g o (g.placed (from_at ws i) p (w i h).0 e).0 na)

push_settled : (n : ℕ) (ws : List Wire) (s t : State) (v i : ℕ) → Good n ws s → Opens s t v → s.place v ≡ Unseen → AreWithin n ws → i < length ws → IsSettled ws s i → IsSettled ws t i
push_settled n ws s t v i g o u w h (waits l) = waits (subst (λ x. i < x) (sym (o.left (from_at ws i))) l)
push_settled n ws s t v i g o u w h (met m) = met (push_met n ws s t v i g o u w h m)

done_by_stays : (s t : State) (v w c : ℕ) → Opens s t v → s.place v ≡ Unseen → (x : Place) → s.place w ≡ x → IsDoneBy c x → IsDoneBy c (t.place w)
done_by_stays s t v w c o u Unseen e d = absurd d
done_by_stays s t v w c o u (Open p) e d = absurd d
done_by_stays s t v w c o u (Done p) e d = subst (IsDoneBy c) (sym (old_place s t v w (Done p) o u (done≢unseen p) e)) d

was_done : (s t : State) (v w c : ℕ) → Opens s t v → t.place w ≡ Done c → s.place w ≡ Done c
was_done s t v w c o e = elim (new_place s t v w (Done c) o e) [ inl was ↦ was | inr is ↦ absurd (done≢open c s.height is.1) ]

push_placed : (n : ℕ) (ws : List Wire) (s t : State) (v w p : ℕ) → Good n ws s → Opens s t v → w < n → t.place w ≡ Open p → (p < t.height) × (t.stack p ≡ w)
push_placed n ws s t v w p g o h e = elim (new_place s t v w (Open p) o e) [
  | inl was ↦ let old = g.placed w p h was in (omega (arith, o.height), o.stack_else p old.0 ∙ old.1)
  | inr is ↦ let at : p ≡ s.height = open_is p s.height is.1 in (omega (arith, o.height), ap t.stack at ∙ o.stack_here ∙ sym is.0)
]

push_stands : (n : ℕ) (ws : List Wire) (s t : State) (v r : ℕ) → Good n ws s → Opens s t v → s.place v ≡ Unseen → v < n → r < t.height → (t.stack r < n) × (t.place (t.stack r) ≡ Open r)
push_stands n ws s t v r g o u hv h = elim (top_or_below r s.height t.height o.height h) [
  | inl lt ↦
      let same : t.stack r ≡ s.stack r = o.stack_else r lt in
      (omega (arith, g.inside r lt), ap t.place same ∙ old_place s t v (s.stack r) (Open r) o u (open≢unseen r) (g.stands r lt))
  | inr is ↦
      let same : t.stack r ≡ v = ap t.stack is ∙ o.stack_here in
      (omega arith, ap t.place same ∙ o.place_here ∙ ap Open (sym is))
]

push_rise : (n : ℕ) (ws : List Wire) (s t : State) (v k l : ℕ) → Good n ws s → Opens s t v → k ≤ l → l < t.starts → t.start k ≤ t.start l
push_rise n ws s t v k l g o h hl = elim (top_or_below l s.starts t.starts o.starts hl) [
  | inl ll ↦ omega (arith, o.start_else l ll, o.start_else k (omega arith), g.rise k l h ll)
  | inr el ↦ elim (cases_lt k s.starts) [
    | inl lk ↦ omega (arith, o.start_else k lk, ap t.start el, o.start_here, g.top k lk)
    | inr ge ↦ let same : k ≡ l = omega arith in omega (arith, ap t.start same)
  ]
]

push_top : (n : ℕ) (ws : List Wire) (s t : State) (v k : ℕ) → Good n ws s → Opens s t v → k < t.starts → t.start k ≤ t.height
push_top n ws s t v k g o h = elim (top_or_below k s.starts t.starts o.starts h) [
  | inl lk ↦ omega (arith, o.start_else k lk, g.top k lk, o.height)
  | inr is ↦ omega (arith, ap t.start is, o.start_here, o.height)
]

push_bottom : (n : ℕ) (ws : List Wire) (s t : State) (v : ℕ) → Good n ws s → Opens s t v → t.start 0 ≡ 0
push_bottom n ws s t v g o = elim (cases_eq s.starts 0) [
  | inl is ↦ ap t.start (sym is) ∙ o.start_here ∙ g.some is
  | inr not ↦ o.start_else 0 (omega arith) ∙ g.bottom (omega arith)
]

push_listed : (n : ℕ) (ws : List Wire) (s t : State) (v p : ℕ) → Good n ws s → Opens s t v → p < t.height → ((k : ℕ) → k < t.todos → t.todo k ≡ p → ⊥) → t.left (t.stack p) ≡ 0
push_listed n ws s t v p g o h none = elim (top_or_below p s.height t.height o.height h) [
  | inl lt ↦ o.left (t.stack p) ∙ ap s.left (o.stack_else p lt) ∙ g.listed p lt (λ k hk e. none k (omega (arith, o.todos)) (o.todo_else k hk ∙ e))
  | inr is ↦ absurd (none s.todos (omega (arith, o.todos)) (o.todo_here ∙ sym is))
]

push_todo_rise : (n : ℕ) (ws : List Wire) (s t : State) (v k l : ℕ) → Good n ws s → Opens s t v → k < l → l < t.todos → t.todo k < t.todo l
push_todo_rise n ws s t v k l g o h hl = elim (top_or_below l s.todos t.todos o.todos hl) [
  | inl ll ↦ omega (arith, o.todo_else l ll, o.todo_else k (omega arith), g.todo_rise k l h ll)
  | inr el ↦ omega (arith, o.todo_else k (omega arith), ap t.todo el, o.todo_here, g.todo_top k (omega arith))
]

push_todo_top : (n : ℕ) (ws : List Wire) (s t : State) (v k : ℕ) → Good n ws s → Opens s t v → k < t.todos → t.todo k < t.height
push_todo_top n ws s t v k g o h = elim (top_or_below k s.todos t.todos o.todos h) [
  | inl lk ↦ omega (arith, o.todo_else k lk, g.todo_top k lk, o.height)
  | inr is ↦ omega (arith, ap t.todo is, o.todo_here, o.height)
]

pub push : (n : ℕ) (ws : List Wire) (s t : State) (v : ℕ) → AreWithin n ws → v < n → s.place v ≡ Unseen → Good n ws s → Opens s t v → ((p : ℕ) → p < s.height → Reaches (IsWire ws) (s.stack p) v) → Good n ws t
push n ws s t v w hv u g o all = record {
  inside = λ r h. (push_stands n ws s t v r g o u hv h).0;
  stands = λ r h. (push_stands n ws s t v r g o u hv h).1;
  placed = λ x r h e. push_placed n ws s t v x r g o h e;
  leads = push_leads n ws s t v g o all;
  settled = λ i h. push_settled n ws s t v i g o u w h (g.settled i h);
  falls = λ i c h e. done_by_stays s t v (to_at ws i) c o u (s.place (to_at ws i)) refl (g.falls i c h (was_done s t v (from_at ws i) c o e));
  same = λ x y c hx hy e f. g.same x y c hx hy (was_done s t v x c o e) (was_done s t v y c o f);
  fresh = λ x c h e. subst (λ y. c < y) (sym o.closed) (g.fresh x c h (was_done s t v x c o e));
  rise = λ k l h hl. push_rise n ws s t v k l g o h hl;
  top = λ k h. push_top n ws s t v k g o h;
  bottom = λ _. push_bottom n ws s t v g o;
  some = λ e. absurd (omega (arith, o.starts));
  listed = λ p h no. push_listed n ws s t v p g o h no;
  todo_rise = λ k l h hl. push_todo_rise n ws s t v k l g o h hl;
  todo_top = λ k h. push_todo_top n ws s t v k g o h;
  chained = λ x h. subst (λ y. (y ≤ length ws) × (0 < y → from_at ws (y - 1) ≡ x)) (sym (o.left x)) (g.chained x h);
}

pub push_keeps_seen : (n : ℕ) (s t : State) (v : ℕ) → Opens s t v → KeepsSeen n s t
push_keeps_seen n s t v o w h e = elim (new_place s t v w Unseen o e) [ inl was ↦ was | inr is ↦ absurd (open≢unseen s.height (sym is.1)) ]

-- after a merge, place q is in the top block
pub merge_meets : (n : ℕ) (ws : List Wire) (s t : State) (p q : ℕ) → Good n ws s → Lowers s t q → NotAbove t p q
merge_meets n ws s t p q g m = record {
  all = λ k hk le. elim (cases_lt 1 t.starts) [
    | inl more ↦ omega (arith, m.start k hk, m.stop more, g.rise k (t.starts - 1) (omega arith) (omega (arith, m.fewer)))
    | inr one ↦ let at : k ≡ 0 = omega arith in omega (arith, ap t.start at, m.start 0 m.some, g.bottom (omega (arith, m.some, m.fewer)))
  ];
}

-- after a push, so is the new top
pub push_meets : (n : ℕ) (ws : List Wire) (s t : State) (v p : ℕ) → Good n ws s → Opens s t v → NotAbove t p s.height
push_meets n ws s t v p g o = record {
  all = λ k hk le. elim (top_or_below k s.starts t.starts o.starts hk) [
    | inl lt ↦ omega (arith, o.start_else k lt, g.top k lt)
    | inr is ↦ omega (arith, ap t.start is, o.start_here)
  ];
}
