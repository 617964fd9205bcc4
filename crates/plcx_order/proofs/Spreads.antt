-- What seeing a neighbour, beginning a network and going over all neighbours keep.
use Rattle.std.proofs.Common.{◌≡◌, ℕ, zero, suc, ◌+◌, ◌-◌, ◌<◌, ◌≤◌, ◌⊎◌, inl, inr, List, [], ◌∷◌, ◌++◌, length, set, slice_index, nat_eq, refl, sym, ◌∙◌, ap, subst, arith, length-set, get_or-set_same, get_or-set_other}
use Rattle.std.proofs.lemmas.Bool.{cases_lt, cases_eq}
use Rattle.std.proofs.lemmas.List.{length_push, get_or_push, get_or_append_left}
use Rattle.plcx_model.specs.declared.source.Wire.{Wire}
use Rattle.plcx_model.specs.Graph.{Graph, IsGraph, TakesPart, PlaceBefore, elements, from_at, to_at}
use Rattle.plcx_model.specs.Paths.{IsWire, IsLink, Reaches}
use Rattle.plcx_model.specs.Networks.{Listed}
use Rattle.plcx_order.specs.Classes.{AreLinks, IsSpread, Spreading, IsDoneFrom, KeepsNumbers, left_to_do}
use Rattle.plcx_order.proofs.Paths.{here, then, step}
use Rattle.plcx_order.proofs.InNetwork.{link_back, part_within}
use Rattle.plcx_order.proofs.OneOrder.{stays_listed, last_listed, was_listed}
use Rattle.plcx_order.proofs.Counting.{eq_true, eq_false, less_count}

-- a number that is seen
pub number_of : (number : List ℕ) (v c x : ℕ) → v < length number → slice_index number v ≡ 0 → 0 < slice_index number x → slice_index (set number v c) x ≡ slice_index number x
number_of number v c x h e pos = get_or-set_other number v x c 0 (λ is. omega (arith, ap (slice_index number) is))

pub keeps_numbers : (number : List ℕ) (v c : ℕ) → v < length number → slice_index number v ≡ 0 → KeepsNumbers number (set number v c)
keeps_numbers number v c h e x pos = number_of number v c x h e pos

-- A NEIGHBOUR THAT WASN'T SEEN

pub meet_new : (g : Graph) (number todo firsts : List ℕ) (u v : ℕ) → IsGraph g → IsSpread g number (Spreading u todo) firsts → IsLink g u v → slice_index number v ≡ 0 → IsSpread g (set number v (length firsts)) (Spreading u (todo ++ v ∷ [])) firsts
meet_new g number todo firsts u v is s l e =
    let c = length firsts in
    let new = set number v c in
    let now = s.current u (inl refl) in
    let hv : v < length number = omega (arith, s.count, part_within g v is l.second) in
    let at : slice_index new v ≡ c = get_or-set_same number v c 0 hv in
    let else : (x : ℕ) → (x ≡ v → ⊥) → slice_index new x ≡ slice_index number x = λ x other. get_or-set_other number v x c 0 other in
    record {
      count = length-set number v c ∙ s.count;
      below = λ x. elim (cases_eq x v) [ inl same ↦ omega (arith, ap (slice_index new) same, at) | inr other ↦ omega (arith, else x other, s.below x) ];
      part = s.part;
      first = λ k h. number_of number v c (slice_index firsts k) hv e (omega (arith, s.first k h)) ∙ s.first k h;
      linked = λ x pos. elim (cases_eq x v) [
        | inl same ↦
            let to_u : Reaches (IsLink g) (slice_index firsts (c - 1)) u = subst (λ n. Reaches (IsLink g) (slice_index firsts (n - 1)) u) now.0 (s.linked u (omega (arith, now.0, now.2))) in
            let to_v : Reaches (IsLink g) (slice_index firsts (c - 1)) v = then (IsLink g) (slice_index firsts (c - 1)) u v to_u (step (IsLink g) u v l) in
            subst (λ y. Reaches (IsLink g) (slice_index firsts (slice_index new y - 1)) y) (sym same) (subst (λ n. Reaches (IsLink g) (slice_index firsts (n - 1)) v) (sym at) to_v)
        | inr other ↦ subst (λ n. Reaches (IsLink g) (slice_index firsts (n - 1)) x) (sym (else x other)) (s.linked x (omega (arith, else x other, pos)))
      ];
      met = λ x y link pos. elim (cases_eq x v) [
        | inl same ↦ inr (inr (last_listed todo v x same))
        | inr other ↦ elim (s.met x y link (omega (arith, else x other, pos))) [
          | inl level ↦ inl (number_of number v c y hv e (omega (arith, level, else x other, pos)) ∙ (level ∙ sym (else x other)))
          | inr waits ↦ inr (elim waits [ inl at_u ↦ inl at_u | inr there ↦ inr (stays_listed todo v x there) ])
        ]
      ];
      current = λ x waits. elim (cases_eq x v) [
        | inl same ↦ (ap (slice_index new) same ∙ at, omega (arith, s.count), now.2)
        | inr other ↦
            let was : Spreading u todo x = elim waits [ inl at_u ↦ inl at_u | inr there ↦ inr (elim (was_listed todo v x there) [ inl same ↦ absurd (other same) | inr before ↦ before ]) ] in
            let old = s.current x was in
            (else x other ∙ old.0, old.1, old.2)
      ];
      least = λ k x h takes n. elim (cases_eq x v) [
        | inl same ↦ s.least k x h takes (inl (ap (slice_index number) same ∙ e))
        | inr other ↦ s.least k x h takes (elim n [ inl none ↦ inl (sym (else x other) ∙ none) | inr later ↦ inr (omega (arith, else x other, later)) ])
      ];
    }

pub meet_old : (g : Graph) (number todo firsts : List ℕ) (u v : ℕ) → IsSpread g number (Spreading u todo) firsts → IsLink g u v → (slice_index number v ≡ 0 → ⊥) → slice_index number v ≡ slice_index number u
meet_old g number todo firsts u v s l seen = elim (s.met v u (link_back g u v l) (elim (cases_lt 0 (slice_index number v)) [ inl pos ↦ pos | inr none ↦ absurd (seen (omega arith)) ])) [
  | inl level ↦ sym level
  | inr waits ↦ (s.current v waits).0 ∙ sym (s.current u (inl refl)).0
]

pub less_unseen : (n : ℕ) (number todo : List ℕ) (v c : ℕ) → v < n → n ≡ length number → 0 < c → slice_index number v ≡ 0 → left_to_do n (set number v c) (todo ++ v ∷ []) ≤ left_to_do n number todo
less_unseen n number todo v c h len pos e =
    let new = set number v c in
    let fewer = less_count n (λ x. nat_eq (slice_index number x) 0) (λ x. nat_eq (slice_index new x) 0) v h
    (eq_true (slice_index number v) 0 e)
    (eq_false (slice_index new v) 0 (λ z. omega (arith, get_or-set_same number v c 0 (omega (arith, len)))))
    (λ x hx other. ap (λ k. nat_eq k 0) (sym (get_or-set_other number v x c 0 other))) in
    omega (arith, fewer, length_push todo v)

-- ALL NEIGHBOURS

pub done_start : (links : List Wire) (number : List ℕ) (u k : ℕ) → ((j : ℕ) → j < length links → k ≤ j → from_at links j ≡ u → ⊥) → IsDoneFrom links number u k
done_start links number u k none i h ge from = absurd (none i h ge from)

pub done_kept : (links : List Wire) (old new : List ℕ) (u k : ℕ) → KeepsNumbers old new → 0 < slice_index old u → IsDoneFrom links old u k → IsDoneFrom links new u k
done_kept links old new u k kept pos d i h ge from =
    let was = d i h ge from in
    kept (to_at links i) (omega (arith, was)) ∙ (was ∙ sym (kept u pos))

-- link i of u is met, and the one before it is next
pub done_more : (links : List Wire) (number : List ℕ) (u i k : ℕ) → IsDoneFrom links number u (i + 1) → slice_index number (to_at links i) ≡ slice_index number u → ((j : ℕ) → j < i → k ≤ j → from_at links j ≡ u → ⊥) → IsDoneFrom links number u k
done_more links number u i k d here none j h ge from = elim (cases_lt j i) [
  | inl low ↦ absurd (none j low ge from)
  | inr high ↦ elim (cases_eq j i) [
    | inl is ↦ ap (λ x. slice_index number (to_at links x)) is ∙ here
    | inr other ↦ d j h (omega arith) from
  ]
]

linked_wire : (g : Graph) (links : List Wire) (u v : ℕ) → AreLinks g (length g.wires) links → IsLink g u v → IsWire links u v
linked_wire g links u v a l = elim l.wired [
  | inl w ↦
      let both = a.whole w.place w.below (subst (TakesPart g) (sym w.out_of) l.first) (subst (TakesPart g) (sym w.into) l.second) in
      subst (λ x. IsWire links x v) w.out_of (subst (IsWire links (from_at g.wires w.place)) w.into both.0)
  | inr w ↦
      let both = a.whole w.place w.below (subst (TakesPart g) (sym w.out_of) l.second) (subst (TakesPart g) (sym w.into) l.first) in
      subst (λ x. IsWire links x v) w.into (subst (IsWire links (to_at g.wires w.place)) w.out_of both.1)
]

pub spread_end : (g : Graph) (links : List Wire) (number todo firsts : List ℕ) (u : ℕ) → AreLinks g (length g.wires) links → IsSpread g number (Spreading u todo) firsts → IsDoneFrom links number u 0 → IsSpread g number (Listed todo) firsts
spread_end g links number todo firsts u a s d = record {
  count = s.count;
  below = s.below;
  part = s.part;
  first = s.first;
  linked = s.linked;
  met = λ x y link pos. elim (s.met x y link pos) [
    | inl level ↦ inl level
    | inr waits ↦ elim waits [
      | inl is ↦
          let w = linked_wire g links u y a (subst (λ z. IsLink g z y) is link) in
          inl (sym (ap (slice_index number) w.into) ∙ (d w.place w.below (omega arith) w.out_of ∙ sym (ap (slice_index number) is)))
      | inr there ↦ inr there
    ]
  ];
  current = λ x there. s.current x (inr there);
  least = s.least;
}

-- what waited last is spread next
pub spread_next : (g : Graph) (number old new firsts : List ℕ) (u : ℕ) → old ≡ new ++ u ∷ [] → IsSpread g number (Listed old) firsts → IsSpread g number (Spreading u new) firsts
spread_next g number old new firsts u e s = record {
  count = s.count;
  below = s.below;
  part = s.part;
  first = s.first;
  linked = s.linked;
  met = λ x y link pos. elim (s.met x y link pos) [ inl level ↦ inl level | inr waits ↦ inr (was_listed new u x (subst (λ xs. Listed xs x) e waits)) ];
  current = λ x waits. s.current x (subst (λ xs. Listed xs x) (sym e) (elim waits [ inl is ↦ last_listed new u x is | inr there ↦ stays_listed new u x there ]));
  least = s.least;
}

-- A NETWORK BEGINS

pub begin : (g : Graph) (number firsts : List ℕ) (root : ℕ) → IsGraph g → IsSpread g number (Listed []) firsts → TakesPart g root → slice_index number root ≡ 0 → ((v : ℕ) → TakesPart g v → slice_index number v ≡ 0 → (v ≡ root) ⊎ PlaceBefore g root v) → IsSpread g (set number root (length firsts + 1)) (Listed (root ∷ [])) (firsts ++ root ∷ [])
begin g number firsts root is s takes e first =
    let c = length firsts in
    let new = set number root (c + 1) in
    let later = firsts ++ root ∷ [] in
    let long : length later ≡ c + 1 = length_push firsts root in
    let hv : root < length number = omega (arith, s.count, part_within g root is takes) in
    let at : slice_index new root ≡ c + 1 = get_or-set_same number root (c + 1) 0 hv in
    let else : (x : ℕ) → (x ≡ root → ⊥) → slice_index new x ≡ slice_index number x = λ x other. get_or-set_other number root x (c + 1) 0 other in
    let early : (k : ℕ) → k < c → slice_index later k ≡ slice_index firsts k = λ k h. get_or_append_left firsts (root ∷ []) 0 k h in
    let last : (k : ℕ) → k ≡ c → slice_index later k ≡ root = λ k h. get_or_push firsts root 0 k (sym h) in
    record {
      count = length-set number root (c + 1) ∙ s.count;
      below = λ x. elim (cases_eq x root) [ inl same ↦ omega (arith, ap (slice_index new) same, at, long) | inr other ↦ omega (arith, else x other, s.below x, long) ];
      part = λ k h. elim (cases_lt k c) [
        | inl low ↦ subst (TakesPart g) (sym (early k low)) (s.part k low)
        | inr high ↦ subst (TakesPart g) (sym (last k (omega (arith, long)))) takes
      ];
      first = λ k h. elim (cases_lt k c) [
        | inl low ↦ ap (slice_index new) (early k low) ∙ (number_of number root (c + 1) (slice_index firsts k) hv e (omega (arith, s.first k low)) ∙ s.first k low)
        | inr high ↦ let top : k ≡ c = omega (arith, long) in ap (slice_index new) (last k top) ∙ (at ∙ ap (λ n. n + 1) (sym top))
      ];
      linked = λ x pos. elim (cases_eq x root) [
        | inl same ↦
            let top : slice_index later ((c + 1) - 1) ≡ root = last ((c + 1) - 1) (omega arith) in
            subst (λ y. Reaches (IsLink g) (slice_index later (slice_index new y - 1)) y) (sym same) (subst (λ n. Reaches (IsLink g) (slice_index later (n - 1)) root) (sym at) (here (IsLink g) (slice_index later ((c + 1) - 1)) root top))
        | inr other ↦
            let low : slice_index number x - 1 < c = omega (arith, s.below x, else x other, pos) in
            subst (λ n. Reaches (IsLink g) (slice_index later (n - 1)) x) (sym (else x other)) (subst (λ y. Reaches (IsLink g) y x) (sym (early (slice_index number x - 1) low)) (s.linked x (omega (arith, else x other, pos))))
      ];
      met = λ x y link pos. elim (cases_eq x root) [
        | inl same ↦ inr (inl same)
        | inr other ↦ elim (s.met x y link (omega (arith, else x other, pos))) [
          | inl level ↦ inl (number_of number root (c + 1) y hv e (omega (arith, level, else x other, pos)) ∙ (level ∙ sym (else x other)))
          | inr waits ↦ absurd waits
        ]
      ];
      current = λ x waits. elim waits [
        | inl same ↦ (ap (slice_index new) same ∙ (at ∙ sym long), omega (arith, part_within g root is takes), omega (arith, long))
        | inr not ↦ absurd not
      ];
      least = λ k x h part n. elim (cases_lt k c) [
        | inl low ↦ subst (λ y. (x ≡ y) ⊎ PlaceBefore g y x) (sym (early k low)) (s.least k x low part (elim (cases_eq x root) [
          | inl same ↦ inl (ap (slice_index number) same ∙ e)
          | inr other ↦ elim n [ inl none ↦ inl (sym (else x other) ∙ none) | inr higher ↦ inr (omega (arith, else x other, higher)) ]
        ]))
        | inr high ↦ subst (λ y. (x ≡ y) ⊎ PlaceBefore g y x) (sym (last k (omega (arith, long)))) (elim (cases_eq x root) [
          | inl same ↦ inl same
          | inr other ↦ elim n [
            | inl none ↦ first x part (sym (else x other) ∙ none)
            | inr higher ↦ absurd (omega (arith, else x other, s.below x, higher, long))
          ]
        ])
      ];
    }

past_end : (xs : List ℕ) (v : ℕ) → length xs ≤ v → slice_index xs v ≡ 0
past_end [] v h = refl
past_end (x ∷ xs) zero h = absurd (omega (arith, h))
past_end (x ∷ xs) (suc v) h = past_end xs v (omega (arith, h))

-- nothing is seen
pub spread_start : (g : Graph) (number firsts : List ℕ) → length number ≡ elements g → ((v : ℕ) → v < elements g → slice_index number v ≡ 0) → firsts ≡ [] → IsSpread g number (Listed []) firsts
spread_start g number firsts e zeros empty =
    let none : (v : ℕ) → slice_index number v ≡ 0 = λ v. elim (cases_lt v (elements g)) [ inl lt ↦ zeros v lt | inr ge ↦ past_end number v (omega (arith, e)) ] in
    let no_firsts : length firsts ≡ 0 = ap length empty in
    record {
      count = e;
      below = λ v. omega (arith, none v);
      part = λ k h. absurd (omega arith);
      first = λ k h. absurd (omega arith);
      linked = λ v pos. absurd (omega (arith, none v));
      met = λ u v link pos. absurd (omega (arith, none u));
      current = λ u waits. absurd waits;
      least = λ k v h. absurd (omega arith);
    }
