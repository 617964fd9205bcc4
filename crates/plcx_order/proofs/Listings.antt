-- What listing one more element keeps.
use Rattle.std.proofs.Common.{◌≡◌, ℕ, ◌+◌, ◌<◌, ◌≤◌, ◌&&◌, not, inl, inr, Bool, true, false, List, [], ◌∷◌, ◌++◌, length, slice_index, nat_eq, refl, sym, ◌∙◌, ap, subst, arith, append-nil, append_assoc}
use Rattle.std.specs.List.{All}
use Rattle.std.specs.Ordering.{is_lt, is_gt, nat_cmp, ordering_then, ordering_reverse}
use Rattle.std.specs.declared.cmp.Ordering.{Ordering}
use Rattle.std.specs.declared.cmp.Ordering.TheVariants.{Less, Equal, Greater}
use Rattle.std.proofs.lemmas.Bool.{cases_eq}
use Rattle.std.proofs.lemmas.List.Sorted.{sum_by_popped, All-permutation}
use Rattle.std.proofs.lemmas.List.Sums.{sum_by-cons}
use Rattle.std.proofs.lemmas.List.Elements.{All-head, All-tail}
use Rattle.plcx_model.specs.Keys.{key_cmp}
use Rattle.plcx_model.specs.Graph.{Graph, IsGraph, KeyAtMost, TakesPart, takes_part, elements, key_at, from_at, to_at}
use Rattle.plcx_model.specs.Paths.{IsLink}
use Rattle.plcx_model.specs.Networks.{Listed, IsNetwork}
use Rattle.plcx_model.specs.Feedback.{IsFeedback, AreMarks}
use Rattle.plcx_model.specs.Orders.{IsReady, IsNext, IsOrderFrom, IsOrder}
use Rattle.plcx_order.specs.declared.ready.Entry.{Entry}
use Rattle.plcx_order.specs.Ranks.{rank_of, ranks_cmp}
use Rattle.plcx_order.specs.Counts.{one, is_awaited, IsWholeCount, places_of, entries_of, entry_cmp, TakesLeast, IsEntry, AreAwaited, IsWaiting, IsUntouched, LeavesOthers, IsListing, HasHeard, unlisted}
use Rattle.plcx_order.proofs.RankOrder.{compare_alike}
use Rattle.plcx_order.proofs.KeyOrder.{keys_total, at_most_itself}
use Rattle.plcx_order.proofs.Paths.{step}
use Rattle.plcx_order.proofs.InNetwork.{inside, closed}
use Rattle.plcx_order.proofs.OneOrder.{next_or_all, stays_listed, last_listed, was_listed}
use Rattle.plcx_order.proofs.Counting.{eq_true, eq_false, one_same, one_other, and_no, no_and, and_yes, either_bool, count_zero, zero_count, less_count, none_listed, some_listed, places-push}

-- THE NEXT ONE

-- what is ready waits for nothing
ready_free : (g : Graph) (part : List ℕ) (marks a : List Bool) (c : List ℕ) (r : List Entry) (xs : List ℕ) (v : ℕ) → IsListing g part marks a c r xs → v < elements g → IsReady g part xs v → slice_index c v ≡ 0
ready_free g part marks a c r xs v l hv y =
    let ws = g.wires in
    l.waiting.counted.each v hv ∙ zero_count (length ws) (λ i. nat_eq (to_at ws i) v && is_awaited a i) (λ i h. elim (either_bool (is_awaited a i)) [
      | inr off ↦ and_no (nat_eq (to_at ws i) v) (is_awaited a i) off
      | inl on ↦ no_and (nat_eq (to_at ws i) v) (is_awaited a i) (eq_false (to_at ws i) v (λ at.
          let from = l.into i h (subst (Listed part) (sym at) y.element) on in
          (l.unheard i h on).1 (y.sources (from_at ws i) (record { place = i; below = h; out_of = refl; into = at }) from (λ f. (l.unheard i h on).0 (subst (IsFeedback g (from_at ws i)) (sym at) f)))))
    ])

-- what waits for nothing and isn't listed is ready
free_ready : (g : Graph) (part : List ℕ) (marks a : List Bool) (c : List ℕ) (r : List Entry) (xs : List ℕ) (v : ℕ) → IsListing g part marks a c r xs → v < elements g → Listed part v → slice_index c v ≡ 0 → (Listed xs v → ⊥) → IsReady g part xs v
free_ready g part marks a c r xs v l hv h e new =
    let ws = g.wires in
    record {
      element = h;
      new = new;
      sources = λ u w there not.
          let i = w.place in
          let off = count_zero (length ws) (λ j. nat_eq (to_at ws j) v && is_awaited a j) (sym (l.waiting.counted.each v hv) ∙ e) i w.below in
          let silent : is_awaited a i ≡ false = sym (and_yes (nat_eq (to_at ws i) v) (is_awaited a i) (eq_true (to_at ws i) v w.into)) ∙ off in
          elim (l.heard i w.below (subst (Listed part) (sym w.out_of) there) (subst (Listed part) (sym w.into) h) silent) [
            | inl f ↦ absurd (not (subst (λ x. IsFeedback g x v) w.out_of (subst (IsFeedback g (from_at ws i)) w.into f)))
            | inr listed ↦ subst (Listed xs) w.out_of listed
          ];
    }

-- an element of the heap has no lesser key than the least
first_decides : (a b : Ordering) → is_lt (ordering_then a b) ≡ false → is_lt a ≡ false
first_decides Less b e = e
first_decides Equal b e = refl
first_decides Greater b e = refl

pub not_greater : (a b : Ordering) → b ≡ ordering_reverse a → is_lt a ≡ false → is_gt b ≡ false
not_greater Less b e h = absurd (let f : true ≡ false = h in cc)
not_greater Equal b e h = ap is_gt e
not_greater Greater b e h = ap is_gt e

entry_at_most : (g : Graph) (part : List ℕ) (x y : Entry) → IsEntry g part x → IsEntry g part y → is_lt (entry_cmp y x) ≡ false → KeyAtMost g x.element y.element
entry_at_most g part x y ex ey e =
    let kx = key_at g x.element in
    let ky = key_at g y.element in
    let ranks : is_lt (ranks_cmp y.rank x.rank) ≡ false = first_decides (ranks_cmp y.rank x.rank) (nat_cmp y.element x.element) e in
    let keys : ranks_cmp y.rank x.rank ≡ key_cmp ky kx = ap (λ r. ranks_cmp r x.rank) ey.rank ∙ (ap (ranks_cmp (rank_of ky)) ex.rank ∙ compare_alike ky kx) in
    not_greater (key_cmp ky kx) (key_cmp kx ky) (keys_total.antisymm kx ky) (sym (ap is_lt keys) ∙ ranks)

least_of : (g : Graph) (part : List ℕ) (x : Entry) (r : List Entry) (v : ℕ) → IsEntry g part x → All (λ y. is_lt (entry_cmp y x) ≡ false) r → All (IsEntry g part) r → 1 ≤ entries_of r v → KeyAtMost g x.element v
least_of g part x [] v ex h a some = absurd (omega (arith, some))
least_of g part x (y ∷ r) v ex h a some = elim (cases_eq y.element v) [
  | inl is ↦ subst (KeyAtMost g x.element) is (entry_at_most g part x y ex (All-head (IsEntry g part) y r a) (All-head (λ z. is_lt (entry_cmp z x) ≡ false) y r h))
  | inr other ↦ least_of g part x r v ex (All-tail (λ z. is_lt (entry_cmp z x) ≡ false) y r h) (All-tail (IsEntry g part) y r a) (omega (arith, some, one_other y.element v other, sum_by-cons (λ (e : Entry). one e.element v) y r))
]

-- what stands on taking the least
pub record Taken (g : Graph) (part xs : List ℕ) (old : List Entry) (e : Entry) (new : List Entry) : Type 0 where
  pub element : e.element < elements g
  pub inside : Listed part e.element
  pub entries : All (IsEntry g part) new
  pub new_there : places_of xs e.element ≡ 0
  pub next : IsNext g part xs e.element
  pub less : (v : ℕ) → entries_of new v + one e.element v ≡ entries_of old v

not_zero : (k : ℕ) → 1 ≤ one k 0 → k ≡ 0
not_zero k h = elim (cases_eq k 0) [ inl is ↦ is | inr other ↦ absurd (omega (arith, one_other k 0 other)) ]

at_most_one : (a b : ℕ) → one a b ≤ 1
at_most_one a b = elim (cases_eq a b) [ inl is ↦ omega (arith, one_same a b is) | inr other ↦ omega (arith, one_other a b other) ]

pub taken : (g : Graph) (part : List ℕ) (marks a : List Bool) (c : List ℕ) (old : List Entry) (xs : List ℕ) (e : Entry) (new : List Entry) → IsGraph g → IsNetwork g part → IsListing g part marks a c old xs → TakesLeast old e new → Taken g part xs old e new
taken g part marks a c old xs e new is network l t =
    let within = inside g part is network in
    let all = All-permutation (IsEntry g part) old (e ∷ new) t.same l.entries in
    let it = All-head (IsEntry g part) e new all in
    let rest = All-tail (IsEntry g part) e new all in
    let less : (v : ℕ) → entries_of new v + one e.element v ≡ entries_of old v = λ v. sum_by_popped (λ (f : Entry). one f.element v) e old new t.same in
    let zero_count : slice_index c e.element ≡ 0 = not_zero (slice_index c e.element) (omega (arith, l.once e.element it.element, less e.element, one_same e.element e.element refl)) in
    let new_there : places_of xs e.element ≡ 0 = omega (arith, l.once e.element it.element, less e.element, one_same e.element e.element refl, at_most_one (slice_index c e.element) 0) in
    let ready = free_ready g part marks a c old xs e.element l (within e.element it.element) it.element zero_count (λ there. omega (arith, some_listed xs e.element there)) in
    record {
      element = within e.element it.element;
      inside = it.element;
      entries = rest;
      new_there = new_there;
      next = record {
        ready = ready;
        least = λ v y.
            let free = ready_free g part marks a c old xs v l (within v y.element) y in
            let there : entries_of old v ≡ 1 = omega (arith, l.once v y.element, none_listed xs v y.new, one_same (slice_index c v) 0 free) in
            elim (cases_eq e.element v) [
              | inl same ↦ subst (KeyAtMost g e.element) same (at_most_itself g e.element)
              | inr other ↦ least_of g part e new v it t.least rest (omega (arith, less v, one_other e.element v other))
            ];
      };
      less = less;
    }

-- what is awaited later was awaited before
was_awaited : (g : Graph) (a a' : List Bool) (x i : ℕ) → HasHeard g.wires a a' x 0 → i < length g.wires → is_awaited a' i ≡ true → (from_at g.wires i ≡ x → ⊥) × (is_awaited a i ≡ true)
was_awaited g a a' x i h hi on = elim (cases_eq (from_at g.wires i) x) [
  | inl is ↦ absurd (let f : true ≡ false = sym on ∙ h.heard i hi (omega arith) is in cc)
  | inr other ↦ (other, sym (h.others i hi other) ∙ on)
]

pub listing_more : (g : Graph) (part : List ℕ) (marks a a' : List Bool) (c c' : List ℕ) (old new r : List Entry) (xs : List ℕ) (e : Entry) → IsGraph g → IsNetwork g part → IsListing g part marks a c old xs → Taken g part xs old e new → IsWholeCount g a' c' → HasHeard g.wires a a' e.element 0 → ((w : ℕ) → w < elements g → entries_of r w + one (slice_index c w) 0 ≡ entries_of new w + one (slice_index c' w) 0) → All (IsEntry g part) r → IsListing g part marks a' c' r (xs ++ e.element ∷ [])
listing_more g part marks a a' c c' old new r xs e is network l t counted h balance entries =
    let ws = g.wires in
    record {
      waiting = record { counted = counted; most = λ i hi on. l.waiting.most i hi (was_awaited g a a' e.element i h hi on).1 };
      into = λ i hi to on. l.into i hi to (was_awaited g a a' e.element i h hi on).1;
      out_of = λ i hi from on. l.out_of i hi from (was_awaited g a a' e.element i h hi on).1;
      unheard = λ i hi on.
          let was = was_awaited g a a' e.element i h hi on in
          let old = l.unheard i hi was.1 in
          (old.0, λ there. elim (was_listed xs e.element (from_at ws i) there) [ inl at ↦ was.0 at | inr before ↦ old.1 before ]);
      heard = λ i hi in_from in_to off. elim (cases_eq (from_at ws i) e.element) [
        | inl at ↦ inr (last_listed xs e.element (from_at ws i) at)
        | inr other ↦ elim (l.heard i hi in_from in_to (sym (h.others i hi other) ∙ off)) [ inl f ↦ inl f | inr there ↦ inr (stays_listed xs e.element (from_at ws i) there) ]
      ];
      once = λ v hv. omega (arith, balance v (inside g part is network v hv), l.once v hv, t.less v, places-push xs e.element v);
      entries = entries;
      so_far = λ rest o. subst (IsOrderFrom g part []) (sym (append_assoc xs (e.element ∷ []) rest)) (l.so_far (e.element ∷ rest) (t.next, o));
    }

pub leaves_others : (g : Graph) (part : List ℕ) (a a' : List Bool) (x : ℕ) → Listed part x → HasHeard g.wires a a' x 0 → LeavesOthers g part a a'
leaves_others g part a a' x there h = record { all = λ i hi out. h.others i hi (λ is. out (subst (Listed part) (sym is) there)) }

pub leaves_then : (g : Graph) (part : List ℕ) (a b c : List Bool) → LeavesOthers g part a b → LeavesOthers g part b c → LeavesOthers g part a c
leaves_then g part a b c h k = record { all = λ i hi out. k.all i hi out ∙ h.all i hi out }

pub fewer_unlisted : (n : ℕ) (xs : List ℕ) (x : ℕ) → x < n → places_of xs x ≡ 0 → unlisted n (xs ++ x ∷ []) < unlisted n xs
fewer_unlisted n xs x h none =
    let e = less_count n (λ v. nat_eq (places_of xs v) 0) (λ v. nat_eq (places_of (xs ++ x ∷ []) v) 0) x h
    (eq_true (places_of xs x) 0 none)
    (eq_false (places_of (xs ++ x ∷ []) x) 0 (λ z. omega (arith, places-push xs x x, one_same x x refl)))
    (λ v hv other. ap (λ k. nat_eq k 0) (omega (arith, places-push xs x v, one_other x v (λ is. other (sym is))))) in
    omega (arith, e)

-- THE START AND THE END

and_parts3 : (a b c : Bool) → (a && b && c) ≡ true → (a ≡ true) × (b ≡ true) × (c ≡ true)
and_parts3 true true true e = (refl, refl, refl)
and_parts3 true true false e = absurd (let f : false ≡ true = e in cc)
and_parts3 true false c e = absurd (let f : false ≡ true = e in cc)
and_parts3 false b c e = absurd (let f : false ≡ true = e in cc)

not_on : (a : Bool) → not a ≡ true → a ≡ false
not_on true e = absurd (let g : false ≡ true = e in cc)
not_on false e = refl

off_is : (a b c : Bool) → (not a && b && c) ≡ false → b ≡ true → c ≡ true → a ≡ true
off_is true b c e f g = refl
off_is false true true e f g = absurd (let h : true ≡ false = e in cc)
off_is false true false e f g = absurd (let h : false ≡ true = g in cc)
off_is false false c e f g = absurd (let h : false ≡ true = f in cc)

-- nothing is listed yet
pub waiting_start : (g : Graph) (marks a : List Bool) (c : List ℕ) → AreAwaited g marks (length g.wires) a → IsWholeCount g a c → IsWaiting g marks a c
waiting_start g marks a c aw counted = record {
  counted = counted;
  most = λ i h on.
      let parts = and_parts3 (not (is_awaited marks i)) (takes_part g (from_at g.wires i)) (takes_part g (to_at g.wires i)) (sym (aw.each i h) ∙ on) in
      (not_on (is_awaited marks i) parts.0, parts.1, parts.2);
}

pub untouched_start : (g : Graph) (marks a : List Bool) (network : List ℕ) → IsNetwork g network → ((v : ℕ) → Listed network v → TakesPart g v) → AreAwaited g marks (length g.wires) a → IsUntouched g marks a network
untouched_start g marks a network m part aw = record {
  all = λ i h from to off. off_is (is_awaited marks i) (takes_part g (from_at g.wires i)) (takes_part g (to_at g.wires i)) (sym (aw.each i h) ∙ off) (part (from_at g.wires i) from) (part (to_at g.wires i) to);
}

wire_link : (g : Graph) (i : ℕ) → i < length g.wires → TakesPart g (from_at g.wires i) → TakesPart g (to_at g.wires i) → IsLink g (from_at g.wires i) (to_at g.wires i)
wire_link g i h from to = record { first = from; second = to; wired = inl (record { place = i; below = h; out_of = refl; into = refl }) }

wire_link_back : (g : Graph) (i : ℕ) → i < length g.wires → TakesPart g (from_at g.wires i) → TakesPart g (to_at g.wires i) → IsLink g (to_at g.wires i) (from_at g.wires i)
wire_link_back g i h from to = record { first = to; second = from; wired = inr (record { place = i; below = h; out_of = refl; into = refl }) }

pub listing_start : (g : Graph) (part : List ℕ) (marks a : List Bool) (c : List ℕ) (r : List Entry) → IsNetwork g part → AreMarks g marks → IsWaiting g marks a c → IsUntouched g marks a part → ((v : ℕ) → Listed part v → entries_of r v ≡ one (slice_index c v) 0) → All (IsEntry g part) r → IsListing g part marks a c r []
listing_start g part marks a c r network m w u once entries =
    let ws = g.wires in
    record {
      waiting = w;
      into = λ i h to on. closed g part (to_at ws i) (from_at ws i) network to (step (IsLink g) (to_at ws i) (from_at ws i) (wire_link_back g i h (w.most i h on).1 (w.most i h on).2));
      out_of = λ i h from on. closed g part (from_at ws i) (to_at ws i) network from (step (IsLink g) (from_at ws i) (to_at ws i) (wire_link g i h (w.most i h on).1 (w.most i h on).2));
      unheard = λ i h on. ((λ f. let e : true ≡ false = sym ((m.each i h).1 f) ∙ (w.most i h on).0 in cc), λ there. there);
      heard = λ i h from to off. inl ((m.each i h).0 (u.all i h from to off));
      once = λ v h. omega (arith, once v h);
      entries = entries;
      so_far = λ rest o. o;
    }

pub listing_end : (g : Graph) (part : List ℕ) (marks a : List Bool) (c : List ℕ) (r : List Entry) (xs : List ℕ) → IsGraph g → IsNetwork g part → IsListing g part marks a c r xs → r ≡ [] → IsOrder g part xs
listing_end g part marks a c r xs is network l e = elim (next_or_all g part xs is (inside g part is network)) [
  | inl all ↦ subst (IsOrderFrom g part []) (append-nil xs) (l.so_far [] all)
  | inr found ↦
      let y = found.1.ready in
      absurd (omega (arith, l.once found.0 y.element, none_listed xs found.0 y.new, one_same (slice_index c found.0) 0 (ready_free g part marks a c r xs found.0 l (inside g part is network found.0 y.element) y), ap (λ z. entries_of z found.0) e))
]
