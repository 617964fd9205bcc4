-- Standard blocks: a call over the numbers of leaves is one over their paths.
use Rattle.std.proofs.Common.{◌≡◌, ℕ, zero, suc, ◌+◌, ◌-◌, ◌<◌, ◌≤◌, pos, true, List, [], ◌∷◌, length, set, map, drop, Some, refl, sym, ap, ◌∙◌, subst, arith}
use Rattle.std.specs.Prelude.{slice_get, slice_range, if◌then◌else◌}
use Rattle.std.specs.Str.{bytes_eq}
use Rattle.std.proofs.lemmas.List.{get_or-take, get_or-drop, length-take, length-drop}
use Rattle.std.proofs.lemmas.Option.{slice_get_within, get_or_from_slice_get, same_Some}
use Rattle.plcx_types.specs.Name.{in_lower_case}
use Rattle.plcx_types.specs.Lists.{Each}
use Rattle.plcx_types.specs.Value.{Value}
use Rattle.plcx_std.specs.declared.kind.StdKind.{StdKind}
use Rattle.plcx_std.specs.declared.kind.StdKind.TheVariants as kind
use Rattle.plcx_std.specs.declared.state.StdState.{StdState}
use Rattle.plcx_std.specs.Pins.{Pin, pins}
use Rattle.plcx_std.specs.State.{values, stepped}
use Rattle.plcx_meaning.specs.Base.{Path, are_distinct}
use Rattle.plcx_meaning.specs.Standard.{Leaves, state_of, put_values, called as called_at}
use Rattle.plcx_meaning.specs.Evaluate.{Heard, DiagramState, set_leaf}
use Rattle.plcx_meaning.proofs.Lists.{distinct_parts, none_passes, contains_map}
use Rattle.plcx_meaning.proofs.Names.{bytes_self}
use Rattle.plcx_steps.specs.Numbered.{Numbered, no_value, number_at, pin_value, called, set_from, standard_at}
use Rattle.plcx_steps.proofs.Standards.{kind_state, kind_stepped, values_length}
use Rattle.plcx_numbered.specs.Agreeing.{Shape, IsApart, Agree}
use Rattle.plcx_numbered.proofs.Holding.{agree_set}

-- ---- states by the values of names

each_by_place : {A : Type 0} (P : A → Type 0) (xs : List A) → ((i : ℕ) (x : A) → slice_get xs i ≡ Some x → P x) → Each P xs
each_by_place P [] h = tt
each_by_place P (x ∷ xs) h = (h 0 x refl, each_by_place P xs (λ i y there. h (suc i) y there))

abbrev SameAt : Leaves → Leaves → Pin → Type 0
SameAt f g p = f (in_lower_case p.name) ≡ g (in_lower_case p.name)

state_same : (k : StdKind) (f g : Leaves) → Each (SameAt f g) (pins k) → state_of k f ≡ state_of k g
state_same kind.Ton f g h = rw (h.0, h.1.0, h.1.1.0, h.1.1.1.0, h.1.1.1.1.0, h.1.1.1.1.1.0)
state_same kind.Tof f g h = rw (h.0, h.1.0, h.1.1.0, h.1.1.1.0, h.1.1.1.1.0, h.1.1.1.1.1.0, h.1.1.1.1.1.1.0)
state_same kind.Tp f g h = rw (h.0, h.1.0, h.1.1.0, h.1.1.1.0, h.1.1.1.1.0, h.1.1.1.1.1.0, h.1.1.1.1.1.1.0)
state_same kind.Ctu f g h = rw (h.0, h.1.0, h.1.1.0, h.1.1.1.0, h.1.1.1.1.0, h.1.1.1.1.1.0)
state_same kind.Ctd f g h = rw (h.0, h.1.0, h.1.1.0, h.1.1.1.0, h.1.1.1.1.0, h.1.1.1.1.1.0)
state_same kind.Ctud f g h = rw (h.0, h.1.0, h.1.1.0, h.1.1.1.0, h.1.1.1.1.0, h.1.1.1.1.1.0, h.1.1.1.1.1.1.0, h.1.1.1.1.1.1.1.0, h.1.1.1.1.1.1.1.1.0, h.1.1.1.1.1.1.1.1.1.0)
state_same kind.Sr f g h = rw (h.0, h.1.0, h.1.1.0)
state_same kind.Rs f g h = rw (h.0, h.1.0, h.1.1.0)
state_same kind.RTrig f g h = rw (h.0, h.1.0, h.1.1.0)
state_same kind.FTrig f g h = rw (h.0, h.1.0, h.1.1.0)

-- the pins of a block have names of their own
abbrev names : List Pin → List (List ℕ)
names ps = map (λ (p : Pin). in_lower_case p.name) ps

names_distinct : (k : StdKind) → are_distinct (names (pins k)) ≡ true
names_distinct kind.Ton = refl
names_distinct kind.Tof = refl
names_distinct kind.Tp = refl
names_distinct kind.Ctu = refl
names_distinct kind.Ctd = refl
names_distinct kind.Ctud = refl
names_distinct kind.Sr = refl
names_distinct kind.Rs = refl
names_distinct kind.RTrig = refl
names_distinct kind.FTrig = refl

-- the value of a pin is the one at its place
pin_value_at : (ps : List Pin) (vs : List Value) → are_distinct (names ps) ≡ true → (i : ℕ) (p : Pin) → slice_get ps i ≡ Some p → i < length vs → pin_value ps vs (in_lower_case p.name) ≡ number_at vs i
pin_value_at [] vs apart i p there low = absurd (cc)
pin_value_at (q ∷ ps) [] apart i p there low = absurd (omega arith)
pin_value_at (q ∷ ps) (v ∷ vs) apart zero p there low =
    let e = same_Some q p there in
    ap (λ (r : Pin). if bytes_eq (in_lower_case q.name) (in_lower_case r.name) then v.n else pin_value ps vs (in_lower_case r.name)) (sym e)
    ∙ ap (λ b. if b then v.n else pin_value ps vs (in_lower_case q.name)) (bytes_self (in_lower_case q.name))
pin_value_at (q ∷ ps) (v ∷ vs) apart (suc i) p there low =
    let parts = distinct_parts (in_lower_case q.name) (names ps) apart in
    let within = slice_get_within ps i p there in
    let other = none_passes (bytes_eq (in_lower_case q.name)) (names ps) (in_lower_case p.name) parts.0 (contains_map (λ (r : Pin). in_lower_case r.name) ps p (i, within, get_or_from_slice_get ps i p p there)) in
    ap (λ b. if b then v.n else pin_value ps vs (in_lower_case p.name)) other ∙ pin_value_at ps vs parts.1 i p there (omega arith)

range_more : (xs : List Value) (first count i : ℕ) → i < count → first + i < length xs → i < length (slice_range xs first (first + count))
range_more xs first count i low there = simp (length-take, length-drop) (omega arith)

module _ {M : Type 0} (whole : Shape) (apart : IsApart whole) (tell : M → Heard → M) (begun : M) where
  -- values are put at the leaves of an instance, from the first on
  put_agree : (p : Path) (ps : List Pin) (vs : List Value) (leaf : ℕ) → length vs ≤ length ps → ((i : ℕ) (q : Pin) → slice_get ps i ≡ Some q → slice_get whole.paths (leaf + i) ≡ Some (in_lower_case q.name ∷ p)) → (d : DiagramState) (n : Numbered M)
      → Agree whole tell begun d n → Agree whole tell begun (record d { store = put_values ps vs p d.store }) (record n { values = set_from n.values leaf vs })
  put_agree p [] [] leaf few there d n a = a
  put_agree p [] (v ∷ vs) leaf few there d n a = absurd (omega arith)
  put_agree p (q ∷ ps) [] leaf few there d n a = a
  put_agree p (q ∷ ps) (v ∷ vs) leaf few there d n a =
      put_agree p ps vs (leaf + 1) (omega arith) (λ i r at. ap (slice_get whole.paths) (let e : leaf + 1 + i ≡ leaf + suc i = omega arith in e) ∙ there (suc i) r at)
      (set_leaf d (in_lower_case q.name ∷ p) v.n) (record n { values = set n.values leaf v })
      (agree_set whole apart tell begun d n (in_lower_case q.name ∷ p) leaf v.n v (ap (slice_get whole.paths) (let e : leaf ≡ leaf + 0 = omega arith in e) ∙ there 0 q refl) refl a)

  range_number : (xs : List Value) (first count i : ℕ) → i < count → number_at (slice_range xs first (first + count)) i ≡ number_at xs (first + i)
  range_number xs first count i low = ap (λ (v : Value). v.n) (get_or-take (first + count - first) (drop first xs) i no_value (omega arith) ∙ get_or-drop first xs i no_value)

  -- the leaves of an instance, by their names and by their numbers
  leaves_same : (k : StdKind) (p : Path) (leaf : ℕ) → ((i : ℕ) (q : Pin) → slice_get (pins k) i ≡ Some q → slice_get whole.paths (leaf + i) ≡ Some (in_lower_case q.name ∷ p)) → (d : DiagramState) (n : Numbered M) → Agree whole tell begun d n
      → Each (SameAt (λ x. d.store (x ∷ p)) (pin_value (pins k) (slice_range n.values leaf (leaf + length (pins k))))) (pins k)
  leaves_same k p leaf there d n a = each_by_place _ (pins k) (λ i q at.
      let low = slice_get_within (pins k) i q at in
      a.store.each (leaf + i) (in_lower_case q.name ∷ p) (there i q at)
      ∙ sym (range_number n.values leaf (length (pins k)) i low)
      ∙ sym (pin_value_at (pins k) (slice_range n.values leaf (leaf + length (pins k))) (names_distinct k) i q at
      (range_more n.values leaf (length (pins k)) i low (let l = slice_get_within whole.paths (leaf + i) _ (there i q at) in let long = a.store.long in omega arith))))

  pub standard_agree : (k : StdKind) (time : ℕ) (p : Path) (leaf : ℕ) → ((i : ℕ) (q : Pin) → slice_get (pins k) i ≡ Some q → slice_get whole.paths (leaf + i) ≡ Some (in_lower_case q.name ∷ p)) → (d : DiagramState) (n : Numbered M) → Agree whole tell begun d n
      → Agree whole tell begun (record d { store = called_at k time p d.store }) (record n { values = standard_at k (pos time) leaf n.values })
  standard_agree k time p leaf there d n a =
      let vs = called k (pos time) (slice_range n.values leaf (leaf + length (pins k))) in
      let same : values (stepped (state_of k (λ x. d.store (x ∷ p))) (pos time)) ≡ vs = ap (λ s. values (stepped s (pos time))) (state_same k _ _ (leaves_same k p leaf there d n a)) in
      subst (λ ws. Agree whole tell begun (record d { store = put_values (pins k) ws p d.store }) (record n { values = standard_at k (pos time) leaf n.values })) (sym same)
      (put_agree p (pins k) vs leaf (few vs refl) there d n a)
    where
      after : StdState
      after = stepped (state_of k (pin_value (pins k) (slice_range n.values leaf (leaf + length (pins k))))) (pos time)

      few : (vs : List Value) → vs ≡ values after → length vs ≤ length (pins k)
      few vs e =
          let kind = kind_stepped (state_of k (pin_value (pins k) (slice_range n.values leaf (leaf + length (pins k))))) (pos time) ∙ kind_state k (pin_value (pins k) (slice_range n.values leaf (leaf + length (pins k)))) in
          let count = ap length e ∙ values_length k after kind in
          omega arith
