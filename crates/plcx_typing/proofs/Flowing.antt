-- What flows among groups is what the closure says.
use Rattle.std.proofs.Common.{◌≡◌, ℕ, ◌<◌, ◌⊎◌, ◌++◌, inl, inr, Bool, List, [], ◌∷◌, length, set, refl, sym, ◌∙◌, ap, subst, arith, length-set, get_or-set_same, get_or-set_other}
use Rattle.std.specs.Bool.{Decides}
use Rattle.std.specs.List.{Contains}
use Rattle.std.proofs.lemmas.Bool.{cases_lt, cases_eq}
use Rattle.std.proofs.Math.ListN.{get_or-eq_default}
use Rattle.std.proofs.lemmas.List.Elements.{Contains-push, Contains-append_left, Contains-push_cases}
use Rattle.plcx_types.specs.declared.ty.Ty.{Ty}
use Rattle.plcx_model.specs.declared.source.Source.{Source}
use Rattle.plcx_rules.specs.declared.form.Gives.{Gives}
use Rattle.plcx_rules.specs.declared.form.Gives.TheVariants.{Typed, Grouped, Untyped, Nothing}
use Rattle.plcx_rules.specs.declared.form.Form.{Form}
use Rattle.plcx_rules.specs.Types.{Sheet, no_form, no_pin, form_at, pin_at, sources_at, output_among, gives_at, IsPinOf, Point, AtPin, AtGroup, AtOutput, HasType, DeclaredPin, DeclaredOutput, GroupOfSource, PinOfGroup, OutputOfGroup, LoneOfSource, LoneOfLiteral}
use Rattle.plcx_typing.specs.declared.flow.Fact.{Fact}
use Rattle.plcx_typing.specs.Closure.{fact, next_of, Comes, Seed, Step}
use Rattle.plcx_typing.specs.Flows.{ArePlaced, IsFlowOf, Feeds, FeedsAt, IsGroupPin, Grows}

-- what gives the types of a group is an element
pub given_within : (s : Sheet) (o : Source) → gives_at s o ≡ Grouped → o.element < length s.forms
given_within s o is = elim (cases_lt o.element (length s.forms)) [
  | inl low ↦ low
  | inr high ↦
      let none : form_at s o.element ≡ no_form = get_or-eq_default s.forms no_form high in
      let gives : gives_at s o ≡ Nothing = ap (λ (f : Form). (output_among f.outputs o.pin).gives) none in
      let clash : Grouped ≡ Nothing = sym is ∙ gives in absurd (cc)
]

pub same_grows : (seeds : List Fact) (next : List (List ℕ)) → Grows seeds next seeds next
same_grows seeds next = record { seeded = λ f h. h; passed = λ u v h. h }

pub grows_on : (a b c : List Fact) (x y z : List (List ℕ)) → Grows a x b y → Grows b y c z → Grows a x c z
grows_on a b c x y z g h = record { seeded = λ f there. h.seeded f (g.seeded f there); passed = λ u v there. h.passed u v (g.passed u v there) }

-- what is fed stays fed
pub feeds_on : (seeds seeds' : List Fact) (next next' : List (List ℕ)) (e : ℕ) (o : Source) (gives : Gives) → Grows seeds next seeds' next' → Feeds seeds next e o gives → Feeds seeds' next' e o gives
feeds_on seeds seeds' next next' e o (Typed t) g h = g.seeded (fact e t) h
feeds_on seeds seeds' next next' e o Grouped g h = g.passed o.element e h
feeds_on seeds seeds' next next' e o (Untyped n) g h = tt
feeds_on seeds seeds' next next' e o Nothing g h = tt

module _ (s : Sheet) (i : ℕ) (o : Source) (placed : ArePlaced (length s.forms) s.pins) (low : i < length s.pins) (group : IsGroupPin s i) (there : Contains (sources_at s i) o) where
  abbrev owner : ℕ
  owner = (pin_at s i).element

  own : IsPinOf s owner i
  own = record { count = low; owner = refl }

  owner_within : owner < length s.forms
  owner_within = placed i no_pin low

  pub seeded_more : (seeds : List Fact) (next : List (List ℕ)) (t : Ty) → gives_at s o ≡ Typed t → IsFlowOf s seeds next → IsFlowOf s (seeds ++ fact owner t ∷ []) next
  seeded_more seeds next t gives f = record {
    within = record {
      seeded = λ x h. elim (Contains-push_cases seeds (fact owner t) x h) [
        | inl old ↦ f.within.seeded x old
        | inr is ↦ subst (λ (y : Fact). y.element < length s.forms) is owner_within
      ];
      count = f.within.count;
      within = f.within.within;
    };
    seeded = λ e u h. elim (Contains-push_cases seeds (fact owner t) (fact e u) h) [
      | inl old ↦ f.seeded e u old
      | inr is ↦ subst (λ (y : Fact). HasType s (AtGroup y.element) y.ty) is (GroupOfSource own group there (DeclaredOutput gives))
    ];
    passed = f.passed;
  }

  abbrev more_next : List (List ℕ) → List (List ℕ)
  more_next next = set next o.element (next_of next o.element ++ owner ∷ [])

  -- a list with one more at an element
  next_cases : (next : List (List ℕ)) (u v : ℕ) → Contains (next_of (more_next next) u) v → o.element < length next → Contains (next_of next u) v ⊎ ((u ≡ o.element) × (v ≡ owner))
  next_cases next u v h within = elim (cases_eq u o.element) [
    | inl same ↦
        let at : next_of (more_next next) u ≡ next_of next o.element ++ owner ∷ [] = ap (next_of (more_next next)) same ∙ get_or-set_same next o.element (next_of next o.element ++ owner ∷ []) [] within in
        elim (Contains-push_cases (next_of next o.element) owner v (subst (λ xs. Contains xs v) at h)) [
          | inl old ↦ inl (subst (λ x. Contains (next_of next x) v) (sym same) old)
          | inr is ↦ inr (same, sym is)
        ]
    | inr other ↦ inl (subst (λ xs. Contains xs v) (get_or-set_other next o.element u (next_of next o.element ++ owner ∷ []) [] other) h)
  ]

  next_grows : (next : List (List ℕ)) (u v : ℕ) → o.element < length next → Contains (next_of next u) v → Contains (next_of (more_next next) u) v
  next_grows next u v within h = elim (cases_eq u o.element) [
    | inl same ↦
        let at : next_of (more_next next) u ≡ next_of next o.element ++ owner ∷ [] = ap (next_of (more_next next)) same ∙ get_or-set_same next o.element (next_of next o.element ++ owner ∷ []) [] within in
        subst (λ xs. Contains xs v) (sym at) (Contains-append_left (next_of next o.element) (owner ∷ []) v (subst (λ x. Contains (next_of next x) v) same h))
    | inr other ↦ subst (λ xs. Contains xs v) (sym (get_or-set_other next o.element u (next_of next o.element ++ owner ∷ []) [] other)) h
  ]

  pub passed_more : (seeds : List Fact) (next : List (List ℕ)) → gives_at s o ≡ Grouped → IsFlowOf s seeds next → IsFlowOf s seeds (more_next next)
  passed_more seeds next gives f =
      let within : o.element < length next = omega (arith, given_within s o gives, f.within.count) in
      record {
        within = record {
          seeded = f.within.seeded;
          count = length-set next o.element (next_of next o.element ++ owner ∷ []) ∙ f.within.count;
          within = λ u v h. elim (next_cases next u v h within) [
            | inl old ↦ f.within.within u v old
            | inr both ↦ subst (λ x. x < length s.forms) (sym both.1) owner_within
          ];
        };
        seeded = f.seeded;
        passed = λ u v t h has. elim (next_cases next u v h within) [
          | inl old ↦ f.passed u v t old has
          | inr both ↦ subst (λ x. HasType s (AtGroup x) t) (sym both.1) (GroupOfSource own group there (OutputOfGroup (sym both.0) gives has))
        ];
      }

  pub passed_grows : (seeds : List Fact) (next : List (List ℕ)) → gives_at s o ≡ Grouped → IsFlowOf s seeds next → Grows seeds next seeds (more_next next)
  passed_grows seeds next gives f = let within : o.element < length next = omega (arith, given_within s o gives, f.within.count) in record { seeded = λ x h. h; passed = λ u v h. next_grows next u v within h }

  pub passed_fed : (seeds : List Fact) (next : List (List ℕ)) → gives_at s o ≡ Grouped → IsFlowOf s seeds next → Feeds seeds (more_next next) owner o (gives_at s o)
  passed_fed seeds next gives f =
      let within : o.element < length next = omega (arith, given_within s o gives, f.within.count) in
      let at : next_of (more_next next) o.element ≡ next_of next o.element ++ owner ∷ [] = get_or-set_same next o.element (next_of next o.element ++ owner ∷ []) [] within in
      subst (Feeds seeds (more_next next) owner o) (sym gives) (subst (λ xs. Contains xs owner) (sym at) (Contains-push (next_of next o.element) owner))

-- THE WHOLE

module _ (s : Sheet) (seeds : List Fact) (next : List (List ℕ)) (flow : IsFlowOf s seeds next) where
  pub comes_has : (e : ℕ) (t : Ty) → Comes seeds next e t → HasType s (AtGroup e) t
  comes_has e t (Seed there) = flow.seeded e t there
  comes_has e t (Step {u} before there) = flow.passed u e t there (comes_has u t before)

  -- what the closure says of a point, in terms of what comes
  abbrev Says : Point → Ty → Type 0
  Says (AtPin i) t = Unit {0}
  Says (AtGroup e) t = Comes seeds next e t
  Says (AtOutput o) t = (gives_at s o ≡ Typed t) ⊎ ((gives_at s o ≡ Grouped) × Comes seeds next o.element t)

  fed_comes : (e : ℕ) (o : Source) (t : Ty) (gives : Gives) → Feeds seeds next e o gives → (gives ≡ Typed t) ⊎ ((gives ≡ Grouped) × Comes seeds next o.element t) → Comes seeds next e t
  fed_comes e o t gives fed (inl typed) = let at : Feeds seeds next e o (Typed t) = subst (Feeds seeds next e o) typed fed in Seed at
  fed_comes e o t gives fed (inr grouped) = let at : Feeds seeds next e o Grouped = subst (Feeds seeds next e o) grouped.0 fed in Step grouped.1 at

  says : ((i : ℕ) → i < length s.pins → IsGroupPin s i → FeedsAt s seeds next i) → (p : Point) (t : Ty) → HasType s p t → Says p t
  says fed p t (DeclaredPin low is) = tt
  says fed p t (DeclaredOutput is) = inl is
  says fed p t (GroupOfSource {e} {i} {o} pin group there has) = subst (λ x. Comes seeds next x t) pin.owner (fed_comes (pin_at s i).element o t (gives_at s o) (fed i pin.count group o there) (says fed (AtOutput o) t has))
  says fed p t (PinOfGroup pin group has) = tt
  says fed p t (OutputOfGroup {e} {o} is gives has) = inr (gives, subst (λ x. Comes seeds next x t) (sym is) (says fed (AtGroup e) t has))
  says fed p t (LoneOfSource low lone there has) = tt
  says fed p t (LoneOfLiteral low lone there untyped) = tt

  pub comes_decides : ((i : ℕ) → i < length s.pins → IsGroupPin s i → FeedsAt s seeds next i) → (e : ℕ) (t : Ty) (b : Bool) → Decides b (Comes seeds next e t) → Decides b (HasType s (AtGroup e) t)
  comes_decides fed e t b d = ((λ on. comes_has e t (d.0 on)), (λ has. d.1 (says fed (AtGroup e) t has)))
