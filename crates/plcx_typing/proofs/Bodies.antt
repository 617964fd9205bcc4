-- What is found of each body, put together.
use Rattle.std.proofs.Common.{◌≡◌, ◌≢◌, ℕ, zero, suc, ◌+◌, ◌<◌, ◌⊎◌, ◌*◌, ◌++◌, inl, inr, Bool, true, false, List, [], ◌∷◌, if◌then◌else◌, Some, None, length, get_or, slice_get, map, refl, sym, ◌∙◌, ap, subst, arith}
use Rattle.std.specs.Bool.{Decides}
use Rattle.std.specs.List.{list_any}
use Rattle.std.proofs.Math.ListN.{get_or-eq_default}
use Rattle.std.proofs.lemmas.Bool.{cases_lt}
use Rattle.std.proofs.lemmas.List.{get_or_push, get_or_append_left, length-map}
use Rattle.plcx_types.specs.declared.ty.Ty.{Ty}
use Rattle.plcx_types.specs.declared.ty.Ty.TheVariants as ty
use Rattle.plcx_types.specs.TypeName.{all_types}
use Rattle.plcx_model.specs.declared.body.BodyElement.{BodyElement}
use Rattle.plcx_model.specs.declared.plan.Types.{Types}
use Rattle.plcx_model.specs.declared.project.Pou.{Pou}
use Rattle.plcx_model.specs.declared.source.Source.{Source}
use Rattle.plcx_rules.specs.declared.form.Gives.{Gives}
use Rattle.plcx_rules.specs.declared.form.Gives.TheVariants.{Typed, Grouped, Untyped, Nothing}
use Rattle.plcx_rules.specs.declared.form.Grouping.TheVariants.{Apart}
use Rattle.plcx_rules.specs.declared.form.WireForm.{WireForm}
use Rattle.plcx_rules.specs.declared.form.TypeRule.{TypeRule}
use Rattle.plcx_rules.specs.declared.form.TypeRule.TheVariants.{NoType, Disagreement, Range}
use Rattle.plcx_rules.specs.declared.form.Form.{Form}
use Rattle.plcx_rules.specs.Types.{Sheet, no_form, no_pin, form_at, pin_at, sources_at, AtPin, AtGroup, HasType, WireHas}
use Rattle.plcx_rules.specs.Forms.{wire, form_of, pins_from, wires_from, sheet_at}
use Rattle.plcx_rules.specs.Typed.{wire_at, AreTypes, HaveTypes}
use Rattle.plcx_rules.specs.TypingRules.{HasNoType, Disagrees, BreaksIn}
use Rattle.plcx_typing.specs.declared.body.Judged.{Judged}
use Rattle.plcx_typing.specs.declared.flow.Fact.{Fact}
use Rattle.plcx_typing.specs.Closure.{is_marked, Comes}
use Rattle.plcx_typing.specs.Sheets.{sheet}
use Rattle.plcx_typing.specs.Flows.{ArePlaced, IsFlowOf, IsGroupPin, FeedsAt}
use Rattle.plcx_typing.specs.Tests.{AreMarks, gives_has, pin_has}
use Rattle.plcx_typing.specs.Faults.{flag}
use Rattle.plcx_typing.specs.Judgings.{first_type, flags_of, IsJudged, judged_at, no_judged, AreJudged, NoSpot}
use Rattle.plcx_typing.proofs.Deciding.{same_decides, any_type, type_listed, pin_decides, group_inverse}
use Rattle.plcx_typing.proofs.Flowing.{comes_decides}
use Rattle.plcx_typing.proofs.OneType.{one_pin, one_wire}
use Rattle.plcx_typing.proofs.Single.{placed, one_pin_each}

-- the marks are those of all points
pub marks_are : (s : Sheet) (seeds : List Fact) (next : List (List ℕ)) (marks : List Bool) → IsFlowOf s seeds next → ((i : ℕ) → i < length s.pins → IsGroupPin s i → FeedsAt s seeds next i) → ArePlaced (length s.forms) s.pins
    → length marks ≡ 14 * length s.forms → ((e : ℕ) (t : Ty) → e < length s.forms → Decides (is_marked marks e t) (Comes seeds next e t)) → AreMarks s marks
marks_are s seeds next marks flow fed placed count decides e t = elim (cases_lt e (length s.forms)) [
  | inl low ↦ comes_decides s seeds next flow fed e t (is_marked marks e t) (decides e t low)
  | inr high ↦
      let off : is_marked marks e t ≡ false = get_or-eq_default marks false (omega (arith, count)) in (
        (λ on. let f : false ≡ true = sym off ∙ on in absurd (cc)),
        (λ has. let why = group_inverse s e t has in let low = placed why.0 no_pin why.2.count in absurd (omega (arith, low, why.2.owner))),
      )
]

first_in : (p : Ty → Bool) (ts : List Ty) (k : ℕ) (t : Ty) → k < length ts → get_or ts k t ≡ t → p t ≡ true → p (first_type p ts) ≡ true
first_in p [] k t low at on = absurd (omega arith)
first_in p (u ∷ ts) k t low at on = by (p u) refl k low at (λ j l e. first_in p ts j t l e on)
  where
    by : (b : Bool) → p u ≡ b → (k : ℕ) → k < length (u ∷ ts) → get_or (u ∷ ts) k t ≡ t → ((j : ℕ) → j < length ts → get_or ts j t ≡ t → p (first_type p ts) ≡ true) → p (if b then u else first_type p ts) ≡ true
    by true is k low at rest = is
    by false is zero low at rest = let f : false ≡ true = sym is ∙ (ap p at ∙ on) in absurd (cc)
    by false is (suc k) low at rest = rest k (omega arith) at

pub first_has : (p : Ty → Bool) (t : Ty) → p t ≡ true → p (first_type p all_types) ≡ true
first_has p t on = let there = type_listed t in first_in p all_types there.0 t there.1 there.2 on

-- it passes, or is BOOL
first_or : (p : Ty → Bool) (ts : List Ty) → (p (first_type p ts) ≡ true) ⊎ (first_type p ts ≡ ty.Bool)
first_or p [] = inr refl
first_or p (t ∷ ts) = by (p t) refl (first_or p ts)
  where
    by : (b : Bool) → p t ≡ b → (p (first_type p ts) ≡ true) ⊎ (first_type p ts ≡ ty.Bool) → (p (if b then t else first_type p ts) ≡ true) ⊎ ((if b then t else first_type p ts) ≡ ty.Bool)
    by true is rest = inl is
    by false is rest = rest

map_at : {A C : Type 0} (f : A → C) (xs : List A) (k : ℕ) (d : A) (c : C) → k < length xs → get_or (map f xs) k c ≡ f (get_or xs k d)
map_at f [] k d c h = absurd (omega arith)
map_at f (x ∷ xs) zero d c h = refl
map_at f (x ∷ xs) (suc k) d c h = map_at f xs k d c (omega arith)

module _ (s : Sheet) (marks : List Bool) (are : AreMarks s marks) where
  shared_so : (e : ℕ) → (form_at s e).grouping ≢ Apart → HasNoType s e ⊎ ((t : Ty) × HasType s (AtGroup e) t)
  shared_so e shares = by (list_any (is_marked marks e) all_types) refl
    where
      by : (b : Bool) → list_any (is_marked marks e) all_types ≡ b → HasNoType s e ⊎ ((t : Ty) × HasType s (AtGroup e) t)
      by true is = inr ((any_type (is_marked marks e) (λ t. HasType s (AtGroup e) t) (are e)).0 is)
      by false is = inl (record { shares = shares; none = λ t has. let f : false ≡ true = sym is ∙ (any_type (is_marked marks e) (λ u. HasType s (AtGroup e) u) (are e)).1 (t, has) in cc })

  abbrev Comes-from : ℕ → Gives → Ty → Type 0
  Comes-from e g t = elim g [ Typed u ↦ t ≡ u | Grouped ↦ HasType s (AtGroup e) t | _ ↦ ⊥ ]

  given_so : (e : ℕ) (g : Gives) (t : Ty) → Comes-from e g t → gives_has marks e g t ≡ true
  given_so e (Typed u) t h = (same_decides u t).1 (sym h)
  given_so e Grouped t h = (are e t).1 h
  given_so e (Untyped n) t h = absurd h
  given_so e Nothing t h = absurd h

  so_given : (e : ℕ) (g : Gives) (t : Ty) → gives_has marks e g t ≡ true → Comes-from e g t
  so_given e (Typed u) t h = sym ((same_decides u t).0 h)
  so_given e Grouped t h = (are e t).0 h
  so_given e (Untyped n) t h = let f : false ≡ true = h in cc
  so_given e Nothing t h = let f : false ≡ true = h in cc

  abbrev found_by : List Bool → List Bool → List Bool → List Ty → List Ty → Judged
  found_by u d o inputs given = record { untyped = u; disagreeing = d; outside = o; inputs = inputs; wires = given }

  abbrev Marked : TypeRule → List Bool → Type 0
  Marked r flags = (length flags ≡ length s.forms) × ((x : ℕ) → x < length s.forms → Decides (flag flags x) (BreaksIn r s x))

  abbrev wire_type : WireForm → Ty
  wire_type w = first_type (gives_has marks w.element w.gives) all_types

  pub judged_so : (wires : List WireForm) (u d o : List Bool) (inputs given : List Ty) → Marked NoType u → Marked Disagreement d → Marked Range o → length inputs ≡ length s.pins
      → ((i : ℕ) → i < length s.pins → get_or inputs i ty.Bool ≡ first_type (pin_has s marks (pin_at s i) (sources_at s i)) all_types)
      → given ≡ map (λ (w : WireForm). first_type (gives_has marks w.element w.gives) all_types) wires → IsJudged s wires (record { untyped = u; disagreeing = d; outside = o; inputs = inputs; wires = given })
  judged_so wires u d o inputs given a b c count pins is = record {
    count = counts;
    faults = each;
    shared = shared_so;
    pin_count = count;
    pins = λ i t low has.
        let on = (pin_decides s marks are i t low).1 has in
        let first = first_has (pin_has s marks (pin_at s i) (sources_at s i)) t on in
        subst (HasType s (AtPin i)) (sym (pins i low)) ((pin_decides s marks are i (first_type (pin_has s marks (pin_at s i) (sources_at s i)) all_types) low).0 first);
    given_pin = λ i low. elim (first_or (pin_has s marks (pin_at s i) (sources_at s i)) all_types) [
      | inl on ↦ inl (subst (HasType s (AtPin i)) (sym (pins i low)) ((pin_decides s marks are i (first_type (pin_has s marks (pin_at s i) (sources_at s i)) all_types) low).0 on))
      | inr bool ↦ inr (pins i low ∙ bool)
    ];
    wire_count = ap length is ∙ length-map wires wire_type;
    each_wire = λ k t low has.
        let w = wire_at wires k in
        wire_has k low (first_has (gives_has marks w.element w.gives) t (given_so w.element w.gives t has));
    given_wire = λ k low.
        let w = wire_at wires k in
        elim (first_or (gives_has marks w.element w.gives) all_types) [ inl on ↦ inl (wire_has k low on) | inr bool ↦ inr (wire_is k low ∙ bool) ];
  }
    where
      wire_is : (k : ℕ) → k < length wires → get_or given k ty.Bool ≡ wire_type (wire_at wires k)
      wire_is k low = ap (λ xs. get_or xs k ty.Bool) is ∙ map_at wire_type wires k (wire 0 Nothing) ty.Bool low

      wire_has : (k : ℕ) → k < length wires → gives_has marks (wire_at wires k).element (wire_at wires k).gives (wire_type (wire_at wires k)) ≡ true → WireHas s (wire_at wires k) (get_or given k ty.Bool)
      wire_has k low on = subst (WireHas s (wire_at wires k)) (sym (wire_is k low)) (so_given (wire_at wires k).element (wire_at wires k).gives (wire_type (wire_at wires k)) on)

      counts : (r : TypeRule) → length (flags_of r (found_by u d o inputs given)) ≡ length s.forms
      counts NoType = a.0
      counts Disagreement = b.0
      counts Range = c.0

      each : (r : TypeRule) (x : ℕ) → x < length s.forms → Decides (flag (flags_of r (found_by u d o inputs given)) x) (BreaksIn r s x)
      each NoType x low = a.1 x low
      each Disagreement x low = b.1 x low
      each Range x low = c.1 x low

-- ---- all bodies

pub got_is : {A : Type 0} (xs : List A) (k : ℕ) (p d : A) → slice_get xs k ≡ Some p → get_or xs k d ≡ p
got_is [] k p d is = let f : None ≡ Some p = is in absurd (cc)
got_is (x ∷ xs) zero p d is = let f : Some x ≡ Some p = is in cc
got_is (x ∷ xs) (suc k) p d is = got_is xs k p d is

pub got_low : {A : Type 0} (xs : List A) (k : ℕ) (p : A) → slice_get xs k ≡ Some p → k < length xs
got_low [] k p is = let f : None ≡ Some p = is in absurd (cc)
got_low (x ∷ xs) zero p is = omega arith
got_low (x ∷ xs) (suc k) p is = omega (arith, got_low xs k p is)

abbrev IsFor : List Pou → List (List (List Source)) → ℕ → Pou → Judged → Type 0
IsFor pous links place p j = IsJudged (sheet_at pous links place p) (wires_from pous p 0 p.body.elements) j

abbrev IsBy : List Pou → Pou → List BodyElement → List (List Source) → Judged → Type 0
IsBy pous o elements ls j = IsJudged (sheet (map (λ (x : BodyElement). form_of pous o x.kind) elements) (pins_from pous o 0 elements) ls) (wires_from pous o 0 elements) j

pub judged_more : (pous world : List Pou) (links : List (List (List Source))) (js js' : List Judged) (j : Judged) (k : ℕ) (o : Pou) (elements : List BodyElement) (ls : List (List Source)) → js' ≡ js ++ j ∷ [] → world ≡ pous → length js ≡ k
    → ((p : Pou) → slice_get pous k ≡ Some p → o ≡ p) → elements ≡ o.body.elements → ls ≡ get_or links k [] → IsBy world o elements ls j
    → ((place : ℕ) (p : Pou) → place < k → slice_get pous place ≡ Some p → IsFor pous links place p (judged_at js place))
    → (place : ℕ) (p : Pou) → place < k + 1 → slice_get pous place ≡ Some p → IsFor pous links place p (judged_at js' place)
judged_more pous world links js js' j k o elements ls pushed same count owner body sources new old place p h is =
    subst (λ xs. IsFor pous links place p (judged_at xs place)) (sym pushed) (elim (cases_lt place k) as (λ w. IsFor pous links place p (judged_at (js ++ j ∷ []) place)) [
      | inl low ↦ subst (IsFor pous links place p) (sym (get_or_append_left js (j ∷ []) no_judged place (omega arith))) (old place p low is)
      | inr high ↦
          let at : place ≡ k = omega arith in
          let here : o ≡ p = owner p (ap (slice_get pous) (sym at) ∙ is) in
          let a : IsBy pous o elements ls j = subst (λ w. IsBy w o elements ls j) same new in
          let b : IsBy pous o o.body.elements ls j = subst (λ es. IsBy pous o es ls j) body a in
          let c : IsBy pous o o.body.elements (get_or links k []) j = subst (λ l. IsBy pous o o.body.elements l j) sources b in
          let d : IsBy pous p p.body.elements (get_or links k []) j = subst (λ q. IsBy pous q q.body.elements (get_or links k []) j) here c in
          let e : IsFor pous links place p j = subst (λ n. IsBy pous p p.body.elements (get_or links n []) j) (sym at) d in
          subst (IsFor pous links place p) (sym (get_or_push js j no_judged place (count ∙ sym at))) e
    ])

pub have_types : (pous : List Pou) (links : List (List (List Source))) (js : List Judged) (types : Types) → AreJudged pous links js → ((r : TypeRule) → NoSpot r js)
    → types.inputs ≡ map (λ (j : Judged). j.inputs) js → types.wires ≡ map (λ (j : Judged). j.wires) js → HaveTypes pous links types
have_types pous links js types are none inputs wires = record {
  inputs = ap length inputs ∙ (length-map js (λ (j : Judged). j.inputs) ∙ are.number);
  wires = ap length wires ∙ (length-map js (λ (j : Judged). j.wires) ∙ are.number);
  each = λ place p is.
      let s = sheet_at pous links place p in
      let ws = wires_from pous p 0 p.body.elements in
      let j = judged_at js place in
      let ok = are.each place p is in
      let low : place < length js = omega (arith, got_low pous place p is, are.number) in
      let off : (r : TypeRule) (e : ℕ) → e < length s.forms → BreaksIn r s e → ⊥ = λ r e l broken. let f : false ≡ true = sym (none r place low e) ∙ (ok.faults r e l).1 broken in cc in
      let agree : (e : ℕ) → e < length s.forms → Disagrees s e → ⊥ = λ e l broken. off Disagreement e l broken in
      let stands = placed pous p (get_or links place []) in
      let single = one_pin_each pous p (get_or links place []) in
      let at : get_or types.inputs place [] ≡ j.inputs = ap (λ xs. get_or xs place []) inputs ∙ map_at (λ (x : Judged). x.inputs) js place no_judged [] low in
      let at' : get_or types.wires place [] ≡ j.wires = ap (λ xs. get_or xs place []) wires ∙ map_at (λ (x : Judged). x.wires) js place no_judged [] low in
      let found : AreTypes s ws j.inputs j.wires = record {
        pin_count = ok.pin_count;
        each_pin = λ i t l has. one_pin s stands single agree i t (get_or j.inputs i ty.Bool) l has (ok.pins i t l has);
        other_pin = λ i l none. elim (ok.given_pin i l) [ inl has ↦ absurd (none (get_or j.inputs i ty.Bool) has) | inr bool ↦ bool ];
        wire_count = ok.wire_count;
        each_wire = λ k t l has. one_wire s stands single agree (wire_at ws k) t (get_or j.wires k ty.Bool) has (ok.each_wire k t l has);
        other_wire = λ k l none. elim (ok.given_wire k l) [ inl has ↦ absurd (none (get_or j.wires k ty.Bool) has) | inr bool ↦ bool ];
        shared = λ e shares. elim (ok.shared e shares) [
          | inr some ↦ some
          | inl no-type ↦ elim (cases_lt e (length s.forms)) [
            | inl l ↦ absurd (off NoType e l no-type)
            | inr h ↦ absurd (shares (ap (λ (f : Form). f.grouping) (get_or-eq_default s.forms no_form h)))
          ]
        ];
      } in
      subst (λ xs. AreTypes s ws xs (get_or types.wires place [])) (sym at) (subst (λ ys. AreTypes s ws j.inputs ys) (sym at') found);
}
