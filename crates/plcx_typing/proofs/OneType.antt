-- Where no types disagree each point has one type at most.
use Rattle.std.proofs.Common.{◌≡◌, ◌≢◌, ℕ, ◌<◌, ◌⊎◌, inl, inr, Bool, true, false, Some, length, get_or, refl, sym, ◌∙◌, ap, subst, arith}
use Rattle.std.specs.List.{Contains}
use Rattle.std.proofs.lemmas.Bool.{cases_lt}
use Rattle.std.proofs.lemmas.List.{get_or_default}
use Rattle.plcx_types.specs.declared.ty.Ty.{Ty}
use Rattle.plcx_types.specs.declared.ty.Ty.TheVariants as ty
use Rattle.plcx_types.specs.TypeName.{same_ty}
use Rattle.plcx_funcs.specs.declared.pins.Class.TheVariants as class
use Rattle.plcx_model.specs.declared.source.Source.{Source}
use Rattle.plcx_rules.specs.declared.form.Gives.{Gives}
use Rattle.plcx_rules.specs.declared.form.Gives.TheVariants.{Typed, Grouped, Untyped, Nothing}
use Rattle.plcx_rules.specs.declared.form.Grouping.{Grouping}
use Rattle.plcx_rules.specs.declared.form.Grouping.TheVariants.{Apart, Function, Passing}
use Rattle.plcx_rules.specs.declared.form.WireForm.{WireForm}
use Rattle.plcx_rules.specs.Types.{Sheet, no_pin, form_at, pin_at, sources_at, gives_at, is_untyped, IsPinOf, Point, AtPin, AtGroup, AtOutput, HasType, DeclaredPin, DeclaredOutput, GroupOfSource, PinOfGroup, OutputOfGroup, LoneOfSource, LoneOfLiteral, WireHas}
use Rattle.plcx_rules.specs.TypingRules.{Disagrees, GroupDiffers, SeveralMeet}
use Rattle.plcx_typing.specs.Flows.{ArePlaced}
use Rattle.plcx_typing.proofs.Deciding.{same_decides, output_inverse, pin_inverse, group_inverse, ByFixed, ByGroup, BySource, ByLiteral}

-- two types are one, or differ
same_or : (t u : Ty) → (t ≡ u) ⊎ (t ≢ u)
same_or t u = by (same_ty t u) refl
  where
    by : (b : Bool) → same_ty t u ≡ b → (t ≡ u) ⊎ (t ≢ u)
    by true h = inl ((same_decides t u).0 h)
    by false h = inr (λ e. let f : false ≡ true = sym h ∙ (same_decides t u).1 e in cc)

passing_or : (g : Grouping) → (g ≡ Passing) ⊎ (g ≢ Passing)
passing_or Passing = inl refl
passing_or Apart = inr (λ e. cc)
passing_or (Function allowed) = inr (λ e. cc)

-- a connector and a continuation have one pin
abbrev pub HaveOnePin : Sheet → Type 0
HaveOnePin s = (e i j : ℕ) → (form_at s e).grouping ≡ Passing → IsPinOf s e i → IsPinOf s e j → i ≡ j

module _ (s : Sheet) (placed : ArePlaced (length s.forms) s.pins) (single : HaveOnePin s) (agree : (e : ℕ) → e < length s.forms → Disagrees s e → ⊥) where
  own_pin : (i : ℕ) → i < length s.pins → IsPinOf s (pin_at s i).element i
  own_pin i low = record { count = low; owner = refl }

  few : (i : ℕ) (t : Ty) → i < length s.pins → HasType s (AtPin i) t → t ≢ ty.Bool → length (sources_at s i) < 2
  few i t low has other = elim (cases_lt (length (sources_at s i)) 2) [
    | inl lt ↦ lt
    | inr ge ↦ absurd (agree (pin_at s i).element (placed i no_pin low) (SeveralMeet (own_pin i low) ge has other))
  ]

  few_two : (i : ℕ) (t u : Ty) → i < length s.pins → HasType s (AtPin i) t → HasType s (AtPin i) u → t ≢ u → length (sources_at s i) < 2
  few_two i t u low has has' differ = elim (same_or t ty.Bool) [
    | inl is ↦ few i u low has' (λ e. differ (is ∙ sym e))
    | inr other ↦ few i t low has other
  ]

  one_source : (i : ℕ) (o p : Source) → length (sources_at s i) < 2 → Contains (sources_at s i) o → Contains (sources_at s i) p → o ≡ p
  one_source i o p short a b =
      let xs = sources_at s i in
      let first : a.0 ≡ 0 = omega (arith, a.1) in
      let second : b.0 ≡ 0 = omega (arith, b.1) in
      let at : get_or xs 0 o ≡ o = ap (λ k. get_or xs k o) (sym first) ∙ a.2 in
      let at' : get_or xs 0 p ≡ p = ap (λ k. get_or xs k p) (sym second) ∙ b.2 in
      sym at ∙ (get_or_default xs 0 o p (omega (arith, a.1)) ∙ at')

  abbrev One : Point → Ty → Type 0
  One (AtPin i) t = Unit {0}
  One (AtGroup e) t = (u : Ty) → HasType s (AtGroup e) u → t ≡ u
  One (AtOutput o) t = (u : Ty) → HasType s (AtOutput o) u → t ≡ u

  declared_one : (o : Source) (t u : Ty) → gives_at s o ≡ Typed t → HasType s (AtOutput o) u → t ≡ u
  declared_one o t u is has = elim (output_inverse s o u has) [
    | inl typed ↦ let e : Typed t ≡ Typed u = sym is ∙ typed in cc
    | inr both ↦ let e : Typed t ≡ Grouped = sym is ∙ both.0 in absurd (cc)
  ]

  grouped_one : (e : ℕ) (o : Source) (t u : Ty) → o.element ≡ e → gives_at s o ≡ Grouped → ((v : Ty) → HasType s (AtGroup e) v → t ≡ v) → HasType s (AtOutput o) u → t ≡ u
  grouped_one e o t u own is one has = elim (output_inverse s o u has) [
    | inl typed ↦ let f : Grouped ≡ Typed u = sym is ∙ typed in absurd (cc)
    | inr both ↦ one u (subst (λ x. HasType s (AtGroup x) u) own both.1)
  ]

  group_one : (e i : ℕ) (o : Source) (t u : Ty) → IsPinOf s e i → (pin_at s i).class ≡ Some class.Group → Contains (sources_at s i) o → HasType s (AtOutput o) t → ((v : Ty) → HasType s (AtOutput o) v → t ≡ v) → HasType s (AtGroup e) u → t ≡ u
  group_one e i o t u pin group there has one has' = elim (same_or t u) [
    | inl same ↦ same
    | inr differ ↦
        let whole : HasType s (AtGroup e) t = GroupOfSource pin group there has in
        elim (passing_or (form_at s e).grouping) [
          | inr shares ↦ absurd (agree e (subst (λ x. x < length s.forms) pin.owner (placed i no_pin pin.count)) (GroupDiffers shares whole has' differ))
          | inl passing ↦
              let why = group_inverse s e u has' in
              let same : why.0 ≡ i = single e why.0 i passing why.2 pin in
              let short = few_two i t u pin.count (PinOfGroup pin group whole) (PinOfGroup pin group has') differ in
              let source : o ≡ why.1 = one_source i o why.1 short there (subst (λ k. Contains (sources_at s k) why.1) same why.4) in
              one u (subst (λ x. HasType s (AtOutput x) u) (sym source) why.5)
        ]
  ]

  one : (p : Point) (t : Ty) → HasType s p t → One p t
  one p t (DeclaredPin low is) = tt
  one p t (DeclaredOutput {o = o} is) = λ u has. declared_one o t u is has
  one p t (GroupOfSource {e = e} {i = i} {o = o} pin group there has) = λ u has'. group_one e i o t u pin group there has (one (AtOutput o) t has) has'
  one p t (PinOfGroup pin group has) = tt
  one p t (OutputOfGroup {e = e} {o = o} own gives has) = λ u has'. grouped_one e o t u own gives (one (AtGroup e) t has) has'
  one p t (LoneOfSource low lone there has) = tt
  one p t (LoneOfLiteral low lone there untyped) = tt

  no_literal : (o : Source) (t : Ty) → is_untyped (gives_at s o) ≡ true → HasType s (AtOutput o) t → ⊥
  no_literal o t untyped has = elim (output_inverse s o t has) [
    | inl typed ↦ let e : false ≡ true = sym (ap is_untyped typed) ∙ untyped in cc
    | inr both ↦ let e : false ≡ true = sym (ap is_untyped both.0) ∙ untyped in cc
  ]

  pub one_group : (e : ℕ) (t u : Ty) → HasType s (AtGroup e) t → HasType s (AtGroup e) u → t ≡ u
  one_group e t u has has' = one (AtGroup e) t has u has'

  pub one_pin : (i : ℕ) (t u : Ty) → i < length s.pins → HasType s (AtPin i) t → HasType s (AtPin i) u → t ≡ u
  one_pin i t u low has has' = elim (pin_inverse s i t has) [
    | ByFixed a ↦ elim (pin_inverse s i u has') [
      | ByFixed b ↦ let e : Some (class.Fixed t) ≡ Some (class.Fixed u) = sym a ∙ b in cc
      | ByGroup b h ↦ let e : Some (class.Fixed t) ≡ Some class.Group = sym a ∙ b in absurd (cc)
      | BySource o b h k ↦ let e : Some (class.Fixed t) ≡ Some class.Lone = sym a ∙ b in absurd (cc)
      | ByLiteral o b h k d ↦ let e : Some (class.Fixed t) ≡ Some class.Lone = sym a ∙ b in absurd (cc)
    ]
    | ByGroup a f ↦ elim (pin_inverse s i u has') [
      | ByFixed b ↦ let e : Some class.Group ≡ Some (class.Fixed u) = sym a ∙ b in absurd (cc)
      | ByGroup b h ↦ one_group (pin_at s i).element t u f h
      | BySource o b h k ↦ let e : Some class.Group ≡ Some class.Lone = sym a ∙ b in absurd (cc)
      | ByLiteral o b h k d ↦ let e : Some class.Group ≡ Some class.Lone = sym a ∙ b in absurd (cc)
    ]
    | BySource o a f g ↦ elim (pin_inverse s i u has') [
      | ByFixed b ↦ let e : Some class.Lone ≡ Some (class.Fixed u) = sym a ∙ b in absurd (cc)
      | ByGroup b h ↦ let e : Some class.Lone ≡ Some class.Group = sym a ∙ b in absurd (cc)
      | BySource p b h k ↦ elim (same_or t u) [
        | inl is ↦ is
        | inr differ ↦ one (AtOutput o) t g u (subst (λ y. HasType s (AtOutput y) u) (sym (one_source i o p (few_two i t u low has has' differ) f h)) k)
      ]
      | ByLiteral p b h k d ↦ elim (same_or t u) [
        | inl is ↦ is
        | inr differ ↦ absurd (no_literal o t (subst (λ y. is_untyped (gives_at s y) ≡ true) (sym (one_source i o p (few_two i t u low has has' differ) f h)) k) g)
      ]
    ]
    | ByLiteral o a f g d ↦ elim (pin_inverse s i u has') [
      | ByFixed b ↦ let e : Some class.Lone ≡ Some (class.Fixed u) = sym a ∙ b in absurd (cc)
      | ByGroup b h ↦ let e : Some class.Lone ≡ Some class.Group = sym a ∙ b in absurd (cc)
      | BySource p b h k ↦ elim (same_or t u) [
        | inl is ↦ is
        | inr differ ↦ absurd (no_literal o u g (subst (λ y. HasType s (AtOutput y) u) (sym (one_source i o p (few_two i t u low has has' differ) f h)) k))
      ]
      | ByLiteral p b h k e ↦ d ∙ sym e
    ]
  ]

  -- a type that comes so
  abbrev ComesFrom : ℕ → Gives → Ty → Type 0
  ComesFrom e g v = elim g [ Typed x ↦ v ≡ x | Grouped ↦ HasType s (AtGroup e) v | _ ↦ ⊥ ]

  one_given : (e : ℕ) (g : Gives) (t u : Ty) → ComesFrom e g t → ComesFrom e g u → t ≡ u
  one_given e (Typed x) t u a b = a ∙ sym b
  one_given e Grouped t u a b = one_group e t u a b
  one_given e (Untyped n) t u a b = absurd a
  one_given e Nothing t u a b = absurd a

  pub one_wire : (w : WireForm) (t u : Ty) → WireHas s w t → WireHas s w u → t ≡ u
  one_wire w t u has has' = one_given w.element w.gives t u has has'
