-- What a body keeps that breaks no rule, and which types its pins have by that.
use Rattle.std.proofs.Common.{◌≡◌, ◌≢◌, ℕ, ◌<◌, ◌≤◌, Bool, true, false, List, map, length, get_or, Option, Some, None, slice_get, refl, sym, ap, ◌∙◌, subst}
use Rattle.std.specs.Prelude.{ℤ}
use Rattle.std.specs.List.{Contains}
use Rattle.std.proofs.lemmas.Option.{slice_get-map, get_or_from_slice_get}
use Rattle.plcx_types.specs.declared.ty.Ty.{Ty}
use Rattle.plcx_types.specs.declared.ty.Ty.TheVariants as ty
use Rattle.plcx_types.specs.Range.{InRange, fits}
use Rattle.plcx_types.specs.TypeName.{same_ty}
use Rattle.plcx_types.proofs.TypeTable.{same_is}
use Rattle.plcx_funcs.specs.declared.pins.Class.{Class}
use Rattle.plcx_funcs.specs.declared.pins.Class.TheVariants as class
use Rattle.plcx_types.proofs.TypeTable.{within_range, range_within}
use Rattle.plcx_model.specs.declared.body.BodyElement.{BodyElement}
use Rattle.plcx_model.specs.declared.project.Pou.{Pou}
use Rattle.plcx_model.specs.declared.source.Source.{Source}
use Rattle.plcx_model.specs.Sound.{PouIsSound}
use Rattle.plcx_rules.specs.declared.form.Form.{Form}
use Rattle.plcx_rules.specs.declared.form.Grouping.TheVariants.{Apart}
use Rattle.plcx_rules.specs.declared.form.Pin.{Pin}
use Rattle.plcx_rules.specs.declared.rule.LinkRule.{LinkRule}
use Rattle.plcx_rules.specs.Forms.{form_of}
use Rattle.plcx_rules.specs.Laws.{AreOutputs, AreCounted}
use Rattle.plcx_rules.specs.LinkRules.{breaks}
use Rattle.plcx_rules.specs.Types.{form_at, pin_at, sources_at, gives_at, is_untyped, no_form, IsPinOf, AtPin, AtGroup, AtOutput, HasType, DeclaredPin, PinOfGroup, LoneOfLiteral, TakenAt, Takes}
use Rattle.plcx_rules.specs.TypingRules.{Disagrees, SourceDiffers, SeveralMeet, PinIsNoBool, IsOutside}
use Rattle.plcx_view.specs.Pins as view
use Rattle.plcx_fits.proofs.Judged.{item}
use Rattle.plcx_fits.proofs.Places.{links, sheet, wires, sources_of, Stands}

-- types are one unless they differ
pub one_type : (t u : Ty) → ((t ≢ u) → ⊥) → t ≡ u
one_type t u not = by (same_ty t u) refl
  where
    by : (b : Bool) → same_ty t u ≡ b → t ≡ u
    by true e = same_is t u e
    by false e = absurd (not (λ same. let h : false ≡ true = sym e ∙ ap (λ x. same_ty t x) (sym same) ∙ self t in cc))
      where
        self : (x : Ty) → same_ty x x ≡ true
        self ty.Bool = refl
        self ty.Byte = refl
        self ty.Word = refl
        self ty.Dword = refl
        self ty.Lword = refl
        self ty.Sint = refl
        self ty.Int = refl
        self ty.Dint = refl
        self ty.Lint = refl
        self ty.Usint = refl
        self ty.Uint = refl
        self ty.Udint = refl
        self ty.Ulint = refl
        self ty.Time = refl

-- a number is in the range of a type unless it isn't
pub in_range : (t : Ty) (n : ℤ) → ((InRange t n → ⊥) → ⊥) → InRange t n
in_range t n not = by (fits t n) refl
  where
    by : (b : Bool) → fits t n ≡ b → InRange t n
    by true e = within_range t n e
    by false e = absurd (not (λ h. let k : false ≡ true = sym e ∙ range_within t n h in cc))

module _ (pous : List Pou) (p : Pou) (tys : List Ty) (marks : List Bool) where
  -- what is known of a body whose links and types break no rule
  pub record Keeps (k : ℕ) : Type 0 where
    pub sound : PouIsSound pous p
    pub typed : length tys ≡ length (sheet pous p tys marks).pins
    pub sourced : length (links pous p tys marks) ≡ length (sheet pous p tys marks).pins
    pub marked : length marks ≡ length (wires pous p tys marks)
    pub only : (i : ℕ) (t : Ty) → i < length (sheet pous p tys marks).pins → HasType (sheet pous p tys marks) (AtPin i) t → t ≡ get_or tys i ty.Bool
    pub shared : (v : ℕ) (e : BodyElement) → slice_get p.body.elements v ≡ Some e → (form_of pous p e.kind).grouping ≢ Apart → (t : Ty) × HasType (sheet pous p tys marks) (AtGroup v) t
    pub counted : AreCounted p.body.elements
    pub outputs : AreOutputs p.body.elements
    pub rules : (r : LinkRule) (v : ℕ) (e : BodyElement) → slice_get p.body.elements v ≡ Some e → breaks pous r (item k p v e) ≡ false
    pub agrees : (v : ℕ) (e : BodyElement) → slice_get p.body.elements v ≡ Some e → Disagrees (sheet pous p tys marks) v → ⊥
    pub inside : (v : ℕ) (e : BodyElement) → slice_get p.body.elements v ≡ Some e → IsOutside (sheet pous p tys marks) v → ⊥

  -- what the types go by at the element at a place
  pub form_is : (v : ℕ) (e : BodyElement) → slice_get p.body.elements v ≡ Some e → form_at (sheet pous p tys marks) v ≡ form_of pous p e.kind
  form_is v e here =
      get_or_from_slice_get (map (λ (x : BodyElement). form_of pous p x.kind) p.body.elements) v (form_of pous p e.kind) no_form
      (slice_get-map (λ (x : BodyElement). form_of pous p x.kind) p.body.elements v ∙ ap (λ (o : Option BodyElement). mapped o) here)
    where
      mapped : Option BodyElement → Option Form
      mapped None = None
      mapped (Some x) = Some (form_of pous p x.kind)

  module _ (k : ℕ) (keeps : Keeps k) (v : ℕ) (e : BodyElement) (here : slice_get p.body.elements v ≡ Some e) (form : Pin) (pin : view.Pin) (st : Stands pous p tys marks v form pin) where
    abbrev Types : ℕ → Ty → Type 0
    Types i t = HasType (sheet pous p tys marks) (AtPin i) t

    pub pin_owned : IsPinOf (sheet pous p tys marks) v st.number
    pin_owned = record { count = st.below; owner = ap (λ (f : Pin). f.element) st.is ∙ st.owner }

    -- a type of the pin is the given one
    pub pin_only : (t : Ty) → Types st.number t → pin.ty ≡ t
    pin_only t h = st.ty ∙ sym (keeps.only st.number t st.below h)

    class_at : (c : Option Class) → form.class ≡ c → (pin_at (sheet pous p tys marks) st.number).class ≡ c
    class_at c is = ap (λ (f : Pin). f.class) st.is ∙ is

    -- a fixed type
    pub pin_fixed : (t : Ty) → form.class ≡ Some (class.Fixed t) → (pin.ty ≡ t) × Types st.number t
    pin_fixed t is = let h = DeclaredPin st.below (class_at (Some (class.Fixed t)) is) in (pin_only t h, h)

    -- the type of the group
    pub pin_grouped : (t : Ty) → form.class ≡ Some class.Group → HasType (sheet pous p tys marks) (AtGroup v) t → (pin.ty ≡ t) × Types st.number t
    pin_grouped t is g = let h = PinOfGroup pin_owned (class_at (Some class.Group) is) g in (pin_only t h, h)

    source_there : (o : Source) → Contains (sources_of pin) o → Contains (sources_at (sheet pous p tys marks) st.number) o
    source_there o h = subst (λ l. Contains l o) st.sources h

    -- a source has the type of the pin
    pub pin_agrees : (o : Source) (t : Ty) → Contains (sources_of pin) o → HasType (sheet pous p tys marks) (AtOutput o) t → pin.ty ≡ t
    pin_agrees o t there h = one_type pin.ty t (λ differ. keeps.agrees v e here (SourceDiffers pin_owned (source_there o there) h (λ has. differ (pin_only t has))))

    -- several sources, and what is negated or stored
    pub pin_several : Types st.number pin.ty → 2 ≤ length (sources_of pin) → pin.ty ≡ ty.Bool
    pin_several has more = one_type pin.ty ty.Bool (λ differ. keeps.agrees v e here (SeveralMeet pin_owned (subst (λ l. 2 ≤ length l) st.sources more) has differ))

    pub pin_modified : Types st.number pin.ty → form.modified ≡ true → pin.ty ≡ ty.Bool
    pin_modified has is = one_type pin.ty ty.Bool (λ differ. keeps.agrees v e here (PinIsNoBool pin_owned (ap (λ (f : Pin). f.modified) st.is ∙ is) has differ))

    -- an untyped literal takes the type of the pin
    taken_by : Types st.number pin.ty → (o : Source) → Contains (sources_of pin) o → is_untyped (gives_at (sheet pous p tys marks) o) ≡ true → (c : Option Class) → form.class ≡ c → TakenAt (sheet pous p tys marks) st.number c pin.ty
    taken_by has o there un None is = has
    taken_by has o there un (Some (class.Fixed t)) is = has
    taken_by has o there un (Some class.Group) is = has
    taken_by has o there un (Some class.Lone) is = pin_only ty.Dint (LoneOfLiteral st.below (class_at (Some class.Lone) is) (source_there o there) un)

    pub pin_takes : Types st.number pin.ty → (o : Source) → Contains (sources_of pin) o → is_untyped (gives_at (sheet pous p tys marks) o) ≡ true → Takes (sheet pous p tys marks) o.element pin.ty
    pin_takes has o there un = record {
      pin = st.number;
      count = st.below;
      source = o;
      wired = source_there o there;
      owner = refl;
      untyped = un;
      taken = taken_by has o there un (pin_at (sheet pous p tys marks) st.number).class (sym (ap (λ (f : Pin). f.class) st.is));
    }
