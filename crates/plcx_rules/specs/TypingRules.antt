-- Rules 34 to 36, on an element of a body, and the verdict over them.
use Rattle.std.specs.Prelude.{◌≡◌, ◌≢◌, ℕ, ℤ, ◌≤◌, true, false, List, [], ◌∷◌, Option, Some, length}
use Rattle.std.specs.List.{Contains}
use Rattle.plcx_types.specs.declared.ty.Ty.{Ty}
use Rattle.plcx_types.specs.declared.ty.Ty.TheVariants as ty
use Rattle.plcx_types.specs.Range.{InRange}
use Rattle.plcx_funcs.specs.declared.allowed.Allowed.{Allowed}
use Rattle.plcx_funcs.specs.Types.{is_allowed, is_whole}
use Rattle.plcx_funcs.specs.declared.pins.Class.TheVariants as class
use Rattle.plcx_model.specs.declared.broken.Place.{Place}
use Rattle.plcx_model.specs.declared.project.Pou.{Pou}
use Rattle.plcx_model.specs.declared.project.Project.{Project}
use Rattle.plcx_model.specs.declared.source.Source.{Source}
use Rattle.plcx_model.specs.Verdict.{Verdict}
use Rattle.plcx_rules.specs.declared.form.TypeRule.{TypeRule}
use Rattle.plcx_rules.specs.declared.form.TypeRule.TheVariants.{NoType, Disagreement, Range}
use Rattle.plcx_rules.specs.Items.{Item, items_of, place_of}
use Rattle.plcx_rules.specs.Forms.{sheet_at}
use Rattle.plcx_rules.specs.declared.form.Gives.TheVariants.{Untyped}
use Rattle.plcx_rules.specs.declared.form.Grouping.TheVariants.{Apart, Function, Passing}
use Rattle.plcx_rules.specs.Types.{Sheet, form_at, pin_at, sources_at, output_at, gives_at, is_untyped, IsPinOf, AtPin, AtGroup, AtOutput, HasType, Takes}

-- Rule 34: a function with a group, a connector or a continuation has no type.
pub record HasNoType (s : Sheet) (e : ℕ) : Type 0 where
  pub shares : (form_at s e).grouping ≢ Apart
  pub none : (t : Ty) → HasType s (AtGroup e) t → ⊥

-- Rule 35: types disagree at an element.
pub data Disagrees (s : Sheet) (e : ℕ) : Type 0 where
  -- a source has a type that the pin or group has not
  SourceDiffers : {i : ℕ} {o : Source} {t : Ty} → IsPinOf s e i → Contains (sources_at s i) o → HasType s (AtOutput o) t → (HasType s (AtPin i) t → ⊥) → Disagrees s e
  -- a group has two types; a connector and a continuation are none
  GroupDiffers : {t u : Ty} → (form_at s e).grouping ≢ Passing → HasType s (AtGroup e) t → HasType s (AtGroup e) u → t ≢ u → Disagrees s e
  -- a group's type isn't allowed
  GroupIsBarred : {allowed : Allowed} {t : Ty} → (form_at s e).grouping ≡ Function allowed → HasType s (AtGroup e) t → is_allowed allowed t ≡ false → Disagrees s e
  -- a lone pin's type isn't allowed
  LoneIsBarred : {i : ℕ} {t : Ty} → IsPinOf s e i → (pin_at s i).class ≡ Some class.Lone → HasType s (AtPin i) t → is_whole t ≡ false → Disagrees s e
  -- an untyped literal meets TIME
  LiteralMeetsTime : {i : ℕ} {o : Source} → IsPinOf s e i → Contains (sources_at s i) o → is_untyped (gives_at s o) ≡ true → HasType s (AtPin i) ty.Time → Disagrees s e
  -- several connections stand at a pin that has a type other than BOOL
  SeveralMeet : {i : ℕ} {t : Ty} → IsPinOf s e i → 2 ≤ length (sources_at s i) → HasType s (AtPin i) t → t ≢ ty.Bool → Disagrees s e
  -- a value that is negated or stored at an input pin isn't BOOL
  PinIsNoBool : {i : ℕ} {t : Ty} → IsPinOf s e i → (pin_at s i).modified ≡ true → HasType s (AtPin i) t → t ≢ ty.Bool → Disagrees s e
  -- a negated output, variable or typed literal isn't BOOL
  OutputIsNoBool : {o : Source} {t : Ty} → o.element ≡ e → (output_at s o).negated ≡ true → HasType s (AtOutput o) t → t ≢ ty.Bool → Disagrees s e
  -- a negated untyped literal takes a type that isn't BOOL
  LiteralIsNoBool : {t : Ty} → (output_at s (record { element = e; pin = 0 })).negated ≡ true → Takes s e t → t ≢ ty.Bool → Disagrees s e
  -- the variable of a contact or a coil isn't BOOL
  OperandIsNoBool : {t : Ty} → (form_at s e).operand ≡ Some t → t ≢ ty.Bool → Disagrees s e

-- Rule 36: an untyped literal is outside a type that it takes.
pub record IsOutside (s : Sheet) (e : ℕ) : Type 0 where
  pub number : ℤ
  pub literal : gives_at s (record { element = e; pin = 0 }) ≡ Untyped number
  pub taken : Ty
  pub takes : Takes s e taken
  pub outside : InRange taken number → ⊥

-- whether the element at a place breaks a rule
abbrev pub BreaksIn : TypeRule → Sheet → ℕ → Type 0
BreaksIn NoType s e = HasNoType s e
BreaksIn Disagreement s e = Disagrees s e
BreaksIn Range s e = IsOutside s e

-- an element breaks a rule, whatever items stand before
abbrev pub BreaksTyping : List Pou → List (List (List Source)) → TypeRule → List Item → Item → Type 0
BreaksTyping pous links r before x = BreaksIn r (sheet_at pous links x.pou x.owner) x.place

-- the rules, as they are tested
abbrev pub type_rules : List TypeRule
type_rules = NoType ∷ Disagreement ∷ Range ∷ []

-- the number of a rule
abbrev pub type_rule_number : TypeRule → ℕ
type_rule_number NoType = 34
type_rule_number Disagreement = 35
type_rule_number Range = 36

-- each rule is broken at the element
abbrev pub type_place : TypeRule → Item → Place
type_place r x = place_of x

-- the first rule from 34 to 36 that a project with these links breaks, and the element that breaks it first
abbrev pub TypingVerdict : Project → List (List (List Source)) → Option (TypeRule × Place) → Type 0
TypingVerdict project links v = Verdict (BreaksTyping project.pous links) type_place (items_of project.pous) type_rules v
