-- What is found of each body. Only proofs are served by it.
use Rattle.std.specs.Prelude.{◌≡◌, ◌≢◌, ◌⊎◌, ℕ, ◌<◌, Bool, true, false, List, [], ◌∷◌, Some, length, get_or, slice_get, if◌then◌else◌}
use Rattle.std.specs.Bool.{Decides}
use Rattle.plcx_types.specs.declared.ty.Ty.{Ty}
use Rattle.plcx_types.specs.declared.ty.Ty.TheVariants as ty
use Rattle.plcx_model.specs.declared.project.Pou.{Pou}
use Rattle.plcx_model.specs.declared.source.Source.{Source}
use Rattle.plcx_rules.specs.declared.form.WireForm.{WireForm}
use Rattle.plcx_rules.specs.declared.form.TypeRule.{TypeRule}
use Rattle.plcx_rules.specs.declared.form.TypeRule.TheVariants.{NoType, Disagreement, Range}
use Rattle.plcx_rules.specs.declared.form.Grouping.TheVariants.{Apart}
use Rattle.plcx_rules.specs.Types.{Sheet, form_at, AtPin, AtGroup, HasType, WireHas}
use Rattle.plcx_rules.specs.Forms.{sheet_at, wires_from}
use Rattle.plcx_rules.specs.Typed.{wire_at}
use Rattle.plcx_rules.specs.TypingRules.{HasNoType, BreaksIn, type_rule_number}
use Rattle.plcx_typing.specs.declared.body.Judged.{Judged}
use Rattle.plcx_typing.specs.Faults.{flag}

-- the first of these types that passes, or BOOL
abbrev pub first_type : (Ty → Bool) → List Ty → Ty
first_type p [] = ty.Bool
first_type p (t ∷ ts) = if p t then t else first_type p ts

abbrev pub flags_of : TypeRule → Judged → List Bool
flags_of NoType j = j.untyped
flags_of Disagreement j = j.disagreeing
flags_of Range j = j.outside

-- what is found of a body is so
pub record IsJudged (s : Sheet) (wires : List WireForm) (j : Judged) : Type 0 where
  pub count : (r : TypeRule) → length (flags_of r j) ≡ length s.forms
  pub faults : (r : TypeRule) (x : ℕ) → x < length s.forms → Decides (flag (flags_of r j) x) (BreaksIn r s x)
  pub shared : (e : ℕ) → (form_at s e).grouping ≢ Apart → HasNoType s e ⊎ ((t : Ty) × HasType s (AtGroup e) t)
  pub pin_count : length j.inputs ≡ length s.pins
  pub pins : (i : ℕ) (t : Ty) → i < length s.pins → HasType s (AtPin i) t → HasType s (AtPin i) (get_or j.inputs i ty.Bool)
  -- what is given is a type of the pin, or else BOOL
  pub given_pin : (i : ℕ) → i < length s.pins → HasType s (AtPin i) (get_or j.inputs i ty.Bool) ⊎ (get_or j.inputs i ty.Bool ≡ ty.Bool)
  pub wire_count : length j.wires ≡ length wires
  pub each_wire : (k : ℕ) (t : Ty) → k < length wires → WireHas s (wire_at wires k) t → WireHas s (wire_at wires k) (get_or j.wires k ty.Bool)
  pub given_wire : (k : ℕ) → k < length wires → WireHas s (wire_at wires k) (get_or j.wires k ty.Bool) ⊎ (get_or j.wires k ty.Bool ≡ ty.Bool)

abbrev pub no_judged : Judged
no_judged = record { untyped = []; disagreeing = []; outside = []; inputs = []; wires = [] }

abbrev pub judged_at : List Judged → ℕ → Judged
judged_at js k = get_or js k no_judged

-- so it is of each body
pub record AreJudged (pous : List Pou) (links : List (List (List Source))) (js : List Judged) : Type 0 where
  pub number : length js ≡ length pous
  pub each : (place : ℕ) (p : Pou) → slice_get pous place ≡ Some p → IsJudged (sheet_at pous links place p) (wires_from pous p 0 p.body.elements) (judged_at js place)

-- the first mark
pub record IsFirstFlag (flags : List Bool) (e : ℕ) : Type 0 where
  pub within : e < length flags
  pub raised : flag flags e ≡ true
  pub first : (x : ℕ) → x < e → flag flags x ≡ false

abbrev pub NoFlag : List Bool → Type 0
NoFlag flags = (x : ℕ) → flag flags x ≡ false

-- the first mark of a rule in all bodies
pub record IsSpot (r : TypeRule) (js : List Judged) (spot : ℕ × ℕ) : Type 0 where
  pub within : spot.0 < length js
  pub here : IsFirstFlag (flags_of r (judged_at js spot.0)) spot.1
  pub earlier : (q : ℕ) → q < spot.0 → NoFlag (flags_of r (judged_at js q))

abbrev pub NoSpot : TypeRule → List Judged → Type 0
NoSpot r js = (q : ℕ) → q < length js → NoFlag (flags_of r (judged_at js q))

-- the first rule that is broken, and its first mark
pub record IsFirstFault (js : List Judged) (fault : TypeRule × ℕ × ℕ) : Type 0 where
  pub spot : IsSpot fault.0 js (fault.1, fault.2)
  pub before : (r : TypeRule) → type_rule_number r < type_rule_number fault.0 → NoSpot r js
