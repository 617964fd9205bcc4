-- What the types of a project are: those that its pins and wires have by the closure.
use Rattle.std.specs.Prelude.{◌≡◌, ◌≢◌, ℕ, ◌<◌, List, [], Some, length, get_or, slice_get}
use Rattle.plcx_types.specs.declared.ty.Ty.{Ty}
use Rattle.plcx_types.specs.declared.ty.Ty.TheVariants as ty
use Rattle.plcx_model.specs.declared.plan.Types.{Types}
use Rattle.plcx_model.specs.declared.project.Pou.{Pou}
use Rattle.plcx_model.specs.declared.source.Source.{Source}
use Rattle.plcx_rules.specs.declared.form.Gives.TheVariants.{Nothing}
use Rattle.plcx_rules.specs.declared.form.Grouping.TheVariants.{Apart}
use Rattle.plcx_rules.specs.declared.form.WireForm.{WireForm}
use Rattle.plcx_rules.specs.Types.{Sheet, form_at, AtPin, AtGroup, HasType, WireHas}
use Rattle.plcx_rules.specs.Forms.{wire, wires_from, sheet_at}

abbrev pub wire_at : List WireForm → ℕ → WireForm
wire_at wires k = get_or wires k (wire 0 Nothing)

-- the types of the input pins of a body, and those of its wires: a type that a pin or a wire has is the one that is given, and BOOL where it has none
pub record AreTypes (s : Sheet) (wires : List WireForm) (inputs given : List Ty) : Type 0 where
  pub pin_count : length inputs ≡ length s.pins
  pub each_pin : (i : ℕ) (t : Ty) → i < length s.pins → HasType s (AtPin i) t → t ≡ get_or inputs i ty.Bool
  pub other_pin : (i : ℕ) → i < length s.pins → ((t : Ty) → HasType s (AtPin i) t → ⊥) → get_or inputs i ty.Bool ≡ ty.Bool
  pub wire_count : length given ≡ length wires
  pub each_wire : (k : ℕ) (t : Ty) → k < length wires → WireHas s (wire_at wires k) t → t ≡ get_or given k ty.Bool
  pub other_wire : (k : ℕ) → k < length wires → ((t : Ty) → WireHas s (wire_at wires k) t → ⊥) → get_or given k ty.Bool ≡ ty.Bool
  -- a group, a connector and a continuation have one
  pub shared : (e : ℕ) → (form_at s e).grouping ≢ Apart → (t : Ty) × HasType s (AtGroup e) t

-- the types of each body, where the input pins have these sources
pub record HaveTypes (pous : List Pou) (links : List (List (List Source))) (types : Types) : Type 0 where
  pub inputs : length types.inputs ≡ length pous
  pub wires : length types.wires ≡ length pous
  pub each : (place : ℕ) (p : Pou) → slice_get pous place ≡ Some p
      → AreTypes (sheet_at pous links place p) (wires_from pous p 0 p.body.elements) (get_or types.inputs place []) (get_or types.wires place [])
