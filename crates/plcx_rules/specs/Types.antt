-- Which types the pins, groups and outputs of a body have.
use Rattle.std.specs.Prelude.{◌≡◌, ℕ, ◌<◌, Bool, true, false, List, [], Option, Some, None, length, get_or}
use Rattle.std.specs.List.{Contains}
use Rattle.plcx_types.specs.declared.ty.Ty.{Ty}
use Rattle.plcx_types.specs.declared.ty.Ty.TheVariants as ty
use Rattle.plcx_funcs.specs.declared.pins.Class.{Class}
use Rattle.plcx_funcs.specs.declared.pins.Class.TheVariants as class
use Rattle.plcx_model.specs.declared.source.Source.{Source}
use Rattle.plcx_rules.specs.declared.form.Pin.{Pin}
use Rattle.plcx_rules.specs.declared.form.Gives.{Gives}
use Rattle.plcx_rules.specs.declared.form.Gives.TheVariants.{Typed, Grouped, Untyped, Nothing}
use Rattle.plcx_rules.specs.declared.form.Out.{Out}
use Rattle.plcx_rules.specs.declared.form.Outputs.{Outputs}
use Rattle.plcx_rules.specs.declared.form.Outputs.TheVariants.{Absent, Single, Listed}
use Rattle.plcx_rules.specs.declared.form.Grouping.TheVariants.{Apart}
use Rattle.plcx_rules.specs.declared.form.Form.{Form}
use Rattle.plcx_rules.specs.declared.form.WireForm.{WireForm}

-- What the types of a body go by: its elements by place, its input pins by number, and the sources of each.
pub record Sheet : Type 0 where
  pub forms : List Form
  pub pins : List Pin
  pub sources : List (List Source)

abbrev pub no_form : Form
no_form = record { outputs = Absent; grouping = Apart; operand = None }

abbrev pub no_out : Out
no_out = record { gives = Nothing; negated = false }

abbrev pub no_pin : Pin
no_pin = record { element = 0; class = None; modified = false }

-- the element at a place
abbrev pub form_at : Sheet → ℕ → Form
form_at s e = get_or s.forms e no_form

-- the input pin of a number
abbrev pub pin_at : Sheet → ℕ → Pin
pin_at s i = get_or s.pins i no_pin

-- the sources of the input pin of a number
abbrev pub sources_at : Sheet → ℕ → List Source
sources_at s i = get_or s.sources i []

-- an output by its place, which matters at a block alone
abbrev pub output_among : Outputs → ℕ → Out
output_among Absent p = no_out
output_among (Single o) p = o
output_among (Listed os) p = get_or os p no_out

-- the output that a source names
abbrev pub output_at : Sheet → Source → Out
output_at s o = output_among (form_at s o.element).outputs o.pin

-- what it gives
abbrev pub gives_at : Sheet → Source → Gives
gives_at s o = (output_at s o).gives

-- an untyped literal
abbrev pub is_untyped : Gives → Bool
is_untyped (Untyped n) = true
is_untyped _ = false

-- the pin of a number is one of an element's
pub record IsPinOf (s : Sheet) (e i : ℕ) : Type 0 where
  pub count : i < length s.pins
  pub owner : (pin_at s i).element ≡ e

-- What has types: an input pin by its number, what the pins of an element share (the group of a function; a connector or a continuation itself), and
-- an output.
pub data Point : Type 0 where
  AtPin : ℕ → Point
  AtGroup : ℕ → Point
  AtOutput : Source → Point

-- The types that a point has.
pub data HasType (s : Sheet) : Point → Ty → Type 0 where
  -- pins of function blocks and of ladder elements, EN, in-outs and the variable of an outVariable have their declared types
  DeclaredPin : {i : ℕ} {t : Ty} → i < length s.pins → (pin_at s i).class ≡ Some (class.Fixed t) → HasType s (AtPin i) t
  -- variables, typed literals, outputs of function blocks and of ladder elements, and ENO have their declared types, and OUT where it is fixed
  DeclaredOutput : {o : Source} {t : Ty} → gives_at s o ≡ Typed t → HasType s (AtOutput o) t
  -- a group has each type that some source at a group input has; a connector and a continuation have each type of their sources
  GroupOfSource : {e i : ℕ} {o : Source} {t : Ty} → IsPinOf s e i → (pin_at s i).class ≡ Some class.Group → Contains (sources_at s i) o
      → HasType s (AtOutput o) t → HasType s (AtGroup e) t
  -- so have the pins of a group
  PinOfGroup : {e i : ℕ} {t : Ty} → IsPinOf s e i → (pin_at s i).class ≡ Some class.Group → HasType s (AtGroup e) t → HasType s (AtPin i) t
  -- OUT has the group's type unless it is fixed; the output of a connector and a continuation has its types
  OutputOfGroup : {e : ℕ} {o : Source} {t : Ty} → o.element ≡ e → gives_at s o ≡ Grouped → HasType s (AtGroup e) t → HasType s (AtOutput o) t
  -- a lone pin has each type of its sources
  LoneOfSource : {i : ℕ} {o : Source} {t : Ty} → i < length s.pins → (pin_at s i).class ≡ Some class.Lone → Contains (sources_at s i) o
      → HasType s (AtOutput o) t → HasType s (AtPin i) t
  -- and DINT where an untyped literal is wired to it
  LoneOfLiteral : {i : ℕ} {o : Source} → i < length s.pins → (pin_at s i).class ≡ Some class.Lone → Contains (sources_at s i) o
      → is_untyped (gives_at s o) ≡ true → HasType s (AtPin i) ty.Dint

-- what an untyped literal takes at a pin of this class: at a lone pin DINT, elsewhere each type of the pin
abbrev pub TakenAt : Sheet → ℕ → Option Class → Ty → Type 0
TakenAt s i (Some class.Lone) t = t ≡ ty.Dint
TakenAt s i _ t = HasType s (AtPin i) t

-- the untyped literal of an element takes a type at a pin that it is wired to
pub record Takes (s : Sheet) (e : ℕ) (t : Ty) : Type 0 where
  pub pin : ℕ
  pub count : pin < length s.pins
  pub source : Source
  pub wired : Contains (sources_at s pin) source
  pub owner : source.element ≡ e
  pub untyped : is_untyped (gives_at s source) ≡ true
  pub taken : TakenAt s pin (pin_at s pin).class t

-- where the type of a wire comes from
abbrev pub WireHas : Sheet → WireForm → Ty → Type 0
WireHas s w t = elim w.gives [ Typed u ↦ t ≡ u | Grouped ↦ HasType s (AtGroup w.element) t | _ ↦ ⊥ ]
