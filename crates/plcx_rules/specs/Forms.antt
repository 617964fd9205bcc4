-- What the types of a body go by: the pins, outputs and wires of each kind of element, and where their types come from.
use Rattle.std.specs.Prelude.{ℕ, ◌+◌, Bool, false, not, ◌||◌, ◌&&◌, List, [], ◌∷◌, ◌++◌, map, Option, Some, None, option_map, option_and_then, get_or, if◌then◌else◌}
use Rattle.std.specs.List.{list_any, filter}
use Rattle.plcx_types.specs.declared.ty.Ty.{Ty}
use Rattle.plcx_types.specs.declared.ty.Ty.TheVariants as ty
use Rattle.plcx_types.specs.declared.literal.Literal.TheVariants as literal
use Rattle.plcx_funcs.specs.declared.allowed.Allowed.{Allowed}
use Rattle.plcx_funcs.specs.declared.allowed.Allowed.TheVariants as set
use Rattle.plcx_funcs.specs.declared.pins.Class.{Class}
use Rattle.plcx_funcs.specs.declared.pins.Class.TheVariants as class
use Rattle.plcx_funcs.specs.Pins.{group_types, output_class}
use Rattle.plcx_model.specs.declared.body.Mods.{Mods}
use Rattle.plcx_model.specs.declared.body.PinIn.{PinIn}
use Rattle.plcx_model.specs.declared.body.PinOut.{PinOut}
use Rattle.plcx_model.specs.declared.body.Kind.{Kind}
use Rattle.plcx_model.specs.declared.body.Kind.TheVariants as kind
use Rattle.plcx_model.specs.declared.body.BodyElement.{BodyElement}
use Rattle.plcx_model.specs.declared.project.Pou.{Pou}
use Rattle.plcx_model.specs.declared.source.Source.{Source}
use Rattle.plcx_rules.specs.declared.callee.Callee.{Callee}
use Rattle.plcx_rules.specs.declared.callee.Callee.TheVariants as callee
use Rattle.plcx_rules.specs.declared.form.Pin.{Pin}
use Rattle.plcx_rules.specs.declared.form.Gives.{Gives}
use Rattle.plcx_rules.specs.declared.form.Gives.TheVariants.{Typed, Grouped, Untyped, Nothing}
use Rattle.plcx_rules.specs.declared.form.Out.{Out}
use Rattle.plcx_rules.specs.declared.form.Outputs.{Outputs}
use Rattle.plcx_rules.specs.declared.form.Outputs.TheVariants.{Absent, Single, Listed}
use Rattle.plcx_rules.specs.declared.form.Grouping.{Grouping}
use Rattle.plcx_rules.specs.declared.form.Grouping.TheVariants.{Apart, Function, Passing}
use Rattle.plcx_rules.specs.declared.form.Form.{Form}
use Rattle.plcx_rules.specs.declared.form.WireForm.{WireForm}
use Rattle.plcx_rules.specs.Callees.{Formal, callee_named, input_formal, in_out_formal, output_formal, is_enable, is_connected, is_eno}
use Rattle.plcx_rules.specs.Helds.{Held, OfLiteral, OfVariable, OfInstance, OfOutput, text_held}
use Rattle.plcx_rules.specs.LinkRules.{is_stored}
use Rattle.plcx_rules.specs.Types.{Sheet}

-- ---- by their parts

abbrev pub pin : ℕ → Option Class → (modified : Bool) → Pin
pin e c modified = record { element = e; class = c; modified = modified }

abbrev pub out : Gives → (negated : Bool) → Out
out gives negated = record { gives = gives; negated = negated }

abbrev pub wire : ℕ → Gives → WireForm
wire e gives = record { element = e; gives = gives }

-- an element whose pins share no types
abbrev pub apart : Outputs → Option Ty → Form
apart outputs operand = record { outputs = outputs; grouping = Apart; operand = operand }

-- BOOL, at an input pin and at an output
abbrev pub bool_class : Option Class
bool_class = Some (class.Fixed ty.Bool)

abbrev pub bool_out : Outputs
bool_out = Single (out (Typed ty.Bool) false)

-- ---- texts

-- what an inVariable gives: what it holds has its declared type, and an untyped literal none
abbrev pub gives_held : Option Held → Gives
gives_held (Some (OfLiteral (literal.Typed v))) = Typed v.ty
gives_held (Some (OfLiteral (literal.Whole n))) = Untyped n
gives_held (Some (OfVariable d t)) = Typed t
gives_held (Some (OfInstance d)) = Nothing
gives_held (Some (OfOutput d o)) = Typed o.ty
gives_held None = Nothing

-- the type that is declared
abbrev pub declared : Gives → Option Ty
declared (Typed t) = Some t
declared Grouped = None
declared (Untyped n) = None
declared Nothing = None

-- what a text of a POU gives
unfoldable pub text_gives : List Pou → Pou → List ℕ → Gives
text_gives pous p text = gives_held (text_held pous p text)

-- the value is negated, or sets or resets what it is stored to
abbrev pub is_modified : Mods → Bool
is_modified m = m.negated || is_stored m.storage

-- ---- blocks

abbrev pub class_of : Option Formal → Option Class
class_of f = option_map (λ (x : Formal). x.class) f

-- what an output of this class gives
abbrev pub gives_class : Option Class → Gives
gives_class (Some (class.Fixed t)) = Typed t
gives_class (Some class.Group) = Grouped
gives_class (Some class.Lone) = Nothing
gives_class None = Nothing

-- where the type of a listed input comes from, of an in-out, and of an output
abbrev pub input_class_of : List Pou → Option Callee → List PinIn → PinIn → Option Class
input_class_of pous c inputs p = option_and_then (λ callee. class_of (input_formal pous callee inputs p)) c

abbrev pub in_out_class_of : List Pou → Option Callee → PinIn → Option Class
in_out_class_of pous c p = option_and_then (λ callee. class_of (in_out_formal pous callee p)) c

abbrev pub output_gives : List Pou → Option Callee → List PinOut → PinOut → Gives
output_gives pous c outputs o = gives_class (option_and_then (λ callee. class_of (output_formal pous callee outputs o)) c)

-- the input pins of a block, and behind them its in-outs
unfoldable pub block_pins : List Pou → Option Callee → ℕ → List PinIn → List PinIn → List Pin
block_pins pous c e inputs in_outs =
    map (λ (p : PinIn). pin e (input_class_of pous c inputs p) p.mods.negated) inputs ++ map (λ (p : PinIn). pin e (in_out_class_of pous c p) p.mods.negated) in_outs

-- the outputs of a block, as they are listed
unfoldable pub block_outputs : List Pou → Option Callee → List PinOut → List Out
block_outputs pous c outputs = map (λ (o : PinOut). out (output_gives pous c outputs o) o.mods.negated) outputs

-- a conversion has no group
abbrev pub grouping_at : Allowed → Grouping
grouping_at set.Nothing = Apart
grouping_at allowed = Function allowed

abbrev pub grouping_of : Option Callee → Grouping
grouping_of (Some (callee.Function f)) = grouping_at (group_types f)
grouping_of (Some (callee.Standard k)) = Apart
grouping_of (Some (callee.Block place)) = Apart
grouping_of None = Apart

-- a block has the wire ENO where EN is connected or ENO is listed
abbrev pub has_eno : List PinIn → List PinOut → Bool
has_eno inputs outputs = list_any (λ (p : PinIn). is_enable p && is_connected p) inputs || list_any is_eno outputs

-- the wires behind ENO: OUT of a function, and the other listed outputs of a function block
abbrev pub result_wires : List Pou → Option Callee → ℕ → List PinOut → List WireForm
result_wires pous (Some (callee.Function f)) e outputs = wire e (gives_class (Some (output_class f))) ∷ []
result_wires pous c e outputs = map (λ (o : PinOut). wire e (output_gives pous c outputs o)) (filter (λ (o : PinOut). not (is_eno o)) outputs)

-- the wires of a block
unfoldable pub block_wires : List Pou → Option Callee → ℕ → List PinIn → List PinOut → List WireForm
block_wires pous c e inputs outputs = (if has_eno inputs outputs then wire e (Typed ty.Bool) ∷ [] else []) ++ result_wires pous c e outputs

-- ---- elements

-- the input pins of the element at a place
unfoldable pub element_pins : List Pou → Pou → ℕ → Kind → List Pin
element_pins pous p e kind.Skipped = []
element_pins pous p e kind.LeftRail = []
element_pins pous p e (kind.RightRail input) = pin e bool_class false ∷ []
element_pins pous p e (kind.Contact input text mods) = pin e bool_class false ∷ []
element_pins pous p e (kind.Coil input text mods) = pin e bool_class false ∷ []
element_pins pous p e (kind.In text mods) = []
element_pins pous p e (kind.Out input text mods) = pin e (option_map class.Fixed (declared (text_gives pous p text))) (is_modified mods) ∷ []
element_pins pous p e (kind.Block type_name instance inputs in_outs outputs) = block_pins pous (callee_named pous type_name) e inputs in_outs
element_pins pous p e (kind.Connector name input) = pin e (Some class.Group) false ∷ []
element_pins pous p e (kind.Continuation name) = pin e (Some class.Group) false ∷ []
element_pins pous p e (kind.Label name) = []
element_pins pous p e (kind.Jump label input) = pin e bool_class false ∷ []
element_pins pous p e (kind.Return input) = pin e bool_class false ∷ []

-- a connector or a continuation
abbrev pub passing : Form
passing = record { outputs = Single (out Grouped false); grouping = Passing; operand = None }

-- the outputs of an element, which types its pins share, and the type of its variable at a contact and a coil
unfoldable pub form_of : List Pou → Pou → Kind → Form
form_of pous p kind.Skipped = apart Absent None
form_of pous p kind.LeftRail = apart bool_out None
form_of pous p (kind.RightRail input) = apart Absent None
form_of pous p (kind.Contact input text mods) = apart bool_out (declared (text_gives pous p text))
form_of pous p (kind.Coil input text mods) = apart bool_out (declared (text_gives pous p text))
form_of pous p (kind.In text mods) = apart (Single (out (text_gives pous p text) mods.negated)) None
form_of pous p (kind.Out input text mods) = apart Absent None
form_of pous p (kind.Block type_name instance inputs in_outs outputs) =
    let c = callee_named pous type_name in record { outputs = Listed (block_outputs pous c outputs); grouping = grouping_of c; operand = None }
form_of pous p (kind.Connector name input) = passing
form_of pous p (kind.Continuation name) = passing
form_of pous p (kind.Label name) = apart Absent None
form_of pous p (kind.Jump label input) = apart Absent None
form_of pous p (kind.Return input) = apart Absent None

-- an inVariable has a wire unless it holds a literal
abbrev pub value_wires : ℕ → Option Held → List WireForm
value_wires e (Some (OfLiteral l)) = []
value_wires e held = wire e (gives_held held) ∷ []

-- the wires of the element at a place
unfoldable pub element_wires : List Pou → Pou → ℕ → Kind → List WireForm
element_wires pous p e kind.Skipped = []
element_wires pous p e kind.LeftRail = []
element_wires pous p e (kind.RightRail input) = []
element_wires pous p e (kind.Contact input text mods) = wire e (Typed ty.Bool) ∷ []
element_wires pous p e (kind.Coil input text mods) = wire e (Typed ty.Bool) ∷ []
element_wires pous p e (kind.In text mods) = value_wires e (text_held pous p text)
element_wires pous p e (kind.Out input text mods) = []
element_wires pous p e (kind.Block type_name instance inputs in_outs outputs) = block_wires pous (callee_named pous type_name) e inputs outputs
element_wires pous p e (kind.Connector name input) = wire e Grouped ∷ []
element_wires pous p e (kind.Continuation name) = wire e Grouped ∷ []
element_wires pous p e (kind.Label name) = []
element_wires pous p e (kind.Jump label input) = wire e (Typed ty.Bool) ∷ []
element_wires pous p e (kind.Return input) = wire e (Typed ty.Bool) ∷ []

-- ---- bodies

-- the input pins of some elements, from that place on
abbrev pub pins_from : List Pou → Pou → ℕ → List BodyElement → List Pin
pins_from pous p e [] = []
pins_from pous p e (x ∷ xs) = element_pins pous p e x.kind ++ pins_from pous p (e + 1) xs

-- their wires
abbrev pub wires_from : List Pou → Pou → ℕ → List BodyElement → List WireForm
wires_from pous p e [] = []
wires_from pous p e (x ∷ xs) = element_wires pous p e x.kind ++ wires_from pous p (e + 1) xs

-- what the types of a POU's body go by, whose input pins have these sources
abbrev pub sheet_of : List Pou → Pou → List (List Source) → Sheet
sheet_of pous p sources =
    record { forms = map (λ (x : BodyElement). form_of pous p x.kind) p.body.elements; pins = pins_from pous p 0 p.body.elements; sources = sources }

-- the same of the POU at a place, by the links of all
abbrev pub sheet_at : List Pou → List (List (List Source)) → ℕ → Pou → Sheet
sheet_at pous links place p = sheet_of pous p (get_or links place [])
