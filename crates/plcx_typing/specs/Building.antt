-- What the code makes of what is held and of the pins of blocks. Only proofs are served by it.
use Rattle.std.specs.Prelude.{ℕ, Bool, true, false, List, Option, Some, None}
use Rattle.plcx_types.specs.declared.literal.Literal as literals
use Rattle.plcx_types.specs.declared.literal.Literal.TheVariants as literal
use Rattle.plcx_types.specs.declared.ty.Ty.TheVariants as ty
use Rattle.plcx_model.specs.declared.body.Kind.{Kind}
use Rattle.plcx_model.specs.declared.body.Kind.TheVariants as kind
use Rattle.plcx_model.specs.declared.body.PinIn.{PinIn}
use Rattle.plcx_model.specs.declared.body.PinOut.{PinOut}
use Rattle.plcx_model.specs.declared.project.Pou.{Pou}
use Rattle.plcx_names.specs.declared.helds.Held.{Held}
use Rattle.plcx_names.specs.declared.helds.Held.TheVariants.{Literal, Variable, Instance, Output}
use Rattle.plcx_rules.specs.declared.callee.Callee.{Callee}
use Rattle.plcx_rules.specs.declared.form.Pin.{Pin}
use Rattle.plcx_rules.specs.declared.form.Gives.{Gives}
use Rattle.plcx_rules.specs.declared.form.Gives.TheVariants.{Typed, Untyped, Nothing}
use Rattle.plcx_rules.specs.declared.form.Out.{Out}
use Rattle.plcx_rules.specs.declared.form.Outputs.TheVariants.{Single, Listed}
use Rattle.plcx_rules.specs.declared.form.Form.{Form}
use Rattle.plcx_rules.specs.declared.form.WireForm.{WireForm}
use Rattle.plcx_rules.specs.Forms.{pin, out, wire, apart, input_class_of, in_out_class_of, output_gives, block_outputs, grouping_of}

-- what a literal gives
abbrev pub literal_gives : literals.Literal → Gives
literal_gives (literal.Typed v) = Typed v.ty
literal_gives (literal.Whole n) = Untyped n

-- what is held, as what it gives
abbrev pub gives_as : Option Held → Gives
gives_as (Some (Literal l)) = literal_gives l
gives_as (Some (Variable t writable)) = Typed t
gives_as (Some Instance) = Nothing
gives_as (Some (Output t)) = Typed t
gives_as None = Nothing

-- the wire of an inVariable, unless it holds a literal
abbrev pub wire_as : ℕ → Option Held → Option WireForm
wire_as e (Some (Literal l)) = None
wire_as e (Some (Variable t writable)) = Some (wire e (Typed t))
wire_as e (Some Instance) = Some (wire e Nothing)
wire_as e (Some (Output t)) = Some (wire e (Typed t))
wire_as e None = Some (wire e Nothing)

-- a listed input of a block, an in-out, an output, and the wire of an output
abbrev pub input_pin : List Pou → Option Callee → ℕ → List PinIn → PinIn → Pin
input_pin pous c e inputs p = pin e (input_class_of pous c inputs p) p.mods.negated

abbrev pub in_out_pin : List Pou → Option Callee → ℕ → PinIn → Pin
in_out_pin pous c e p = pin e (in_out_class_of pous c p) p.mods.negated

abbrev pub listed_out : List Pou → Option Callee → List PinOut → PinOut → Out
listed_out pous c outputs o = out (output_gives pous c outputs o) o.mods.negated

abbrev pub output_wire : List Pou → Option Callee → ℕ → List PinOut → PinOut → WireForm
output_wire pous c e outputs o = wire e (output_gives pous c outputs o)

-- the form of a block
abbrev pub block_form : List Pou → Option Callee → List PinOut → Form
block_form pous c outputs = record { outputs = Listed (block_outputs pous c outputs); grouping = grouping_of c; operand = None }

-- the wire of BOOL, and the form of an inVariable
abbrev pub bool_wire : ℕ → WireForm
bool_wire e = wire e (Typed ty.Bool)

abbrev pub value_form : Gives → Bool → Form
value_form gives negated = apart (Single (out gives negated)) None

-- neither a block nor an element with a text
abbrev pub is_plain : Kind → Bool
is_plain (kind.Contact input text mods) = false
is_plain (kind.Coil input text mods) = false
is_plain (kind.In text mods) = false
is_plain (kind.Out input text mods) = false
is_plain (kind.Block type_name instance inputs in_outs outputs) = false
is_plain _ = true
