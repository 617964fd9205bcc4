-- Blocks: functions and calls of instances.
use Rattle.std.specs.Prelude.{ℕ, Bool, false, not, ◌&&◌, List, [], ◌∷◌, Option, Some, None, map, filter, length, slice_get}
use Rattle.std.specs.List.{find, filter_map, range_with_len}
use Rattle.std.specs.Option.{option_map, unwrap_or}
use Rattle.plcx_types.specs.declared.ty.Ty.{Ty}
use Rattle.plcx_types.specs.declared.ty.Ty.TheVariants as ty
use Rattle.plcx_funcs.specs.declared.func.Func.{Func}
use Rattle.plcx_funcs.specs.declared.pins.Class.TheVariants as class
use Rattle.plcx_meaning.specs.Functions.{group_of}
use Rattle.plcx_meaning.specs.Diagram.{Link, Enable, InputPin, InOutPin, OutputPin, ElementKind, Still, Function, Call}
use Rattle.plcx_model.specs.declared.body.PinIn.{PinIn}
use Rattle.plcx_model.specs.declared.body.PinOut.{PinOut}
use Rattle.plcx_model.specs.declared.body.Kind.TheVariants as kind
use Rattle.plcx_model.specs.declared.body.BodyElement.{BodyElement}
use Rattle.plcx_model.specs.declared.project.Pou.{Pou}
use Rattle.plcx_rules.specs.declared.callee.Callee.{Callee}
use Rattle.plcx_rules.specs.declared.callee.Callee.TheVariants as callee
use Rattle.plcx_rules.specs.Texts.{same_name}
use Rattle.plcx_rules.specs.Declarations.{Declaration, declaration_named}
use Rattle.plcx_rules.specs.Callees.{Formal, function_input, input_formal, in_out_formal, output_formal, is_enable, is_connected, is_eno}
use Rattle.plcx_view.specs.Pins.{Feed, Pin}
use Rattle.plcx_view.specs.Operands.{target_of}
use Rattle.plcx_view.specs.Links.{declared_name, link_of}

-- a listed input or in-out, with its type and its sources
abbrev pub Wired : Type 0
Wired = PinIn × Pin

-- what stands at it
abbrev pub wired_link : List Pou → Pou → Wired → Link
wired_link pous p w = link_of pous p w.0.mods.negated w.1

-- EN where it is connected
abbrev pub enables : PinIn → Bool
enables i = is_enable i && is_connected i

-- a connected input beside EN
abbrev pub is_taken : PinIn → Bool
is_taken i = not (is_enable i) && is_connected i

-- those of some inputs that are so
abbrev pub among : (PinIn → Bool) → List Wired → List Wired
among is inputs = filter (λ (w : Wired). is w.0) inputs

-- the listed outputs beside ENO
abbrev pub beside : List PinOut → List PinOut
beside outputs = filter (λ (o : PinOut). not (is_eno o)) outputs

-- EN where it is connected, and ENO where it is listed
abbrev pub enable_of : List Pou → Pou → List Wired → List PinOut → Enable
enable_of pous p inputs outputs = record {
  en = option_map (wired_link pous p) (find (λ (w : Wired). enables w.0) inputs);
  eno = option_map (λ (o : PinOut). o.mods.negated) (find is_eno outputs);
}

-- ---- functions

-- the listed input that is the function's input of this place
abbrev pub input_at : Func → List Wired → ℕ → Option Wired
input_at f inputs i = find (λ (w : Wired). same_name (function_input f i).name w.0.formal) inputs

-- what stands at these inputs of a function, in the order of its signature
abbrev pub function_links : List Pou → Pou → Func → List Wired → List Link
function_links pous p f inputs = filter_map (λ i. option_map (wired_link pous p) (input_at f inputs i)) (range_with_len 0 (length inputs))

-- OUT is negated, which is the one listed output beside ENO
abbrev pub is_negated : List PinOut → Bool
is_negated [] = false
is_negated (o ∷ outputs) = o.mods.negated

-- the type of its group, and of a conversion the type that it converts from
abbrev pub group_by : Func → List Link → Ty
group_by f links = unwrap_or (group_of f (map (λ (l : Link). l.ty) links)) ty.Bool

-- a function with what stands at its inputs
abbrev pub function_by : Func → Enable → List Link → (negated : Bool) → ElementKind
function_by f enable links negated = Function f (group_by f links) enable links negated

-- ---- calls

-- an input of an instance
abbrev pub input_pin : List Pou → Pou → Callee → List PinIn → Wired → InputPin
input_pin pous p c listed w = record { name = declared_name (input_formal pous c listed w.0); link = wired_link pous p w }

-- the variable of an inVariable
abbrev pub lent_by : List Pou → Pou → Option BodyElement → List ℕ
lent_by pous p None = []
lent_by pous p (Some e) = elim e.kind [ kind.In text mods ↦ target_of pous p text | _ ↦ [] ]

-- the variable that the first source gives
abbrev pub lent_at : List Pou → Pou → List Feed → List ℕ
lent_at pous p [] = []
lent_at pous p (feed ∷ feeds) = lent_by pous p (slice_get p.body.elements feed.0.element)

-- an in-out of an instance
abbrev pub in_out_pin : List Pou → Pou → Callee → Wired → InOutPin
in_out_pin pous p c w = record { name = declared_name (in_out_formal pous c w.0); variable = lent_at pous p w.1.feeds }

-- the type of a formal parameter where it is fixed, as it is at each pin of a function block
abbrev pub fixed_type : Option Formal → Ty
fixed_type None = ty.Bool
fixed_type (Some f) = elim f.class [ class.Fixed t ↦ t | class.Group ↦ ty.Bool | class.Lone ↦ ty.Bool ]

-- a listed output of an instance
abbrev pub output_pin : List Pou → Callee → List PinOut → PinOut → OutputPin
output_pin pous c outputs o = record {
  name = declared_name (output_formal pous c outputs o);
  ty = fixed_type (output_formal pous c outputs o);
  negated = o.mods.negated;
}

-- the name of a variable as it is declared
abbrev pub variable_name : Option Declaration → List ℕ
variable_name None = []
variable_name (Some d) = d.variable.name

-- an instance by its name as it is declared
abbrev pub instance_of : Pou → Option (List ℕ) → List ℕ
instance_of p None = []
instance_of p (Some name) = variable_name (declaration_named p name)

-- a call of an instance, with its connected inputs, its in-outs and its outputs, each in the listed order
abbrev pub call_by : List Pou → Pou → Callee → Option (List ℕ) → List PinIn → (inputs in_outs : List Wired) → List PinOut → ElementKind
call_by pous p c instance listed inputs in_outs outputs = Call (instance_of p instance)
    (enable_of pous p inputs outputs)
    (map (input_pin pous p c listed) (among is_taken inputs))
    (map (in_out_pin pous p c) in_outs)
    (map (output_pin pous c outputs) (beside outputs))

-- a block by what it calls, with its listed inputs, and those and its in-outs with their types and sources
abbrev pub block_by : List Pou → Pou → Option Callee → Option (List ℕ) → List PinIn → (inputs in_outs : List Wired) → List PinOut → ElementKind
block_by pous p None instance listed inputs in_outs outputs = Still
block_by pous p (Some (callee.Function f)) instance listed inputs in_outs outputs =
    function_by f (enable_of pous p inputs outputs) (function_links pous p f (among (λ (i : PinIn). not (is_enable i)) inputs)) (is_negated (beside outputs))
block_by pous p (Some (callee.Standard k)) instance listed inputs in_outs outputs = call_by pous p (callee.Standard k) instance listed inputs in_outs outputs
block_by pous p (Some (callee.Block place)) instance listed inputs in_outs outputs = call_by pous p (callee.Block place) instance listed inputs in_outs outputs
