-- What a block's `typeName` is, and which pins a block of it has.
use Rattle.std.specs.Prelude.{ℕ, Bool, true, false, not, ◌&&◌, ◌||◌, List, [], ◌∷◌, ◌++◌, map, Option, Some, None, is_some, nat_eq, length, codes, option_map, slice_get, if◌then◌else◌}
use Rattle.std.specs.Fmt.{decimal}
use Rattle.std.specs.List.{find, filter, filter_map, position_from, range_with_len}
use Rattle.plcx_types.specs.declared.ty.Ty.{Ty}
use Rattle.plcx_types.specs.declared.ty.Ty.TheVariants as ty
use Rattle.plcx_funcs.specs.declared.func.Func.{Func}
use Rattle.plcx_funcs.specs.declared.pins.Class.{Class}
use Rattle.plcx_funcs.specs.declared.pins.Class.TheVariants as class
use Rattle.plcx_funcs.specs.Names.{function_named}
use Rattle.plcx_funcs.specs.Pins.{input_letters, input_number, input_class, output_class}
use Rattle.plcx_std.specs.declared.kind.StdKind.{StdKind}
use Rattle.plcx_std.specs.declared.pin.Role.{Role}
use Rattle.plcx_std.specs.declared.pin.Role.TheVariants as role
use Rattle.plcx_std.specs.Kind.{kind_named}
use Rattle.plcx_std.specs.Pins.{Pin, pins}
use Rattle.plcx_model.specs.declared.body.PinIn.{PinIn}
use Rattle.plcx_model.specs.declared.body.PinOut.{PinOut}
use Rattle.plcx_model.specs.declared.project.ListClass.{ListClass}
use Rattle.plcx_model.specs.declared.project.ListClass.TheVariants.{Input, Output, InOut}
use Rattle.plcx_model.specs.declared.project.PouKind.{PouKind}
use Rattle.plcx_model.specs.declared.project.PouKind.TheVariants.{Program, FunctionBlock}
use Rattle.plcx_model.specs.declared.project.VarTy.{VarTy}
use Rattle.plcx_model.specs.declared.project.VarTy.TheVariants as var
use Rattle.plcx_model.specs.declared.project.Pou.{Pou}
use Rattle.plcx_rules.specs.declared.callee.Callee.{Callee}
use Rattle.plcx_rules.specs.declared.callee.Callee.TheVariants as callee
use Rattle.plcx_rules.specs.Texts.{same_name, is_empty}
use Rattle.plcx_rules.specs.Declarations.{Declaration, declarations_of, plain_type, same_class, same_kind}

-- ---- what is called

-- a POU of this kind is a function block
abbrev pub is_block : PouKind → Bool
is_block Program = false
is_block FunctionBlock = true

-- a function block of that name
abbrev pub is_block_named : List ℕ → Pou → Bool
is_block_named name p = is_block p.kind && same_name name p.name

-- the place of the function block of a name among the POUs
unfoldable pub block_named : List Pou → List ℕ → Option ℕ
block_named pous name = position_from (is_block_named name) 0 pous

-- a standard block, or else another callee
abbrev pub standard_or : Option StdKind → Option Callee → Option Callee
standard_or None other = other
standard_or (Some k) other = Some (callee.Standard k)

-- a function, or else another callee
abbrev pub function_or : Option Func → Option Callee → Option Callee
function_or None other = other
function_or (Some f) other = Some (callee.Function f)

-- what a `typeName` is. No two of these have one name, as names of POUs are not reserved.
unfoldable pub callee_named : List Pou → List ℕ → Option Callee
callee_named pous name = function_or (function_named name) (standard_or (kind_named name) (option_map callee.Block (block_named pous name)))

-- the name is that of a function
abbrev pub names_function : List ℕ → Bool
names_function name = is_some (function_named name)

-- an instance is one of this callee; a function has none
unfoldable pub is_instance_of : Callee → VarTy → Bool
is_instance_of (callee.Standard k) (var.Std j) = same_kind k j
is_instance_of (callee.Block place) (var.Block other) = nat_eq place other
is_instance_of _ _ = false

-- ---- pins of blocks

-- a pin of a function block, with its declared type
pub record BlockPin : Type 0 where
  pub name : List ℕ
  pub ty : Ty

-- where a role stands among the roles
abbrev pub role_place : Role → ℕ
role_place role.In = 0
role_place role.Out = 1
role_place role.Hidden = 2

-- the pins of a standard block that have this role
abbrev pub standard_pins : Role → StdKind → List BlockPin
standard_pins r k = map (λ (p : Pin). let b : BlockPin = record { name = p.name; ty = p.ty } in b) (filter (λ (p : Pin). nat_eq (role_place p.role) (role_place r)) (pins k))

-- a variable of an elementary type as a pin; others are none
abbrev pub pin_of : Declaration → Option BlockPin
pin_of d = option_map (λ t. let b : BlockPin = record { name = d.variable.name; ty = t } in b) (plain_type d.variable.ty)

-- the pins of a function block that the lists of this class declare
abbrev pub block_pins : ListClass → Pou → List BlockPin
block_pins c p = filter_map pin_of (filter (λ (d : Declaration). same_class d.class c) (declarations_of p))

-- the pins of a function block, where there is one
abbrev pub pins_where : ListClass → Option Pou → List BlockPin
pins_where c None = []
pins_where c (Some p) = block_pins c p

-- the pins of the function block at a place that the lists of this class declare
abbrev pub block_pins_at : ListClass → List Pou → ℕ → List BlockPin
block_pins_at c pous place = pins_where c (slice_get pous place)

-- the outputs of an instance of a type; what is no instance has none
unfoldable pub outputs_of_type : List Pou → VarTy → List BlockPin
outputs_of_type pous (var.Plain t) = []
outputs_of_type pous (var.Std k) = standard_pins role.Out k
outputs_of_type pous (var.Block place) = block_pins_at Output pous place

-- the pin of a name
abbrev pub pin_named : List ℕ → List BlockPin → Option BlockPin
pin_named name pins = find (λ (p : BlockPin). same_name name p.name) pins

-- ---- formal parameters

-- a formal parameter, with what is known of its type: it is fixed, that of the group, or one of its own
pub record Formal : Type 0 where
  pub name : List ℕ
  pub class : Class

-- a formal parameter by its parts
abbrev pub formal : List ℕ → Class → Formal
formal name c = record { name = name; class = c }

-- a pin of a function block as a formal parameter
abbrev pub fixed : BlockPin → Formal
fixed p = formal p.name (class.Fixed p.ty)

-- EN, an input of every block
abbrev pub enable : Formal
enable = formal (codes "EN") (class.Fixed ty.Bool)

-- ENO, an output of every block
abbrev pub enabled : Formal
enabled = formal (codes "ENO") (class.Fixed ty.Bool)

-- the number in the name of an input, where it has one
abbrev pub number_text : Option ℕ → List ℕ
number_text None = []
number_text (Some n) = decimal n

-- an input of a function, counted from 0
unfoldable pub function_input : Func → ℕ → Formal
function_input f i = formal (input_letters f i ++ number_text (input_number f i)) (input_class f i)

-- the inputs of a function that has so many
abbrev pub function_inputs : Func → ℕ → List Formal
function_inputs f n = map (function_input f) (range_with_len 0 n)

-- the result of a function
abbrev pub result : Func → Formal
result f = formal (codes "OUT") (output_class f)

-- the inputs beside EN. Only a function's depend on how many a block lists.
unfoldable pub inputs_of : List Pou → Callee → ℕ → List Formal
inputs_of pous (callee.Function f) n = function_inputs f n
inputs_of pous (callee.Standard k) n = map fixed (standard_pins role.In k)
inputs_of pous (callee.Block place) n = map fixed (block_pins_at Input pous place)

-- the in-outs: functions and standard blocks have none
unfoldable pub in_outs_of : List Pou → Callee → List Formal
in_outs_of pous (callee.Function f) = []
in_outs_of pous (callee.Standard k) = []
in_outs_of pous (callee.Block place) = map fixed (block_pins_at InOut pous place)

-- the outputs beside ENO
unfoldable pub outputs_of : List Pou → Callee → List Formal
outputs_of pous (callee.Function f) = result f ∷ []
outputs_of pous (callee.Standard k) = map fixed (standard_pins role.Out k)
outputs_of pous (callee.Block place) = map fixed (block_pins_at Output pous place)

-- the formal parameter of a name
abbrev pub formal_named : List ℕ → List Formal → Option Formal
formal_named name formals = find (λ (f : Formal). same_name name f.name) formals

-- ---- listed pins

-- an EN among the input pins
abbrev pub is_enable : PinIn → Bool
is_enable p = same_name p.formal (codes "EN")

-- a pin has a connection
abbrev pub is_connected : PinIn → Bool
is_connected p = not (is_empty p.input)

-- an EN that isn't connected counts as absent
abbrev pub is_absent : PinIn → Bool
is_absent p = is_enable p && not (is_connected p)

-- the input pins that count
abbrev pub present : List PinIn → List PinIn
present inputs = filter (λ (p : PinIn). not (is_absent p)) inputs

-- how many inputs a block lists beside EN
abbrev pub input_count : List PinIn → ℕ
input_count inputs = length (filter (λ (p : PinIn). not (is_enable p)) inputs)

-- the formal parameter that a listed input stands for
abbrev pub input_formal : List Pou → Callee → List PinIn → PinIn → Option Formal
input_formal pous c inputs p = formal_named p.formal (enable ∷ inputs_of pous c (input_count inputs))

-- the formal parameter that a listed in-out stands for
abbrev pub in_out_formal : List Pou → Callee → PinIn → Option Formal
in_out_formal pous c p = formal_named p.formal (in_outs_of pous c)

-- an ENO among the outputs
abbrev pub is_eno : PinOut → Bool
is_eno o = same_name o.formal (codes "ENO")

-- how many outputs a block lists beside ENO
abbrev pub result_count : List PinOut → ℕ
result_count outputs = length (filter (λ (o : PinOut). not (is_eno o)) outputs)

-- at a function an output is OUT, whatever its name, where it is the only one beside ENO or has no name
abbrev pub is_result : List PinOut → PinOut → Bool
is_result outputs o = not (is_eno o) && (nat_eq (result_count outputs) 1 || is_empty o.formal)

-- the name that a listed output stands for, at a function or another block
abbrev pub output_name : (function : Bool) → List PinOut → PinOut → List ℕ
output_name function outputs o = if function && is_result outputs o then codes "OUT" else o.formal

-- the callee is a function
abbrev pub is_function : Callee → Bool
is_function (callee.Function f) = true
is_function (callee.Standard k) = false
is_function (callee.Block place) = false

-- the formal parameter that a listed output stands for
abbrev pub output_formal : List Pou → Callee → List PinOut → PinOut → Option Formal
output_formal pous c outputs o = formal_named (output_name (is_function c) outputs o) (enabled ∷ outputs_of pous c)
