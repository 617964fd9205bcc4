-- Short words to write a project down.
use Rattle.std.specs.Prelude.{ℕ, pos, Bool, true, false, List, [], ◌∷◌, Option, Some, None, map, codes}
use Rattle.plcx_types.specs.declared.ty.Ty.TheVariants as ty
use Rattle.plcx_std.specs.declared.kind.StdKind.TheVariants as std
use Rattle.plcx_model.specs.declared.body.Edge.TheVariants as edge
use Rattle.plcx_model.specs.declared.body.Storage.TheVariants as storage
use Rattle.plcx_model.specs.declared.body.Mods.{Mods}
use Rattle.plcx_model.specs.declared.body.Connection.{Connection}
use Rattle.plcx_model.specs.declared.body.PinIn.{PinIn}
use Rattle.plcx_model.specs.declared.body.PinOut.{PinOut}
use Rattle.plcx_model.specs.declared.body.Kind.{Kind}
use Rattle.plcx_model.specs.declared.body.Kind.TheVariants as kind
use Rattle.plcx_model.specs.declared.body.BodyElement.{BodyElement}
use Rattle.plcx_model.specs.declared.broken.Place.{Place}
use Rattle.plcx_model.specs.declared.broken.Place.TheVariants as place
use Rattle.plcx_model.specs.declared.project.ListClass.{ListClass}
use Rattle.plcx_model.specs.declared.project.ListClass.TheVariants as class
use Rattle.plcx_model.specs.declared.project.PouKind.{PouKind}
use Rattle.plcx_model.specs.declared.project.PouKind.TheVariants.{Program, FunctionBlock}
use Rattle.plcx_model.specs.declared.project.VarTy.{VarTy}
use Rattle.plcx_model.specs.declared.project.VarTy.TheVariants as var
use Rattle.plcx_model.specs.declared.project.Variable.{Variable}
use Rattle.plcx_model.specs.declared.project.VarList.{VarList}
use Rattle.plcx_model.specs.declared.project.Pou.{Pou}

-- ---- declarations

-- a variable of a type
abbrev pub variable : List ℕ → VarTy → Variable
variable name t = record { name = name; address = None; ty = t; initial = None }

-- a variable of BOOL
abbrev pub boolean : List ℕ → Variable
boolean name = variable name (var.Plain ty.Bool)

-- a variable of INT
abbrev pub integer : List ℕ → Variable
integer name = variable name (var.Plain ty.Int)

-- a list that is neither constant nor retained
abbrev pub listed : ListClass → List Variable → VarList
listed class variables = record { class = class; constant = false; retain = false; variables = variables }

-- a POU by its parts
abbrev pub pou : PouKind → List ℕ → List VarList → Bool → List BodyElement → Pou
pou k name lists ladder elements = record { name = name; kind = k; lists = lists; body = record { ladder = ladder; elements = elements } }

-- the function block Inc, with the in-out V, the input D, the output Q and the local L
abbrev pub inc : Pou
inc = pou FunctionBlock (codes "Inc") (listed class.InOut (integer (codes "V") ∷ []) ∷ listed class.Input (integer (codes "D") ∷ [])
    ∷ listed class.Output (integer (codes "Q") ∷ []) ∷ listed class.Local (integer (codes "L") ∷ []) ∷ []) false []

-- the variables of Main: A, B, N, the timer T1, the instance K of Inc, the input I, the output O and the constant C
abbrev pub main_lists : List VarList
main_lists = listed class.Local (boolean (codes "A") ∷ boolean (codes "B") ∷ integer (codes "N") ∷ variable (codes "T1") (var.Std std.Ton) ∷ variable (codes "K") (var.Block 1) ∷ [])
    ∷ listed class.Input (boolean (codes "I") ∷ []) ∷ listed class.Output (boolean (codes "O") ∷ [])
    ∷ record { class = class.Local; constant = true; retain = false; variables = integer (codes "C") ∷ [] } ∷ []

-- a project of the program Main and the function block Inc
abbrev pub with_main : (ladder : Bool) → List BodyElement → List Pou
with_main ladder elements = pou Program (codes "Main") main_lists ladder elements ∷ inc ∷ []

-- a function block diagram as the body of Main
abbrev pub functions : List BodyElement → List Pou
functions elements = with_main false elements

-- a ladder diagram as the body of Main
abbrev pub ladder : List BodyElement → List Pou
ladder elements = with_main true elements

-- an element of Main
abbrev pub at : ℕ → Place
at id = place.Element (codes "Main") id

-- ---- modifiers

-- no modifier
abbrev pub mods : Mods
mods = record { negated = false; edge = edge.Plain; storage = storage.Plain }

-- a negation
abbrev pub negated : Mods
negated = record mods { negated = true }

-- a rising edge
abbrev pub rising : Mods
rising = record mods { edge = edge.Rising }

-- storage that sets
abbrev pub set : Mods
set = record mods { storage = storage.Set }

-- ---- elements

-- an element by its localId
abbrev pub element : ℕ → Kind → BodyElement
element id k = record { local_id = id; order = None; x = pos 0; y = pos 0; kind = k }

-- connections to these elements
abbrev pub to : List ℕ → List Connection
to ids = map (λ (id : ℕ). let c : Connection = record { element = id; formal = [] } in c) ids

-- a connection to an output of an element
abbrev pub to_output : ℕ → List ℕ → List Connection
to_output id name = record { element = id; formal = name } ∷ []

-- an inVariable
abbrev pub reads : ℕ → List ℕ → BodyElement
reads id text = element id (kind.In text mods)

-- an outVariable
abbrev pub writes : ℕ → List ℕ → List Connection → BodyElement
writes id text input = element id (kind.Out input text mods)

-- a contact
abbrev pub contact : ℕ → List ℕ → List Connection → BodyElement
contact id text input = element id (kind.Contact input text mods)

-- a coil
abbrev pub coil : ℕ → List ℕ → List Connection → BodyElement
coil id text input = element id (kind.Coil input text mods)

-- ---- blocks

-- an input or an in-out
abbrev pub pin : List ℕ → List Connection → PinIn
pin name input = record { formal = name; mods = mods; input = input }

-- a listed output
abbrev pub output : List ℕ → PinOut
output name = record { formal = name; mods = mods }

-- a block by its parts
abbrev pub block : ℕ → List ℕ → Option (List ℕ) → List PinIn → List PinIn → List PinOut → BodyElement
block id type_name instance inputs in_outs outputs = element id (kind.Block type_name instance inputs in_outs outputs)

-- a function
abbrev pub function : ℕ → List ℕ → List PinIn → List PinOut → BodyElement
function id type_name inputs outputs = block id type_name None inputs [] outputs

-- the timer T1
abbrev pub timer : ℕ → List PinIn → List PinOut → BodyElement
timer id inputs outputs = block id (codes "TON") (Some (codes "T1")) inputs [] outputs

-- the instance K of Inc, whose in-out V takes these connections
abbrev pub call : ℕ → List Connection → BodyElement
call id input = block id (codes "Inc") (Some (codes "K")) [] (pin (codes "V") input ∷ []) []
