-- What the texts of an element lead to, and what it gives by them.
use Rattle.std.specs.Prelude.{ℕ, Bool, List, [], Option, Some, None, map, slice_get}
use Rattle.std.specs.Option.{option_map}
use Rattle.plcx_meaning.specs.Diagram.{Source, Rail}
use Rattle.plcx_model.specs.declared.body.PinOut.{PinOut}
use Rattle.plcx_model.specs.declared.body.Kind.{Kind}
use Rattle.plcx_model.specs.declared.body.Kind.TheVariants as kind
use Rattle.plcx_model.specs.declared.body.BodyElement.{BodyElement}
use Rattle.plcx_model.specs.declared.project.Pou.{Pou}
use Rattle.plcx_rules.specs.declared.callee.Callee.{Callee}
use Rattle.plcx_rules.specs.Callees.{Formal, callee_named, output_formal}
use Rattle.plcx_rules.specs.Helds.{Held, text_held}
use Rattle.plcx_names.specs.declared.formals.Formal as formals
use Rattle.plcx_names.specs.Seen.{shown_formal}
use Rattle.plcx_names.specs.SeenHelds.{shown_named}
use Rattle.plcx_view.specs.Operands.{literal_by}
use Rattle.plcx_view.specs.Links.{declared_name, wired_to, literal_or}
use Rattle.plcx_draw.specs.declared.known.Known.{Known}

-- an element with what its text holds, what it calls, and the formal parameters that its listed outputs stand for
pub record Looked : Type 0 where
  pub element : BodyElement
  pub held : Option Held
  pub callee : Option Callee
  pub outputs : List (Option Formal)

-- what the text of an element holds, where it has one that names a value
abbrev pub held_of : List Pou → Pou → Kind → Option Held
held_of pous p (kind.Contact input text mods) = text_held pous p text
held_of pous p (kind.Coil input text mods) = text_held pous p text
held_of pous p (kind.In text mods) = text_held pous p text
held_of pous p (kind.Out input text mods) = text_held pous p text
held_of pous p _ = None

-- what a block calls
abbrev pub callee_of : List Pou → Kind → Option Callee
callee_of pous (kind.Block type_name instance inputs in_outs outputs) = callee_named pous type_name
callee_of pous _ = None

-- the formal parameters that the listed outputs of a block stand for, by what it calls
abbrev pub formals_by : List Pou → Option Callee → List PinOut → List (Option Formal)
formals_by pous None outputs = []
formals_by pous (Some c) outputs = map (output_formal pous c outputs) outputs

-- the formal parameters that the listed outputs of an element stand for
abbrev pub formals_of : List Pou → Kind → List (Option Formal)
formals_of pous (kind.Block type_name instance inputs in_outs outputs) = formals_by pous (callee_named pous type_name) outputs
formals_of pous _ = []

-- an element with all of this
abbrev pub looked_up : List Pou → Pou → BodyElement → Looked
looked_up pous p e = record { element = e; held = held_of pous p e.kind; callee = callee_of pous e.kind; outputs = formals_of pous e.kind }

-- the name of an output, which is empty where there is none
abbrev pub output_text : Option (Option Formal) → List ℕ
output_text None = []
output_text (Some f) = declared_name f

-- what an element of this kind gives at an output, by what was found
abbrev pub gives_by : Looked → Kind → (pin : ℕ) → (back : Bool) → Source
gives_by l kind.LeftRail pin back = Rail
gives_by l (kind.In text mods) pin back = literal_or mods.negated (literal_by l.held) (wired_to back l.element.local_id [])
gives_by l _ pin back = wired_to back l.element.local_id (output_text (slice_get l.outputs pin))

-- what the element gives
abbrev pub gives : Looked → (pin : ℕ) → (back : Bool) → Source
gives l pin back = gives_by l l.element.kind pin back

-- ---- the code's

-- a formal parameter, where there is one
abbrev pub shown_output : Option formals.Formal → Option Formal
shown_output f = option_map shown_formal f

-- an element
abbrev pub shown_known : Known → Looked
shown_known k = record { element = k.element.now; held = option_map shown_named k.named; callee = k.callee; outputs = map shown_output k.outputs }
