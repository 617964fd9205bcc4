-- What stands at the input pins of an element.
use Rattle.std.specs.Prelude.{ℕ, ℤ, pos, Bool, true, false, List, [], ◌∷◌, Option, Some, None, map, slice_get}
use Rattle.plcx_types.specs.declared.ty.Ty.{Ty}
use Rattle.plcx_types.specs.declared.ty.Ty.TheVariants as ty
use Rattle.plcx_meaning.specs.Diagram.{Source, Rail, Literal, Wire, Back, Link}
use Rattle.plcx_model.specs.declared.body.PinOut.{PinOut}
use Rattle.plcx_model.specs.declared.body.Kind.{Kind}
use Rattle.plcx_model.specs.declared.body.Kind.TheVariants as kind
use Rattle.plcx_model.specs.declared.body.BodyElement.{BodyElement}
use Rattle.plcx_model.specs.declared.project.Pou.{Pou}
use Rattle.plcx_rules.specs.declared.callee.Callee.{Callee}
use Rattle.plcx_rules.specs.Callees.{Formal, callee_named, output_formal}
use Rattle.plcx_rules.specs.Helds.{text_held}
use Rattle.plcx_view.specs.Pins.{Feed, Pin}
use Rattle.plcx_view.specs.Operands.{literal_by}

-- ---- outputs

-- the name of a formal parameter as it is declared; ENO and OUT are spelled so whatever the file writes
abbrev pub declared_name : Option Formal → List ℕ
declared_name None = []
declared_name (Some f) = f.name

-- the name of a listed output, where there is one
abbrev pub listed_name : List Pou → Callee → List PinOut → Option PinOut → List ℕ
listed_name pous c outputs None = []
listed_name pous c outputs (Some o) = declared_name (output_formal pous c outputs o)

-- the name of the output at a place among the listed ones
abbrev pub name_among : List Pou → Option Callee → List PinOut → ℕ → List ℕ
name_among pous None outputs pin = []
name_among pous (Some c) outputs pin = listed_name pous c outputs (slice_get outputs pin)

-- the name of an output of an element, which is empty but at a block
abbrev pub port_name : List Pou → Kind → ℕ → List ℕ
port_name pous (kind.Block type_name instance inputs in_outs outputs) pin = name_among pous (callee_named pous type_name) outputs pin
port_name pous _ pin = []

-- ---- sources

-- an output that feeds back, or one that is fixed before
abbrev pub wired_to : (back : Bool) → ℕ → List ℕ → Source
wired_to true id pin = Back id pin
wired_to false id pin = Wire id pin

-- a literal, or else another source
abbrev pub literal_or : (negated : Bool) → Option ℤ → Source → Source
literal_or negated None other = other
literal_or negated (Some n) other = Literal negated n

-- what the output of an element gives that has this number and kind; back says whether the connection feeds back
abbrev pub given_by : List Pou → Pou → (id : ℕ) → Kind → (pin : ℕ) → (back : Bool) → Source
given_by pous p id kind.LeftRail pin back = Rail
given_by pous p id (kind.In text mods) pin back = literal_or mods.negated (literal_by (text_held pous p text)) (wired_to back id [])
given_by pous p id k pin back = wired_to back id (port_name pous k pin)

-- what the element that was found gives at the output of this place
abbrev pub found_gives : List Pou → Pou → Option BodyElement → (pin : ℕ) → (back : Bool) → Source
found_gives pous p None pin back = Rail
found_gives pous p (Some e) pin back = given_by pous p e.local_id e.kind pin back

-- a source of a pin
abbrev pub source_of : List Pou → Pou → Feed → Source
source_of pous p feed = found_gives pous p (slice_get p.body.elements feed.0.element) feed.0.pin feed.1

-- ---- links

-- a link by its sources; where there is none it is FALSE or 0
abbrev pub link_by : Ty → (negated : Bool) → List Source → Link
link_by t negated [] = record { ty = t; negated = negated; first = Literal false (pos 0); others = [] }
link_by t negated (s ∷ ss) = record { ty = t; negated = negated; first = s; others = ss }

-- what stands at a pin
abbrev pub link_of : List Pou → Pou → (negated : Bool) → Pin → Link
link_of pous p negated pin = link_by pin.ty negated (map (source_of pous p) pin.feeds)

-- what stands at the one pin of an element
abbrev pub link_at : List Pou → Pou → List Pin → Link
link_at pous p [] = link_by ty.Bool false []
link_at pous p (pin ∷ pins) = link_of pous p false pin
