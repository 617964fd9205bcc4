-- What the elements of a body are, in a diagram's words.
use Rattle.std.specs.Prelude.{Bool, true, false, List, length, drop, if◌then◌else◌}
use Rattle.std.specs.List.{zip}
use Rattle.plcx_meaning.specs.Diagram.{Storing, Stored, Inverted, Set, Reset, Contacting, Open, Closed, RisingContact, FallingContact, Coiling, By, RisingCoil, FallingCoil, ElementKind, Still, Out, Contact, Coil, Pass, Label, Jump, Return}
use Rattle.plcx_model.specs.declared.body.Edge.{Edge}
use Rattle.plcx_model.specs.declared.body.Edge.TheVariants as edge
use Rattle.plcx_model.specs.declared.body.Storage.{Storage}
use Rattle.plcx_model.specs.declared.body.Storage.TheVariants as storage
use Rattle.plcx_model.specs.declared.body.Mods.{Mods}
use Rattle.plcx_model.specs.declared.body.Kind.{Kind}
use Rattle.plcx_model.specs.declared.body.Kind.TheVariants as kind
use Rattle.plcx_model.specs.declared.project.Pou.{Pou}
use Rattle.plcx_rules.specs.Callees.{callee_named}
use Rattle.plcx_rules.specs.Helds.{text_held}
use Rattle.plcx_view.specs.Pins.{Pin}
use Rattle.plcx_view.specs.Operands.{operand_of, target_of, reading_by}
use Rattle.plcx_view.specs.Links.{link_at}
use Rattle.plcx_view.specs.Blocks.{block_by}

-- how a value is stored; negation stands without storage
abbrev pub storing_by : (negated : Bool) → Storage → Storing
storing_by true storage = Inverted
storing_by false storage.Plain = Stored
storing_by false storage.Set = Set
storing_by false storage.Reset = Reset

-- how an outVariable stores
abbrev pub storing_of : Mods → Storing
storing_of mods = storing_by mods.negated mods.storage

-- when and how a coil stores; an edge stands alone
abbrev pub coiling_by : Edge → Storing → Coiling
coiling_by edge.Plain how = By how
coiling_by edge.Rising how = RisingCoil
coiling_by edge.Falling how = FallingCoil

abbrev pub coiling_of : Mods → Coiling
coiling_of mods = coiling_by mods.edge (storing_of mods)

-- when a contact lets through
abbrev pub contacting_by : Edge → (negated : Bool) → Contacting
contacting_by edge.Plain negated = if negated then Closed else Open
contacting_by edge.Rising negated = RisingContact
contacting_by edge.Falling negated = FallingContact

abbrev pub contacting_of : Mods → Contacting
contacting_of mods = contacting_by mods.edge mods.negated

-- what an element is that has these input pins
abbrev pub kind_of : List Pou → Pou → List Pin → Kind → ElementKind
kind_of pous p pins kind.Skipped = Still
kind_of pous p pins kind.LeftRail = Still
kind_of pous p pins (kind.RightRail input) = Still
kind_of pous p pins (kind.Contact input text mods) = Contact (contacting_of mods) (operand_of pous p text) (link_at pous p pins)
kind_of pous p pins (kind.Coil input text mods) = Coil (coiling_of mods) (target_of pous p text) (link_at pous p pins)
kind_of pous p pins (kind.In text mods) = reading_by mods.negated (text_held pous p text)
kind_of pous p pins (kind.Out input text mods) = Out (storing_of mods) (target_of pous p text) (link_at pous p pins)
kind_of pous p pins (kind.Block type_name instance inputs in_outs outputs) =
    block_by pous p (callee_named pous type_name) instance inputs (zip inputs pins) (zip in_outs (drop (length inputs) pins)) outputs
kind_of pous p pins (kind.Connector name input) = Pass (link_at pous p pins)
kind_of pous p pins (kind.Continuation name) = Pass (link_at pous p pins)
kind_of pous p pins (kind.Label name) = Label name
kind_of pous p pins (kind.Jump label input) = Jump label (link_at pous p pins)
kind_of pous p pins (kind.Return input) = Return (link_at pous p pins)
