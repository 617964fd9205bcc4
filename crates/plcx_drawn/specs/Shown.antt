-- What the elements of the code are among the diagrams that have a meaning.
use Rattle.std.specs.Prelude.{ℕ, List, map, slice_get}
use Rattle.std.specs.List.{filter_map}
use Rattle.std.specs.Option.{option_map}
use Rattle.plcx_meaning.specs.Diagram as diagram
use Rattle.plcx_meaning.specs.Diagram.{DiagramElement}
use Rattle.plcx_drawn.specs.declared.element.Source.{Source}
use Rattle.plcx_drawn.specs.declared.element.Source.TheVariants as source
use Rattle.plcx_drawn.specs.declared.element.Link.{Link}
use Rattle.plcx_drawn.specs.declared.element.Operand.{Operand}
use Rattle.plcx_drawn.specs.declared.element.Operand.TheVariants as operand
use Rattle.plcx_drawn.specs.declared.element.Storing.{Storing}
use Rattle.plcx_drawn.specs.declared.element.Storing.TheVariants as storing
use Rattle.plcx_drawn.specs.declared.element.Contacting.{Contacting}
use Rattle.plcx_drawn.specs.declared.element.Contacting.TheVariants as contacting
use Rattle.plcx_drawn.specs.declared.element.Coiling.{Coiling}
use Rattle.plcx_drawn.specs.declared.element.Coiling.TheVariants as coiling
use Rattle.plcx_drawn.specs.declared.element.Enable.{Enable}
use Rattle.plcx_drawn.specs.declared.element.InputPin.{InputPin}
use Rattle.plcx_drawn.specs.declared.element.InOutPin.{InOutPin}
use Rattle.plcx_drawn.specs.declared.element.OutputPin.{OutputPin}
use Rattle.plcx_drawn.specs.declared.element.ElementKind.{ElementKind}
use Rattle.plcx_drawn.specs.declared.element.ElementKind.TheVariants as kind
use Rattle.plcx_drawn.specs.declared.element.Port.{Port}
use Rattle.plcx_drawn.specs.declared.element.Element.{Element}
use Rattle.plcx_drawn.specs.declared.drawing.Drawing.{Drawing}

-- a source of a pin
abbrev pub shown_source : Source → diagram.Source
shown_source source.Rail = diagram.Rail
shown_source (source.Literal negated n) = diagram.Literal negated n
shown_source (source.Wire o) = diagram.Wire o.element o.pin.now
shown_source (source.Back o) = diagram.Back o.element o.pin.now

-- what stands at a pin
abbrev pub shown_link : Link → diagram.Link
shown_link l = record { ty = l.ty; negated = l.negated; first = shown_source l.first; others = map shown_source l.others }

-- what is read
abbrev pub shown_operand : Operand → diagram.Operand
shown_operand (operand.Own name) = diagram.Own name.now
shown_operand (operand.Output instance output) = diagram.Output instance.now output.now

-- how an outVariable stores
abbrev pub shown_storing : Storing → diagram.Storing
shown_storing storing.Stored = diagram.Stored
shown_storing storing.Inverted = diagram.Inverted
shown_storing storing.Set = diagram.Set
shown_storing storing.Reset = diagram.Reset

-- when a contact lets through
abbrev pub shown_contacting : Contacting → diagram.Contacting
shown_contacting contacting.Open = diagram.Open
shown_contacting contacting.Closed = diagram.Closed
shown_contacting contacting.Rising = diagram.RisingContact
shown_contacting contacting.Falling = diagram.FallingContact

-- when and how a coil stores
abbrev pub shown_coiling : Coiling → diagram.Coiling
shown_coiling (coiling.By how) = diagram.By (shown_storing how)
shown_coiling coiling.Rising = diagram.RisingCoil
shown_coiling coiling.Falling = diagram.FallingCoil

-- EN and ENO
abbrev pub shown_enable : Enable → diagram.Enable
shown_enable e = record { en = option_map shown_link e.en; eno = e.eno }

-- a connected input of an instance
abbrev pub shown_input_pin : InputPin → diagram.InputPin
shown_input_pin i = record { name = i.name.now; link = shown_link i.link }

-- an in-out of an instance
abbrev pub shown_in_out_pin : InOutPin → diagram.InOutPin
shown_in_out_pin i = record { name = i.name.now; variable = i.variable.now }

-- a listed output of an instance
abbrev pub shown_output_pin : OutputPin → diagram.OutputPin
shown_output_pin o = record { name = o.name.now; ty = o.ty; negated = o.negated }

-- what an element is
abbrev pub shown_kind : ElementKind → diagram.ElementKind
shown_kind kind.Still = diagram.Still
shown_kind (kind.In ty negated operand) = diagram.In ty negated (shown_operand operand)
shown_kind (kind.Out how variable link) = diagram.Out (shown_storing how) variable.now (shown_link link)
shown_kind (kind.Contact how operand link) = diagram.Contact (shown_contacting how) (shown_operand operand) (shown_link link)
shown_kind (kind.Coil how variable link) = diagram.Coil (shown_coiling how) variable.now (shown_link link)
shown_kind (kind.Pass link) = diagram.Pass (shown_link link)
shown_kind (kind.Label name) = diagram.Label name.now
shown_kind (kind.Jump label link) = diagram.Jump label.now (shown_link link)
shown_kind (kind.Return link) = diagram.Return (shown_link link)
shown_kind (kind.Function func ty enable inputs negated) = diagram.Function func ty (shown_enable enable) (map shown_link inputs) negated
shown_kind (kind.Call instance enable inputs in_outs outputs) =
    diagram.Call instance.now (shown_enable enable) (map shown_input_pin inputs) (map shown_in_out_pin in_outs) (map shown_output_pin outputs)

-- an output with its type
abbrev pub shown_port : Port → diagram.Port
shown_port p = record { pin = p.pin.now; ty = p.ty }

-- an element, with its outputs that feed back
abbrev pub shown_element : Element → DiagramElement
shown_element e = record { id = e.id; kind = shown_kind e.kind; fed = map shown_port e.fed }

-- the elements of a drawing, in the order of the file
abbrev pub shown_elements : Drawing → List DiagramElement
shown_elements d = map shown_element d.elements

-- the elements at these places, in this order
abbrev pub shown_network : Drawing → List ℕ → List DiagramElement
shown_network d places = filter_map (slice_get (shown_elements d)) places

-- the networks of a drawing
abbrev pub shown_networks : Drawing → List (List DiagramElement)
shown_networks d = map (shown_network d) d.networks.now
