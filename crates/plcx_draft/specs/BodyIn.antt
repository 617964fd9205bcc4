-- The body that an element of a POU stands for, whether it breaks a rule or not.
use Rattle.std.specs.Prelude.{ℕ, ℤ, pos, Bool, true, false, ◌||◌, List, [], Option, Some, None, codes, option_map, option_and_then, if◌then◌else◌}
use Rattle.std.specs.List.{flat_map}
use Rattle.std.specs.Str.{bytes_eq}
use Rattle.plcx_model.specs.declared.body.Edge.{Edge}
use Rattle.plcx_model.specs.declared.body.Edge.TheVariants as edge
use Rattle.plcx_model.specs.declared.body.Storage.{Storage}
use Rattle.plcx_model.specs.declared.body.Storage.TheVariants as storage
use Rattle.plcx_model.specs.declared.body.Mods.{Mods}
use Rattle.plcx_model.specs.declared.body.Connection.{Connection}
use Rattle.plcx_model.specs.declared.body.PinIn.{PinIn}
use Rattle.plcx_model.specs.declared.body.PinOut.{PinOut}
use Rattle.plcx_model.specs.declared.body.Kind.{Kind}
use Rattle.plcx_model.specs.declared.body.Kind.TheVariants as kind
use Rattle.plcx_model.specs.declared.body.BodyElement.{BodyElement}
use Rattle.plcx_model.specs.declared.body.Body.{Body}
use Rattle.plcx_table.specs.declared.row.Row.{Row}
use Rattle.plcx_table.specs.declared.row.Row.TheVariants.{Diagram, Block, InVariable, OutVariable, Contact, Coil, Connector, Continuation, Label, Jump, Return, LeftRail, RightRail}
use Rattle.plcx_table.specs.declared.row.Fate.{Fate}
use Rattle.plcx_table.specs.declared.row.Fate.TheVariants.{Read, Skipped}
use Rattle.plcx_table.specs.Constructs.{attribute_of, number_at}
use Rattle.plcx_table.specs.Number.{number_of, coordinate_of}
use Rattle.plcx_table.specs.Walk.{first, values_of, fate_for}
use Rattle.plcx_xml.specs.Look.{name_of, children_of}
use Rattle.plcx_xml.specs.declared.tree.Node.{Node, out-Node}
use Rattle.plcx_xml.specs.declared.tree.Node.TheOpen.{Node-F}
use Rattle.plcx_xml.specs.declared.tree.Element.{Element}
use Rattle.plcx_draft.specs.Parts.{parts_of, parts_in, first_part, first_child, text_under}

-- an attribute that says yes
unfoldable pub is_marked : List ℕ → Element → Bool
is_marked name e = bytes_eq (attribute_of name e) (codes "true") || bytes_eq (attribute_of name e) (codes "1")

-- `rising`, `falling`, or none
unfoldable pub edge_in : List ℕ → Edge
edge_in text = if bytes_eq text (codes "rising") then edge.Rising else (if bytes_eq text (codes "falling") then edge.Falling else edge.Plain)

-- `set`, `reset`, or none
unfoldable pub storage_in : List ℕ → Storage
storage_in text = if bytes_eq text (codes "set") then storage.Set else (if bytes_eq text (codes "reset") then storage.Reset else storage.Plain)

-- the modifiers of an element or a pin
unfoldable pub modifiers_in : Element → Mods
modifiers_in e = record { negated = is_marked (codes "negated") e; edge = edge_in (attribute_of (codes "edge") e); storage = storage_in (attribute_of (codes "storage") e) }

-- a connection, if the element is one
unfoldable pub connection_in : Element → Option Connection
connection_in e = if bytes_eq (name_of e) (codes "connection")
    then Some (record { element = number_at (codes "refLocalId") e; formal = attribute_of (codes "formalParameter") e }) else None

-- the connections of an element's or a pin's input point
unfoldable pub input_of : Element → List Connection
input_of e = parts_in connection_in (first_child (codes "connectionPointIn") e)

-- the connections of one point of a right rail
abbrev pub rail_point : Node-F Node Element → List Connection
rail_point (Node-F.Element e) = if bytes_eq (name_of e) (codes "connectionPointIn") then parts_of connection_in e else []
rail_point (Node-F.Text t) = []

-- the connections of all points of a right rail
unfoldable pub rail_input : Element → List Connection
rail_input e = flat_map (λ (n : Node). rail_point (out-Node n)) (children_of e)

-- a pin with its connections, if the element is one
unfoldable pub input_pin : Element → Option PinIn
input_pin e = if bytes_eq (name_of e) (codes "variable")
    then Some (record { formal = attribute_of (codes "formalParameter") e; mods = modifiers_in e; input = input_of e }) else None

-- an output pin, if the element is one
unfoldable pub output_pin : Element → Option PinOut
output_pin e = if bytes_eq (name_of e) (codes "variable") then Some (record { formal = attribute_of (codes "formalParameter") e; mods = modifiers_in e }) else None

-- an empty text is none
abbrev pub nonempty : List ℕ → Option (List ℕ)
nonempty text = if bytes_eq text [] then None else Some text

-- a block with its pins in their order
unfoldable pub block_in : Element → Kind
block_in e = kind.Block (attribute_of (codes "typeName") e) (nonempty (attribute_of (codes "instanceName") e))
    (parts_in input_pin (first_child (codes "inputVariables") e)) (parts_in input_pin (first_child (codes "inOutVariables") e))
    (parts_in output_pin (first_child (codes "outputVariables") e))

-- what an element is that is read as this row
unfoldable pub kind_in : Row → Element → Option Kind
kind_in Block e = Some (block_in e)
kind_in InVariable e = Some (kind.In (text_under (codes "expression") e) (modifiers_in e))
kind_in OutVariable e = Some (kind.Out (input_of e) (text_under (codes "expression") e) (modifiers_in e))
kind_in Contact e = Some (kind.Contact (input_of e) (text_under (codes "variable") e) (modifiers_in e))
kind_in Coil e = Some (kind.Coil (input_of e) (text_under (codes "variable") e) (modifiers_in e))
kind_in Connector e = Some (kind.Connector (attribute_of (codes "name") e) (input_of e))
kind_in Continuation e = Some (kind.Continuation (attribute_of (codes "name") e))
kind_in Label e = Some (kind.Label (attribute_of (codes "label") e))
kind_in Jump e = Some (kind.Jump (attribute_of (codes "label") e) (input_of e))
kind_in Return e = Some (kind.Return (input_of e))
kind_in LeftRail e = Some kind.LeftRail
kind_in RightRail e = Some (kind.RightRail (rail_input e))
kind_in _ e = None

-- a coordinate, or 0 where there is none
abbrev pub coordinate_or : Option ℤ → ℤ
coordinate_or None = pos 0
coordinate_or (Some n) = n

-- a coordinate of a position; without a position it is 0
abbrev pub coordinate_at : List ℕ → Option Element → ℤ
coordinate_at name None = pos 0
coordinate_at name (Some position) = coordinate_or (coordinate_of (attribute_of name position))

-- the order that it is given
unfoldable pub order_in : Element → Option ℕ
order_in e = option_and_then number_of (first (values_of (codes "executionOrderId") e))

-- an element with its number, order and position
abbrev pub placed_at : Element → Option Element → Kind → BodyElement
placed_at e position k = record {
  local_id = number_at (codes "localId") e;
  order = order_in e;
  x = coordinate_at (codes "x") position;
  y = coordinate_at (codes "y") position;
  kind = k;
}

-- what is skipped has no order and stands at 0
abbrev pub skipped : Element → BodyElement
skipped e = record { local_id = number_at (codes "localId") e; order = None; x = pos 0; y = pos 0; kind = kind.Skipped }

-- an element that is read or skipped
abbrev pub element_as : Option Fate → Element → Option BodyElement
element_as (Some (Read row)) e = option_map (placed_at e (first_child (codes "position") e)) (kind_in row e)
element_as (Some (Skipped row)) e = Some (skipped e)
element_as _ e = None

-- an element of a body, by what the table says of its name
unfoldable pub element_in : Element → Option BodyElement
element_in e = element_as (fate_for Diagram e) e

-- the elements of a diagram
abbrev pub body_of : Bool → Element → Body
body_of ladder e = record { ladder = ladder; elements = parts_of element_in e }

-- a diagram, if the element is one
unfoldable pub diagram_in : Element → Option Body
diagram_in e = if bytes_eq (name_of e) (codes "FBD") then Some (body_of false e) else (if bytes_eq (name_of e) (codes "LD") then Some (body_of true e) else None)

-- a body, or an empty one where there is none
abbrev pub body_or : Option Body → Body
body_or None = record { ladder = false; elements = [] }
body_or (Some b) = b

-- the body of a POU
unfoldable pub body_in : Element → Body
body_in pou = body_or (option_and_then (first_part diagram_in) (first_child (codes "body") pou))
