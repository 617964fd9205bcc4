-- The rule on how much there may be: what is counted in the elements up to one, and how much of it is too much.
use Rattle.std.specs.Prelude.{◌+◌, Bool, ◌||◌, ◌≤◌, nat_lt, List, [], ◌∷◌}
use Rattle.plcx_types.specs.Limits.{max_pous, max_variables, max_elements, max_connections, max_pin_connections, max_pins}
use Rattle.plcx_table.specs.declared.row.Row.TheVariants.{Program, FunctionBlock, Variable, Diagram, Comment, Vendor, Block, InputPins, InOutPins, InputPin, InOutPin, PointIn, Connection, RailConnection}
use Rattle.plcx_table.specs.declared.row.Row.TheVariants.{InVariable, OutVariable, Contact, Coil, Connector, Continuation, Label, Jump, Return, LeftRail, RightRail}
use Rattle.plcx_table.specs.declared.row.Fate.{Fate}
use Rattle.plcx_table.specs.declared.row.Fate.TheVariants.{Read, Skipped}
use Rattle.plcx_table.specs.declared.limits.Counts.{Counts}
use Rattle.plcx_table.specs.Walk.{Item}

-- what is counted before the first element
abbrev pub no_counts : Counts
no_counts = record { pous = 0; variables = 0; elements = 0; connections = 0; pin_connections = 0; pins = 0 }

-- variables are counted in their POU
abbrev pub with_pou : Counts → Counts
with_pou c = record c { pous = c.pous + 1; variables = 0 }

-- elements and connections in their body
abbrev pub with_body : Counts → Counts
with_body c = record c { elements = 0; connections = 0 }

-- an element of a body
abbrev pub with_element : Counts → Counts
with_element c = record c { elements = c.elements + 1 }

-- a pin of a list of inputs or in-outs
abbrev pub with_pin : Counts → Counts
with_pin c = record c { pins = c.pins + 1 }

-- what is counted once an element of this fate has come
abbrev pub with_fate : Fate → Counts → Counts
with_fate (Read Program) c = with_pou c
with_fate (Read FunctionBlock) c = with_pou c
with_fate (Read Variable) c = record c { variables = c.variables + 1 }
with_fate (Read Diagram) c = with_body c
with_fate (Read Block) c = with_element c
with_fate (Read InVariable) c = with_element c
with_fate (Read OutVariable) c = with_element c
with_fate (Read Contact) c = with_element c
with_fate (Read Coil) c = with_element c
with_fate (Read Connector) c = with_element c
with_fate (Read Continuation) c = with_element c
with_fate (Read Label) c = with_element c
with_fate (Read Jump) c = with_element c
with_fate (Read Return) c = with_element c
with_fate (Read LeftRail) c = with_element c
with_fate (Read RightRail) c = with_element c
with_fate (Skipped Comment) c = with_element c
with_fate (Skipped Vendor) c = with_element c
with_fate (Read InputPins) c = record c { pins = 0 }
with_fate (Read InOutPins) c = record c { pins = 0 }
with_fate (Read InputPin) c = with_pin c
with_fate (Read InOutPin) c = with_pin c
with_fate (Read PointIn) c = record c { pin_connections = 0 }
with_fate (Read Connection) c = record c { connections = c.connections + 1; pin_connections = c.pin_connections + 1 }
with_fate (Read RailConnection) c = record c { connections = c.connections + 1 }
with_fate _ c = c

-- what is counted in these items, of which the last comes first
abbrev pub counts_in : List Item → Counts
counts_in [] = no_counts
counts_in (x ∷ before) = with_fate x.fate (counts_in before)

-- there is more of something than there may be
unfoldable pub is_too_much : Counts → Bool
is_too_much c = nat_lt max_pous c.pous || nat_lt max_variables c.variables || nat_lt max_elements c.elements || nat_lt max_connections c.connections
    || nat_lt max_pin_connections c.pin_connections || nat_lt max_pins c.pins

-- up to this element there is too much: the first such is the one that is too many
abbrev pub breaks_limits : List Item → Item → Bool
breaks_limits before x = is_too_much (counts_in (x ∷ before))

-- Serves proofs: there is not too much of anything.
pub record IsFew (c : Counts) : Type 0 where
  pub pous : c.pous ≤ max_pous
  pub variables : c.variables ≤ max_variables
  pub elements : c.elements ≤ max_elements
  pub connections : c.connections ≤ max_connections
  pub pin_connections : c.pin_connections ≤ max_pin_connections
  pub pins : c.pins ≤ max_pins
