-- The graph of a body: which elements, keys and connections it has, and how they are numbered.
use Rattle.std.specs.Prelude.{◌≡◌, ℕ, ◌+◌, ◌<◌, ◌^◌, Bool, true, false, Option, Some, None, List, [], ◌∷◌, ◌++◌, length, map, take, drop, zero, suc}
use Rattle.plcx_types.specs.Lists.{Each}
use Rattle.plcx_model.specs.declared.body.Kind.{Kind}
use Rattle.plcx_model.specs.declared.body.Kind.TheVariants as kind
use Rattle.plcx_model.specs.declared.body.BodyElement.{BodyElement}
use Rattle.plcx_model.specs.declared.key.Key.{Key}
use Rattle.plcx_model.specs.declared.source.Source.{Source}
use Rattle.plcx_model.specs.declared.source.Wire.{Wire}
use Rattle.plcx_model.specs.Graph.{Graph}

-- an `executionOrderId` of 0 gives no order
abbrev pub given : Option ℕ → Option ℕ
given None = None
given (Some zero) = None
given (Some (suc n)) = Some (suc n)

abbrev pub key_of : BodyElement → Key
key_of e = record { order = given e.order; y = e.y; x = e.x; local_id = e.local_id }

-- rails and skipped elements take no part in networks
abbrev pub kind_takes_part : Kind → Bool
kind_takes_part kind.Skipped = false
kind_takes_part kind.LeftRail = false
kind_takes_part (kind.RightRail input) = false
kind_takes_part (kind.Contact input text mods) = true
kind_takes_part (kind.Coil input text mods) = true
kind_takes_part (kind.In text mods) = true
kind_takes_part (kind.Out input text mods) = true
kind_takes_part (kind.Block type_name instance inputs in_outs outputs) = true
kind_takes_part (kind.Connector name input) = true
kind_takes_part (kind.Continuation name) = true
kind_takes_part (kind.Label name) = true
kind_takes_part (kind.Jump label input) = true
kind_takes_part (kind.Return input) = true

-- how many input pins an element has; a block's in-out pins come after its input pins, and a continuation has one pin
abbrev pub pins_of : Kind → ℕ
pins_of kind.Skipped = 0
pins_of kind.LeftRail = 0
pins_of (kind.RightRail input) = 1
pins_of (kind.Contact input text mods) = 1
pins_of (kind.Coil input text mods) = 1
pins_of (kind.In text mods) = 0
pins_of (kind.Out input text mods) = 1
pins_of (kind.Block type_name instance inputs in_outs outputs) = length inputs + length in_outs
pins_of (kind.Connector name input) = 1
pins_of (kind.Continuation name) = 1
pins_of (kind.Label name) = 0
pins_of (kind.Jump label input) = 1
pins_of (kind.Return input) = 1

-- the connections at pin p of element e, in the order of the sources
abbrev pub wires_at_pin : ℕ → ℕ → List Source → List Wire
wires_at_pin e p sources = map (λ (s : Source). record { from = s; to = record { element = e; pin = p } }) sources

-- the connections at the pins of element e from pin p on
abbrev pub wires_at_pins : ℕ → ℕ → List (List Source) → List Wire
wires_at_pins e p [] = []
wires_at_pins e p (sources ∷ pins) = wires_at_pin e p sources ++ wires_at_pins e (p + 1) pins

-- the connections at the elements from number e on, by element, then by pin, then by place
abbrev pub wires_from : ℕ → List BodyElement → List (List Source) → List Wire
wires_from e [] pins = []
wires_from e (x ∷ xs) pins = wires_at_pins e 0 (take (pins_of x.kind) pins) ++ wires_from (e + 1) xs (drop (pins_of x.kind) pins)

-- the graph of a body, whose input pins have these sources
abbrev pub body_graph : List BodyElement → List (List Source) → Graph
body_graph es pins = record { keys = map key_of es; parts = map (λ (e : BodyElement). kind_takes_part e.kind) es; wires = wires_from 0 es pins }

-- how many input pins these elements have
abbrev pub pins_in : List BodyElement → ℕ
pins_in [] = 0
pins_in (e ∷ es) = pins_of e.kind + pins_in es

-- no two elements have one localId
abbrev pub LocalIdsDiffer : List BodyElement → Type 0
LocalIdsDiffer [] = Unit {0}
LocalIdsDiffer (e ∷ es) = Each (λ (f : BodyElement). e.local_id ≡ f.local_id → ⊥) es × LocalIdsDiffer es

-- each source is an element of the body, there is a list of sources for each input pin, and numbers fit
pub record HasGraph (es : List BodyElement) (pins : List (List Source)) : Type 0 where
  pub count : length es < 2 ^ 32
  pub each_count : Each (λ (e : BodyElement). pins_of e.kind < 2 ^ 32) es
  pub each_pin : pins_in es ≡ length pins
  pub within : Each (Each (λ (s : Source). s.element < length es)) pins
  pub differ : LocalIdsDiffer es
