-- Serves proofs: what the code tests of pins and places.
use Rattle.std.specs.Prelude.{ℕ, Bool, false, not, List, Option, Some, None, is_none, nat_eq, nat_lt, length}
use Rattle.std.specs.List.{list_any}
use Rattle.plcx_model.specs.declared.body.Connection.{Connection}
use Rattle.plcx_model.specs.declared.body.BodyElement.{BodyElement}
use Rattle.plcx_model.specs.declared.body.Kind.{Kind}
use Rattle.plcx_model.specs.declared.body.Kind.TheVariants as kind
use Rattle.plcx_rules.specs.Sources.{place_of_id, source_of, connector_place}
use Rattle.plcx_names.specs.Bodies.{label_place}
use Rattle.plcx_link.specs.declared.references.PinFault.{PinFault}
use Rattle.plcx_link.specs.declared.references.PinFault.TheVariants as fault

-- the connections at a pin have that fault
abbrev pub pin_fails : List BodyElement → PinFault → List Connection → Bool
pin_fails elements fault.NoElement pin = list_any (λ (c : Connection). is_none (place_of_id elements c.element)) pin
pin_fails elements fault.NoOutput pin = list_any (λ (c : Connection). is_none (source_of elements c)) pin
pin_fails elements fault.Several pin = nat_lt 1 (length pin)

-- what was found stands at that place
abbrev pub stands_at : Option ℕ → ℕ → Bool
stands_at None place = false
stands_at (Some first) place = nat_eq first place

-- the first element with a localId isn't the one at that place
abbrev pub doubles_by : List BodyElement → ℕ → ℕ → Bool
doubles_by elements place id = not (stands_at (place_of_id elements id) place)

-- a connector at that place isn't the first of its name, or a continuation has none
abbrev pub connector_by : List BodyElement → ℕ → Kind → Bool
connector_by elements place (kind.Connector name input) = not (stands_at (connector_place elements name) place)
connector_by elements place (kind.Continuation name) = is_none (connector_place elements name)
connector_by elements place _ = false

-- a label at that place isn't the first of its name, or a jump has none
abbrev pub label_by : List BodyElement → ℕ → Kind → Bool
label_by elements place (kind.Label name) = not (stands_at (label_place elements name) place)
label_by elements place (kind.Jump label input) = is_none (label_place elements label)
label_by elements place _ = false
