-- What the elements of a network have.
use Rattle.std.specs.Prelude.{◌≡◌, ◌++◌, List, map, max, pos}
use Rattle.std.specs.List.{flat_map}
use Rattle.plcx_types.specs.Value.{Value}
use Rattle.plcx_funcs.specs.Applied.{value}
use Rattle.plcx_meaning.specs.Diagram.{Port, ports, DiagramElement}
use Rattle.plcx_numbered.specs.Prepared.{Numbering}
use Rattle.plcx_numbered.specs.Right.{leaps}
use Rattle.plcx_numbered.specs.Numbers.{spare_wires}
use Rattle.plcx_numbered.specs.Programs.{jump_of}
use Rattle.plcx_bodies.specs.declared.parts.Parts.{Parts}

-- outputs at the defaults of their types
abbrev pub defaults : List Port → List Value
defaults os = map (λ (o : Port). value o.ty (pos 0)) os

-- and those of elements one after another
abbrev pub element_defaults : List DiagramElement → List Value
element_defaults es = defaults (flat_map (λ (e : DiagramElement). ports e.kind) es)

-- what elements add, in a body of these networks
pub record AddsParts (c : Numbering) (networks : List (List DiagramElement)) (es : List DiagramElement) (before after : Parts) : Type 0 where
  pub wires : after.wires.items ≡ before.wires.items ++ element_defaults es
  pub spare : after.spare ≡ max before.spare (spare_wires es)
  pub jumps : after.jumps.items ≡ before.jumps.items ++ map (jump_of c) (leaps networks es)

-- what they have
pub record ArePartsOf (c : Numbering) (networks : List (List DiagramElement)) (es : List DiagramElement) (parts : Parts) : Type 0 where
  pub wires : parts.wires.items ≡ element_defaults es
  pub spare : parts.spare ≡ spare_wires es
  pub jumps : parts.jumps.items ≡ map (jump_of c) (leaps networks es)
