use Rattle.std.proofs.Common.{◌≡◌, ◌++◌, drop, map}
use Rattle.std.specs.List.{flat_map}
use Rattle.plcx_drawn.specs.Shown.{shown_element}
use Rattle.plcx_cover.specs.Listed.{shown_wire}
use Rattle.plcx_cover.specs.Wires.{element_wires}
use Rattle.plcx_cover.proofs.listing.with_elements.Given as goal

abbrev pub invariant-loop-element : goal.invariant-loop-element
invariant-loop-element l =
    map shown_wire l.all.items ++ flat_map (element_wires l.pou l.name) (map shown_element (drop l.element-index l.elements))
    ≡ map shown_wire l.initial.all.items ++ flat_map (element_wires l.pou l.name) (map shown_element l.elements)
