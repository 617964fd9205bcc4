use Rattle.std.proofs.Common.{◌≡◌, ◌++◌, List, drop, map}
use Rattle.plcx_drawn.specs.Pous.{shown_pou}
use Rattle.plcx_model.specs.declared.project.Pou.{Pou}
use Rattle.plcx_cover.specs.Listed.{shown_wire}
use Rattle.plcx_cover.specs.Wires.{pous_wires, wires_of}
use Rattle.plcx_cover.proofs.listing.wires_of.Given as goal

-- what is listed so far, and what is left
abbrev pub invariant-loop-drawing : goal.invariant-loop-drawing
invariant-loop-drawing l = (pous : List Pou)
    → map shown_wire l.all.items ++ pous_wires l.place (map (shown_pou pous) (drop l.drawing-index l.drawings)) ≡ wires_of (map (shown_pou pous) l.drawings)
