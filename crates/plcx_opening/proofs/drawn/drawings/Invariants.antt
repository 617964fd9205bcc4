use Rattle.std.proofs.Common.{◌≡◌, map, take}
use Rattle.plcx_drawn.specs.Pous.{shown_pou}
use Rattle.plcx_view.specs.Diagrams.{diagrams_of}
use Rattle.plcx_opening.proofs.drawn.drawings.Given as goal

-- the drawings of the POUs so far
abbrev pub invariant-loop-place : goal.invariant-loop-place
invariant-loop-place l = map (shown_pou l.checked.project.pous) l.drawings.items ≡ take l.place (diagrams_of l.checked.project l.checked.links l.checked.types l.checked.plan)
