use Rattle.std.proofs.Common.{◌≡◌, map, take}
use Rattle.plcx_meaning.specs.Templates.{unit_of}
use Rattle.plcx_view.specs.Diagrams.{diagrams_of}
use Rattle.plcx_st.specs.Meant.{pou_meant}
use Rattle.plcx_jump.proofs.compiling.texts.Given as goal

-- the texts of the POUs so far
abbrev pub invariant-loop-place : goal.invariant-loop-place
invariant-loop-place l = map pou_meant l.texts.items ≡ take l.place (unit_of (diagrams_of l.checked.project l.checked.links l.checked.types l.checked.plan))
