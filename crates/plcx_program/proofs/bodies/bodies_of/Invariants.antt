use Rattle.std.proofs.Common.{List, take, map}
use Rattle.plcx_model.specs.declared.project.Pou.{Pou}
use Rattle.plcx_drawn.specs.Pous.{shown_pou}
use Rattle.plcx_program.specs.Bodies.{AreTablesOf, HasBodies}
use Rattle.plcx_program.proofs.bodies.bodies_of.Given as goal

abbrev pub invariant-loop-place : goal.invariant-loop-place
invariant-loop-place l = (pous : List Pou) → AreTablesOf (map (shown_pou pous) l.drawings) l.tables.tables.now → HasBodies (map (shown_pou pous) l.drawings) (map (shown_pou pous) (take l.place l.drawings)) l.all
