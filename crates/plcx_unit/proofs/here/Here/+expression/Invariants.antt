use Rattle.std.proofs.Common.{map, take}
use Rattle.plcx_conditions.specs.Places.{placed_expression}
use Rattle.plcx_unit.specs.Pieces.{setting_of, AreJudged}
use Rattle.plcx_unit.proofs.here.Here.+expression.Given as goal

abbrev pub invariant-expressions-loop-x : goal.invariant-expressions-loop-x
invariant-expressions-loop-x l = AreJudged (setting_of l.self) (map placed_expression (take l.x-index l.args)) l.all
