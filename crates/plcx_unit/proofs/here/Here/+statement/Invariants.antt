use Rattle.std.proofs.Common.{◌≡◌, [], drop, take, map}
use Rattle.plcx_conditions.specs.First.{sooner, first_of}
use Rattle.plcx_conditions.specs.Placed as placed
use Rattle.plcx_conditions.specs.Places.{placed_statement}
use Rattle.plcx_conditions.specs.Statements.{broken_in_statements, broken_in_arms}
use Rattle.plcx_unit.specs.Pieces.{setting_of, placed_labelled, AreLabels}
use Rattle.plcx_unit.specs.Rest.{rest_statements, label_of, rest_arms}
use Rattle.plcx_unit.proofs.here.Here.+statement.Given as goal

abbrev pub invariant-statements-loop-s : goal.invariant-statements-loop-s
invariant-statements-loop-s l =
    sooner l.first (first_of (rest_statements (setting_of l.self) l.s-index (drop l.s-index l.body))) ≡ first_of (broken_in_statements (setting_of l.self) (placed.statements (map placed_statement l.body)))

abbrev pub invariant-arms-loop-arm : goal.invariant-arms-loop-arm
invariant-arms-loop-arm l =
    AreLabels (map label_of (take l.arm-index l.arms)) l.labels.keys
    × (sooner l.first (first_of (rest_arms (setting_of l.self) l.arms l.arm-index (drop l.arm-index l.arms))) ≡ first_of (broken_in_arms (setting_of l.self) [] (placed.arms (map placed_labelled l.arms))))
