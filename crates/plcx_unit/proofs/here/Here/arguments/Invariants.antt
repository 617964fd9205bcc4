use Rattle.std.proofs.Common.{◌≡◌, [], drop, map}
use Rattle.plcx_conditions.specs.First.{sooner, first_of}
use Rattle.plcx_conditions.specs.Places.{placed_argument}
use Rattle.plcx_conditions.specs.Statements.{parts_known, broken_in_arguments}
use Rattle.plcx_known.specs.Types.{meaning_of}
use Rattle.plcx_unit.specs.Pieces.{setting_of}
use Rattle.plcx_unit.specs.Rest.{rest_arguments}
use Rattle.plcx_unit.proofs.here.Here.arguments.Given as goal

abbrev pub invariant-loop-place : goal.invariant-loop-place
invariant-loop-place l =
    let s = setting_of l.self in
    let parts = parts_known (meaning_of s.unit l.ty) in
    sooner l.first (first_of (rest_arguments s parts l.args l.place (drop l.place l.args))) ≡ first_of (broken_in_arguments s parts [] (map placed_argument l.args))
