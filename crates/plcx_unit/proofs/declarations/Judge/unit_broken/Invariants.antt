use Rattle.std.proofs.Common.{◌≡◌, drop}
use Rattle.plcx_conditions.specs.First.{sooner, first_of}
use Rattle.plcx_conditions.specs.Declarations.{broken_in}
use Rattle.plcx_known.specs.Unit.{placed_of}
use Rattle.plcx_unit.specs.Rest.{rest_pous}
use Rattle.plcx_unit.proofs.declarations.Judge.unit_broken.Given as goal

abbrev pub invariant-loop-place : goal.invariant-loop-place
invariant-loop-place l = sooner l.first (first_of (rest_pous l.pous l.place (drop l.place l.pous))) ≡ first_of (broken_in (placed_of l.pous))
