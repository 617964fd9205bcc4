use Rattle.std.proofs.Common.{◌≡◌, ◌++◌, drop, map}
use Rattle.std.specs.List.{flat_map}
use Rattle.plcx_conditions.specs.Placed.{declared_in}
use Rattle.plcx_conditions.specs.Places.{placed_block}
use Rattle.plcx_known.specs.Unit.{bare_of}
use Rattle.plcx_known.specs.Owned.{typed, shown_own}
use Rattle.plcx_known.proofs.owner.variables_of.Given as goal

abbrev pub invariant-loop-block : goal.invariant-loop-block
invariant-loop-block l =
    map shown_own l.found.items ++ map (typed (bare_of l.pous)) (flat_map declared_in (map placed_block (drop l.block-index l.blocks)))
    ≡ map (typed (bare_of l.pous)) (flat_map declared_in (map placed_block l.blocks))
