use Rattle.std.proofs.Common.{◌≡◌, map, take}
use Rattle.plcx_types.specs.Lists.{Each}
use Rattle.plcx_state.specs.Layouts.{all_meant}
use Rattle.plcx_scan.specs.Rows.{shown_numbers}
use Rattle.plcx_tasks.proofs.running.shown_of.Given as goal

abbrev pub invariant-loop-side : goal.invariant-loop-side
invariant-loop-side g l = record {
  shown : l.all.items ≡ map (λ s. shown_numbers (g.S.Side.laid s).leaves) (take l.side-index l.sides);
  layout : Each (λ s. all_meant (g.S.Side.laid s).leaves ≡ (g.S.Side.machine s).layout) (take l.side-index l.sides);
}
