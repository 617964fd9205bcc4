use Rattle.std.proofs.Common.{◌≡◌, ◌++◌, map, drop}
use Rattle.plcx_meaning.specs.Tree.{arms}
use Rattle.plcx_meaning.specs.Templates.{arms_text}
use Rattle.plcx_drawn.specs.Shown.{shown_network, shown_networks}
use Rattle.plcx_st.specs.InRange.{ArmsInRange}
use Rattle.plcx_st.specs.Printer.{arm_meant}
use Rattle.plcx_jump.proofs.bodies.arms.Given as goal

-- the arms so far, and those of the networks that are left
abbrev pub invariant-loop-number : goal.invariant-loop-number
invariant-loop-number l = record {
  made : map arm_meant l.arms.items ++ arms_text (shown_networks l.drawing) l.number (map (shown_network l.drawing) (drop l.number l.network-items)) ≡ arms_text (shown_networks l.drawing) 0 (shown_networks l.drawing);
  range : ArmsInRange (arms (arms_text (shown_networks l.drawing) l.number (map (shown_network l.drawing) (drop l.number l.network-items))));
}
