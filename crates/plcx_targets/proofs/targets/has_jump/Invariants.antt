use Rattle.std.proofs.Common.{◌≡◌, drop, map}
use Rattle.plcx_meaning.specs.Diagram.{has_jump}
use Rattle.plcx_drawn.specs.Shown.{shown_network, shown_networks}
use Rattle.plcx_targets.proofs.targets.has_jump.Given as goal

-- none so far jumps
abbrev pub invariant-loop-network : goal.invariant-loop-network
invariant-loop-network l = has_jump (map (shown_network l.drawing) (drop l.network-index l.network-items)) ≡ has_jump (shown_networks l.drawing)
