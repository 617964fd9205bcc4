use Rattle.std.proofs.Common.{◌≡◌, ◌++◌, map, drop}
use Rattle.plcx_types.specs.Lists.{Each}
use Rattle.plcx_meaning.specs.Templates.{straight_text}
use Rattle.plcx_st.specs.Meant.{stmt_meant}
use Rattle.plcx_st.specs.InRange.{StatementInRange}
use Rattle.plcx_drawn.specs.Shown.{shown_network, shown_networks}
use Rattle.plcx_lower.proofs.network.lower_networks.Given as goal

-- the statements so far, and those of the networks that are left
abbrev pub invariant-loop-network : goal.invariant-loop-network
invariant-loop-network l =
    Each StatementInRange (straight_text (map (shown_network l.drawing) (drop l.network-index l.network-items)))
    × (map stmt_meant l.body.statements.items ++ straight_text (map (shown_network l.drawing) (drop l.network-index l.network-items))
    ≡ straight_text (shown_networks l.drawing))
