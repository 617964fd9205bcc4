use Rattle.std.proofs.Common.{◌≡◌, ◌++◌, map, drop}
use Rattle.plcx_types.specs.Lists.{Each}
use Rattle.plcx_meaning.specs.Templates.{elements_text}
use Rattle.plcx_st.specs.Meant.{stmt_meant}
use Rattle.plcx_st.specs.InRange.{StatementInRange}
use Rattle.plcx_drawn.specs.Shown.{shown_network}
use Rattle.plcx_lower.proofs.body.Body.put_network.Given as goal

-- the statements so far, and those of the places that are left
abbrev pub invariant-loop-place : goal.invariant-loop-place
invariant-loop-place l =
    Each StatementInRange (elements_text (shown_network l.drawing (drop l.place-index l.places)))
    × (map stmt_meant l.self.statements.items ++ elements_text (shown_network l.drawing (drop l.place-index l.places))
    ≡ map stmt_meant l.fn.self.statements.items ++ elements_text (shown_network l.drawing l.places))
