use Rattle.std.proofs.Common.{◌≡◌, map, drop}
use Rattle.plcx_meaning.specs.Templates.{link_text, compared}
use Rattle.plcx_st.specs.Meant.{expr_meant, op_meant}
use Rattle.plcx_st.specs.InRange.{ExpressionInRange}
use Rattle.plcx_drawn.specs.Shown.{shown_link}
use Rattle.plcx_lower.proofs.functions.compared.Given as goal

-- what is compared so far, and the inputs that are left behind the last one
abbrev pub invariant-loop-input : goal.invariant-loop-input
invariant-loop-input l =
    ExpressionInRange (link_text (shown_link l.last))
    × (compared (op_meant l.op) (expr_meant l.value) (link_text (shown_link l.last)) (map link_text (map shown_link (drop l.input-index l.inputs)))
    ≡ compared (op_meant l.op) (expr_meant l.fn.so_far) (link_text (shown_link l.fn.before)) (map link_text (map shown_link l.inputs)))
