use Rattle.std.proofs.Common.{◌≡◌, map, drop}
use Rattle.std.specs.List.{fold}
use Rattle.plcx_meaning.specs.Tree.{Binary}
use Rattle.plcx_meaning.specs.Templates.{link_text}
use Rattle.plcx_st.specs.Meant.{expr_meant, op_meant}
use Rattle.plcx_drawn.specs.Shown.{shown_link}
use Rattle.plcx_lower.proofs.functions.folded.Given as goal

-- what is joined so far, and the inputs that are left
abbrev pub invariant-loop-input : goal.invariant-loop-input
invariant-loop-input l =
    fold (Binary (op_meant l.op)) (expr_meant l.value) (map link_text (map shown_link (drop l.input-index l.inputs)))
    ≡ fold (Binary (op_meant l.op)) (expr_meant l.fn.first) (map link_text (map shown_link l.inputs))
