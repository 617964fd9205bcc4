use Rattle.std.proofs.Common.{◌≡◌, map, drop}
use Rattle.plcx_meaning.specs.Templates.{source_text, or_text}
use Rattle.plcx_st.specs.Meant.{expr_meant}
use Rattle.plcx_drawn.specs.Shown.{shown_source}
use Rattle.plcx_lower.proofs.expressions.joined.Given as goal

-- what is joined so far, and the sources that are left
abbrev pub invariant-loop-other : goal.invariant-loop-other
invariant-loop-other l =
    or_text (expr_meant l.value) (map (source_text l.ty) (map shown_source (drop l.other-index l.others)))
    ≡ or_text (expr_meant l.fn.first) (map (source_text l.ty) (map shown_source l.others))
