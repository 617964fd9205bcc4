use Rattle.std.proofs.Common.{map}
use Rattle.plcx_types.specs.Lists.{Each}
use Rattle.plcx_st.specs.Meant.{expr_meant}
use Rattle.plcx_text_lines.specs.Added.{HasValue}
use Rattle.plcx_text_lines.proofs.Bringing.{Goes}
use Rattle.plcx_text_lines.proofs.expressions.+expression.Given as goal

-- the inputs so far, whatever the rest brings
abbrev pub invariant-expressions-loop-x : goal.invariant-expressions-loop-x
invariant-expressions-loop-x g l =
    let c = (g.N.Numbers.numbers l.numbers).names in
    Each (HasValue c.scope) (map expr_meant l.args) → Goes c l.args l.x-index l.all l.inputs.items (map expr_meant l.args) l.fn.before
