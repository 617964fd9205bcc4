use Rattle.plcx_st.specs.Meant.{expr_meant}
use Rattle.std.proofs.Common.{ap, ◌∙◌}
use Rattle.plcx_text_numbered.specs.Statements.{store_line}
use Rattle.plcx_text_lines.proofs.Calling.{assigns}
use Rattle.plcx_text_lines.proofs.calls.assign.Goals as goal

pub returns : goal.returns
returns g c =
    let names = (g.N.Numbers.numbers c.args.numbers.now).names in
    let place = rw c.text.ensures.text at c.in_ok-named.ensures.place in
    λ has. assigns names c.args.target.now.name (expr_meant c.args.value.now) c.args.before c.in_ok-valued.valued c.in_ok-with_line.field-0 c.in_ok-valued.value c.store_line.result
    (c.in_ok-valued.ensures has) (c.store_line.ensures ∙ ap (λ p. store_line p c.in_ok-valued.value.source) place) c.in_ok-with_line.ensures
