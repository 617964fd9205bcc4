use Rattle.plcx_st.proofs.Puts.{puts_after, puts_then, line_done, on_ok}
use Rattle.plcx_st.proofs.printing.Printer.assignment.Goals as goal

pub returns : goal.returns
unfolding Rattle.plcx_st.specs.Print.statement_lines
returns c = on_ok c.end.result (λ h. line_done c.args.self.now c.begin.new.self c.sign-2.new.self c.end.new.self c.args.indent _ c.in_ok-begin.ensures.bytes c.in_ok-begin.ensures.last
    (puts_after c.begin.new.self c.name.new.self c.sign-2.new.self _ _ c.in_ok-name.ensures (puts_after c.name.new.self c.sign.new.self c.sign-2.new.self _ _ c.in_ok-sign.ensures
    (puts_then c.sign.new.self c.expression.new.self c.sign-2.new.self _ _ c.in_ok-expression.ensures c.in_ok-sign-2.ensures))) h) c.end.ensures
