use Rattle.plcx_st.proofs.Puts.{puts_after, puts_then, puts_brackets, line_done, on_ok}
use Rattle.plcx_st.proofs.printing.Printer.call.Goals as goal

pub returns : goal.returns
unfolding Rattle.plcx_st.specs.Print.statement_lines
returns c = on_ok c.end.result (λ h. line_done c.args.self.now c.begin.new.self c.sign-3.new.self c.end.new.self c.args.indent _ c.in_ok-begin.ensures.bytes c.in_ok-begin.ensures.last
    (puts_after c.begin.new.self c.name.new.self c.sign-3.new.self _ _ c.in_ok-name.ensures
    (puts_then c.name.new.self c.sign-2.new.self c.sign-3.new.self _ _ (puts_brackets c.name.new.self c.sign.new.self c.arguments.new.self c.sign-2.new.self _ c.in_ok-sign.ensures c.in_ok-arguments.ensures c.in_ok-sign-2.ensures) c.in_ok-sign-3.ensures)) h) c.end.ensures
