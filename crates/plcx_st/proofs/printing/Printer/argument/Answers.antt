use Rattle.plcx_st.proofs.Puts.{puts_after, on_ok}
use Rattle.plcx_st.proofs.printing.Printer.argument.Goals as goal

pub returns : goal.returns
returns c = on_ok c.expression.result (λ h. puts_after c.args.self.now c.name.new.self c.expression.new.self _ _ c.in_ok-name.ensures
    (puts_after c.name.new.self c.sign.new.self c.expression.new.self _ _ c.in_ok-sign.ensures h)) c.expression.ensures
