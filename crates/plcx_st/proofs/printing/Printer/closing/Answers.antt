use Rattle.plcx_st.proofs.Puts.{puts_after, line_done, on_ok}
use Rattle.plcx_st.proofs.printing.Printer.closing.Goals as goal

pub returns : goal.returns
returns c = on_ok c.end.result (λ h. line_done c.args.self.now c.begin.new.self c.sign.new.self c.end.new.self c.args.indent _ c.in_ok-begin.ensures.bytes c.in_ok-begin.ensures.last
    (puts_after c.begin.new.self c.word.new.self c.sign.new.self _ _ c.in_ok-word.ensures c.in_ok-sign.ensures) h) c.end.ensures
