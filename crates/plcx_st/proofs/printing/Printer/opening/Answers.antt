use Rattle.plcx_st.proofs.Puts.{puts_after, puts_then, line_done, on_ok}
use Rattle.plcx_st.proofs.printing.Printer.opening.Goals as goal

pub returns : goal.returns
returns c = on_ok c.end.result (λ h. line_done c.args.self.now c.begin.new.self c.word-2.new.self c.end.new.self c.args.indent _ c.in_ok-begin.ensures.bytes c.in_ok-begin.ensures.last
    (puts_after c.begin.new.self c.word.new.self c.word-2.new.self _ _ c.in_ok-word.ensures
    (puts_then c.word.new.self c.expression.new.self c.word-2.new.self _ _ c.in_ok-expression.ensures c.in_ok-word-2.ensures)) h) c.end.ensures
