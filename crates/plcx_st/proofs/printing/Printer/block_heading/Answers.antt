use Rattle.plcx_st.proofs.Puts.{puts_after, line_done, on_ok}
use Rattle.plcx_st.proofs.printing.Printer.block_heading.Goals as goal

pub returns : goal.returns
returns c = on_ok c.end.result (λ h. line_done c.args.self.now c.begin.new.self c.mark.new.self c.end.new.self 0 _ c.in_ok-begin.ensures.bytes c.in_ok-begin.ensures.last
    (puts_after c.begin.new.self c.word.new.self c.mark.new.self _ _ (rw c.class_word.ensures at c.in_ok-word.ensures) c.in_ok-mark.ensures) h) c.end.ensures
