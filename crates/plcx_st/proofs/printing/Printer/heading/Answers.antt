use Rattle.plcx_st.proofs.Puts.{line_done, on_ok}
use Rattle.plcx_st.proofs.printing.Printer.heading.Goals as goal

pub returns : goal.returns
returns c = on_ok c.end.result (λ h. line_done c.args.self.now c.begin.new.self c.word.new.self c.end.new.self 0 _ c.in_ok-begin.ensures.bytes c.in_ok-begin.ensures.last c.in_ok-word.ensures h) c.end.ensures
