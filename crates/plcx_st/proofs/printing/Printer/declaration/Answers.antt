use Rattle.plcx_st.proofs.Puts.{puts_after, puts_then, line_done, on_ok}
use Rattle.plcx_st.proofs.printing.Printer.declaration.Goals as goal

pub returns : goal.returns
returns c = on_ok c.end.result (λ h. line_done c.args.self.now c.begin.new.self c.sign-2.new.self c.end.new.self 2 _ c.in_ok-begin.ensures.bytes c.in_ok-begin.ensures.last
    (puts_after c.begin.new.self c.name.new.self c.sign-2.new.self _ _ c.in_ok-name.ensures
    (puts_then c.name.new.self c.address.new.self c.sign-2.new.self _ _ c.in_ok-address.ensures
    (puts_after c.address.new.self c.sign.new.self c.sign-2.new.self _ _ c.in_ok-sign.ensures
    (puts_after c.sign.new.self c.name-2.new.self c.sign-2.new.self _ _ c.in_ok-name-2.ensures
    (puts_then c.name-2.new.self c.initial.new.self c.sign-2.new.self _ _ c.in_ok-initial.ensures c.in_ok-sign-2.ensures))))) h) c.end.ensures
