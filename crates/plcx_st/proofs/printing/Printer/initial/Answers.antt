use Rattle.plcx_st.proofs.Puts.{puts_none, puts_after}
use Rattle.plcx_st.proofs.printing.Printer.initial.Goals as goal

pub returns-in_ok-number : goal.returns-in_ok-number
returns-in_ok-number c = rw c.in-Some.is (puts_after c.args.self.now c.sign.new.self c.number.new.self _ _ c.in_ok-sign.ensures c.in_ok-number.ensures)

pub returns-in_default : goal.returns-in_default
returns-in_default c = rw c.in_default.is (puts_none c.args.self.now)
