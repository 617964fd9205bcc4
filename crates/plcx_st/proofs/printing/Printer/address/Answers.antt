use Rattle.plcx_st.proofs.Puts.{puts_none, puts_after}
use Rattle.plcx_st.proofs.printing.Printer.address.Goals as goal

pub returns-in_ok-put : goal.returns-in_ok-put
returns-in_ok-put c = rw c.in-Some.is (puts_after c.args.self.now c.word.new.self c.put.new.self _ _ c.in_ok-word.ensures (rw c.as_slice.ensures at c.in_ok-put.ensures))

pub returns-in_default : goal.returns-in_default
returns-in_default c = rw c.in_default.is (puts_none c.args.self.now)
