use Rattle.plcx_st.proofs.Puts.{puts_none}
use Rattle.plcx_st.proofs.printing.Printer.mark.Goals as goal

pub returns-in-Plain : goal.returns-in-Plain
returns-in-Plain c = rw c.in-Plain.is (puts_none c.args.self.now)
