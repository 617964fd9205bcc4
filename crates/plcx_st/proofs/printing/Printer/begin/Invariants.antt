use Rattle.std.proofs.Common.{◌≡◌, ◌++◌, replicate}
use Rattle.plcx_st.proofs.printing.Printer.begin.Given as goal

abbrev pub invariant-loop-i : goal.invariant-loop-i
invariant-loop-i l = l.self.bytes.items ≡ l.fn.self.bytes.items ++ replicate l._i 32
