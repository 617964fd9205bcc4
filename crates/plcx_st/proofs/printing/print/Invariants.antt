use Rattle.std.proofs.Common.{◌≡◌, map, take}
use Rattle.plcx_st.specs.Meant.{pou_meant}
use Rattle.plcx_st.specs.Print.{printed}
use Rattle.plcx_st.proofs.printing.print.Given as goal

abbrev pub invariant-loop-pou : goal.invariant-loop-pou
invariant-loop-pou l = l.printer.bytes.items ≡ printed (map pou_meant (take l.pou-index l.pou-items))
