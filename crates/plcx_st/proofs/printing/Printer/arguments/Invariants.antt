use Rattle.std.proofs.Common.{◌≡◌, map, take, ◌==◌}
use Rattle.plcx_st.specs.Meant.{arg_meant}
use Rattle.plcx_st.specs.Print.{arguments_shapes}
use Rattle.plcx_st.specs.Printer.{Puts}
use Rattle.plcx_st.proofs.printing.Printer.arguments.Given as goal

abbrev pub invariant-loop-arg : goal.invariant-loop-arg
invariant-loop-arg l = Puts l.fn.self l.self (arguments_shapes (map arg_meant (take l.arg-index l.args))) × (l.is_first ≡ (l.arg-index == 0))
