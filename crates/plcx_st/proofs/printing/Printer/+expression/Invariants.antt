use Rattle.std.proofs.Common.{◌≡◌, map, take, ◌==◌}
use Rattle.plcx_meaning.specs.Tree as tree
use Rattle.plcx_st.specs.Meant.{expr_meant}
use Rattle.plcx_st.specs.Print.{list_shapes}
use Rattle.plcx_st.specs.Printer.{Puts}
use Rattle.plcx_st.proofs.printing.Printer.+expression.Given as goal

abbrev pub invariant-expressions-loop-x : goal.invariant-expressions-loop-x
invariant-expressions-loop-x l = Puts l.fn.self l.self (list_shapes (tree.expressions (map expr_meant (take l.x-index l.args)))) × (l.is_first ≡ (l.x-index == 0))
