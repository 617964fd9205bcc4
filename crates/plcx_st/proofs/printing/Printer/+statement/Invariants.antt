use Rattle.std.proofs.Common.{map, take}
use Rattle.plcx_meaning.specs.Tree as tree
use Rattle.plcx_st.specs.Meant.{stmt_meant}
use Rattle.plcx_st.specs.Print.{statements_lines, arms_lines}
use Rattle.plcx_st.specs.Printer.{Writes, arm_meant}
use Rattle.plcx_st.proofs.printing.Printer.+statement.Given as goal

abbrev pub invariant-statements-loop-s : goal.invariant-statements-loop-s
invariant-statements-loop-s l = Writes l.fn.self l.self (statements_lines l.indent (tree.statements (map stmt_meant (take l.s-index l.body))))

abbrev pub invariant-arms-loop-arm : goal.invariant-arms-loop-arm
invariant-arms-loop-arm l = Writes l.fn.self l.self (arms_lines l.indent (tree.arms (map arm_meant (take l.arm-index l.arms))))
