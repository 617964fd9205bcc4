use Rattle.std.proofs.Common.{map, take}
use Rattle.plcx_st.specs.Meant.{decl_meant}
use Rattle.plcx_st.specs.Print.{declaration_line}
use Rattle.plcx_st.specs.Printer.{Writes}
use Rattle.plcx_st.proofs.printing.Printer.declarations.Given as goal

abbrev pub invariant-loop-decl : goal.invariant-loop-decl
invariant-loop-decl l = Writes l.fn.self l.self (map declaration_line (map decl_meant (take l.decl-index l.decls)))
