use Rattle.std.proofs.Common.{map}
use Rattle.plcx_st.specs.Meant.{pou_meant}
use Rattle.plcx_text_order.specs.Made.{Reaches}
use Rattle.plcx_text_program.specs.Making.{made_of}
use Rattle.plcx_text_program.proofs.pous.pous_of.Given as goal

-- those of lower levels are prepared
abbrev pub invariant-loop-level : goal.invariant-loop-level
invariant-loop-level l = Reaches (map pou_meant l.tables) l.level 0 (made_of l.all)
