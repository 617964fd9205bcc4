use Rattle.std.proofs.Common.{map}
use Rattle.plcx_st.specs.Meant.{pou_meant}
use Rattle.plcx_text_order.specs.Made.{Reaches}
use Rattle.plcx_text_program.specs.Making.{made_of}
use Rattle.plcx_text_program.proofs.pous.with_level.Given as goal

-- those at earlier places are prepared
abbrev pub invariant-loop-place : goal.invariant-loop-place
invariant-loop-place l = Reaches (map pou_meant l.tables) l.level l.place (made_of l.all)
