use Rattle.std.proofs.Common.{map, take}
use Rattle.std.specs.List.{flat_map}
use Rattle.plcx_st.specs.Meant.{block_meant}
use Rattle.plcx_st.specs.Print.{block_lines}
use Rattle.plcx_st.specs.Printer.{Writes}
use Rattle.plcx_st.proofs.printing.Printer.blocks.Given as goal

abbrev pub invariant-loop-block : goal.invariant-loop-block
invariant-loop-block l = Writes l.fn.self l.self (flat_map block_lines (map block_meant (take l.block-index l.blocks)))
