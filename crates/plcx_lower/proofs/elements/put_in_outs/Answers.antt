use Rattle.plcx_meaning.specs.Templates.{in_out_text}
use Rattle.plcx_st.specs.InRange.{ArgumentInRange}
use Rattle.plcx_drawn.specs.Shown.{shown_in_out_pin}
use Rattle.plcx_lower.proofs.Ranges.{each_index}
use Rattle.plcx_lower.proofs.elements.put_in_outs.Goals as goal

pub in_out_argument-requires : goal.in_out_argument-requires
in_out_argument-requires c = each_index ArgumentInRange in_out_text shown_in_out_pin c.args.in_outs.now c.loop-in_out.in_out-index _ c.loop-in_out-test.true c.requires
