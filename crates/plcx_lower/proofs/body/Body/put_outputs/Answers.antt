use Rattle.plcx_meaning.specs.Templates.{output_text}
use Rattle.plcx_st.specs.InRange.{StatementInRange}
use Rattle.plcx_drawn.specs.Shown.{shown_output_pin}
use Rattle.plcx_lower.proofs.Ranges.{each_index}
use Rattle.plcx_lower.proofs.body.Body.put_outputs.Goals as goal

pub put_output-requires : goal.put_output-requires
put_output-requires c =
    each_index StatementInRange (output_text c.args.id c.args.instance.now) shown_output_pin c.args.outputs.now c.loop-output.output-index _ c.loop-output-test.true c.requires
