use Rattle.std.proofs.Common.{map}
use Rattle.plcx_meaning.specs.Templates.{input_text, in_out_text}
use Rattle.plcx_st.specs.InRange.{ArgumentInRange}
use Rattle.plcx_drawn.specs.Shown.{shown_input_pin, shown_in_out_pin}
use Rattle.plcx_lower.proofs.Ranges.{each_parts}
use Rattle.plcx_lower.proofs.elements.call.Goals as goal

pub put_inputs-requires : goal.put_inputs-requires
put_inputs-requires c = (each_parts ArgumentInRange (map input_text (map shown_input_pin c.args.inputs.now)) (map in_out_text (map shown_in_out_pin c.args.in_outs.now)) c.requires.1).0

pub put_in_outs-requires : goal.put_in_outs-requires
put_in_outs-requires c = (each_parts ArgumentInRange (map input_text (map shown_input_pin c.args.inputs.now)) (map in_out_text (map shown_in_out_pin c.args.in_outs.now)) c.requires.1).1
