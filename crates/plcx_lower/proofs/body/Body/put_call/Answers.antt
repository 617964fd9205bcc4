use Rattle.std.proofs.Common.{map, ◌++◌}
use Rattle.std.specs.Prelude.{codes}
use Rattle.plcx_meaning.specs.Tree as tree
use Rattle.plcx_meaning.specs.Diagram.{eno_negated}
use Rattle.plcx_meaning.specs.Templates.{eno_text, enabled, input_text, in_out_text, output_text, turned_if}
use Rattle.plcx_st.specs.InRange.{StatementInRange}
use Rattle.plcx_drawn.specs.Shown.{shown_enable, shown_input_pin, shown_in_out_pin, shown_output_pin}
use Rattle.plcx_lower.proofs.Ranges.{each_within}
use Rattle.plcx_lower.proofs.body.Body.put_call.Goals as goal

pub put_outputs-requires : goal.put_outputs-requires
put_outputs-requires c =
    let id = c.args.id in
    let enable = shown_enable c.args.enable.now in
    let call = tree.Call c.args.instance.now (map input_text (map shown_input_pin c.args.inputs.now) ++ map in_out_text (map shown_in_out_pin c.args.in_outs.now)) in
    each_within StatementInRange (eno_text id enable) (enabled id enable call) (map (output_text id c.args.instance.now) (map shown_output_pin c.args.outputs.now))
    (turned_if (eno_negated enable) id (codes "ENO")) c.requires
