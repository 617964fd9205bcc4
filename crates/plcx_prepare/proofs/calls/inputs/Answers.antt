use Rattle.plcx_drawn.specs.Shown.{shown_input_pin}
use Rattle.plcx_prepare.specs.Literals.{InputHasLiterals}
use Rattle.plcx_prepare.proofs.Laws.{each_item}
use Rattle.plcx_prepare.proofs.calls.inputs.Goals as goal

pub link_steps-requires : goal.link_steps-requires
link_steps-requires g c = each_item InputHasLiterals shown_input_pin c.args.inputs.now c.loop-input.input-index c.input-item.result c.requires c.loop-input-test.true c.input-item.is

pub link_source-source-requires : goal.link_source-source-requires
link_source-source-requires g c = each_item InputHasLiterals shown_input_pin c.args.inputs.now c.loop-input.input-index c.input-item.result c.requires c.loop-input-test.true c.input-item.is
