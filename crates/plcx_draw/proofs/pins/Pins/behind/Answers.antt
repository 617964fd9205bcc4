use Rattle.plcx_draw.specs.Pins.{shown_pins}
use Rattle.plcx_draw.proofs.PinLaws.{one_more}
use Rattle.plcx_draw.proofs.pins.Pins.behind.Goals as goal

pub loop-step-preserved : goal.loop-step-preserved
loop-step-preserved c = one_more (shown_pins c.loop-step.pins) (shown_pins c.rest-pins.result) (shown_pins c.args.self) c.loop-step._step c.loop-step.invariant c.rest-pins.ensures
