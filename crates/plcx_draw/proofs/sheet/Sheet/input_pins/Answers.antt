use Rattle.std.proofs.Common.{◌∙◌, ap, map}
use Rattle.plcx_drawn.specs.Shown.{shown_input_pin}
use Rattle.plcx_view.specs.Blocks.{input_pin}
use Rattle.plcx_draw.specs.Wired.{shown_wired}
use Rattle.plcx_draw.proofs.BlockLaws.{more_made}
use Rattle.plcx_draw.proofs.sheet.Sheet.input_pins.Goals as goal

pub loop-wired-preserved : goal.loop-wired-preserved
loop-wired-preserved c all =
    let own = c.args.self.now in
    let i = c.loop-wired.wired-index in
    let xs = c.args.inputs.now in
    ap (map shown_input_pin) c.in_ok-push.ensures.items
    ∙ more_made shown_input_pin (input_pin own.pous own.pou c.args.callee all) shown_wired c.loop-wired.pins.items xs i c.in_ok-input_pin.field-0 c.wired-item.result c.wired-item.result c.loop-wired-test.true c.wired-item.is (c.in_ok-input_pin.ensures all) (c.loop-wired.invariant all)
