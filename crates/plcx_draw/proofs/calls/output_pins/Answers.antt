use Rattle.std.proofs.Common.{◌<◌, None, get_or, length, map, arith, refl}
use Rattle.plcx_drawn.specs.Shown.{shown_output_pin}
use Rattle.plcx_view.specs.Blocks.{beside, output_pin}
use Rattle.plcx_draw.specs.Known.{shown_output}
use Rattle.plcx_draw.proofs.BlockLaws.{output_more}
use Rattle.plcx_draw.proofs.calls.output_pins.Goals as goal

pub loop-i-preserved : goal.loop-i-preserved
loop-i-preserved c pous callee found =
    let fs = c.args.formals.now in
    let os = c.args.outputs.now in
    let i = c.loop-i.i in
    let in_fs : i < length fs = omega arith in
    let in_os : i < length os = omega arith in
    output_more shown_output pous callee fs os i (get_or fs i None) None c.index-outputs-i.result (map shown_output_pin c.loop-i.pins.items) (map shown_output_pin c.in_ok-pins.pins.items) (map (output_pin pous callee os) (beside os))
    in_fs in_os refl c.index-outputs-i.is c.in_ok-pins.ensures found (c.loop-i.invariant pous callee found)
