use Rattle.std.proofs.Common.{◌≡◌, ◌<◌, ◌^◌, length, arith}
use Rattle.plcx_order_rows.proofs.Steps.{has}
use Rattle.plcx_order_rows.proofs.build.has_graph.Goals as goal

pub returns : goal.returns
returns c = λ differ.
    let es = c.args.elements.now in
    let small : length es < 2 ^ 32 = omega arith in
    has es c.args.pins.now small (omega arith) (c.have_one_pin.ensures c.if-not-have_one_pin.false) (c.all_below.ensures c.if-not-all_below.false) (c.ids_differ.ensures differ)
