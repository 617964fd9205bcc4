use Rattle.std.proofs.Common.{ap, Some}
use Rattle.plcx_tables.specs.Named.{NamesTold}
use Rattle.plcx_tables.specs.Telling.{pou_name}
use Rattle.plcx_tables.proofs.Walks.{step_made}
use Rattle.plcx_tables.proofs.variables.named_pous.Goals as goal

pub loop-drawing-preserved : goal.loop-drawing-preserved
loop-drawing-preserved c =
    let names = c.in_ok-names.names in
    step_made (NamesTold names.numbers.entries names.count) pou_name c.args.drawings.now c.loop-drawing.drawing-index c.drawing-item.result (Some c.text.result.now) (ap Some c.text.ensures.text) c.loop-drawing-test.true c.drawing-item.is (c.in_ok-names.ensures _ c.loop-drawing.invariant)
