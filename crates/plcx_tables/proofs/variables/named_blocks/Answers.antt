use Rattle.std.proofs.Common.{Bor, ℕ, List}
use Rattle.std.specs.Option.{option_map}
use Rattle.plcx_drawn.specs.declared.drawing.Drawing.{Drawing}
use Rattle.plcx_tables.specs.Named.{NamesTold}
use Rattle.plcx_tables.specs.Telling.{block_name}
use Rattle.plcx_tables.proofs.Walks.{step_made}
use Rattle.plcx_tables.proofs.variables.named_blocks.Goals as goal

pub loop-drawing-preserved : goal.loop-drawing-preserved
loop-drawing-preserved c =
    let names = c.in_ok-names.names in
    step_made (NamesTold names.numbers.entries names.count) (λ (d : Drawing). block_name d.pou.now) c.args.drawings.now c.loop-drawing.drawing-index c.drawing-item.result
    (option_map (λ (n : Bor (List ℕ)). n.now) c.block_name.result) c.block_name.ensures c.loop-drawing-test.true c.drawing-item.is (c.in_ok-names.ensures _ c.loop-drawing.invariant)
