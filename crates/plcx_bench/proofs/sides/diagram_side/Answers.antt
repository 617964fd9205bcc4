use Rattle.plcx_bench.proofs.Begun.{drawn_is}
use Rattle.plcx_simulate.specs.Programs.{diagrams_in}
use Rattle.plcx_eval.specs.Sides.{IsOpened}
use Rattle.std.proofs.Common.{subst}
use Rattle.plcx_bench.proofs.sides.diagram_side.Goals as goal

pub returns-in-Ok : goal.returns-in-Ok
returns-in-Ok c =
    let l = c.in_ok-layout.layout in
    drawn_is (diagrams_in c.args.checked.now) c.args.program.now l c.in_ok-layout.ensures.laid c.in-Ok.side
    (subst (λ kept. IsOpened (diagrams_in c.args.checked.now) c.args.program.now kept c.in-Ok.side) c.in_ok-kept.ensures.value c.in-Ok.ensures.opened)
