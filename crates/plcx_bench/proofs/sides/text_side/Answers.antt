use Rattle.std.proofs.Common.{subst}
use Rattle.plcx_st.specs.Meant.{meant}
use Rattle.plcx_run.specs.Sides.{IsOpened}
use Rattle.plcx_bench.proofs.Begun.{written_is}
use Rattle.plcx_bench.proofs.sides.text_side.Goals as goal

pub open-requires : goal.open-requires
open-requires c = record { retained = λ p named. record { laid = c.in_ok-layout.layout; is_laid = c.in_ok-layout.ensures.laid p named; is = c.in_ok-kept.ensures.state } }

pub returns-in-Ok : goal.returns-in-Ok
returns-in-Ok c =
    let unit = meant c.args.ready.now in
    written_is unit c.args.program.now c.in_ok-layout.layout c.in_ok-layout.ensures c.in-Ok.side
    (subst (λ kept. IsOpened unit c.args.program.now kept c.in-Ok.side) c.in_ok-kept.ensures.value c.in-Ok.ensures.opened)
