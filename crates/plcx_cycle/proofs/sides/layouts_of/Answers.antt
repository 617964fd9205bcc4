use Rattle.std.proofs.Common.{◌+◌, List, take, sym, subst}
use Rattle.plcx_state.specs.Layouts.{Laid}
use Rattle.plcx_state.specs.Retains.{Pairwise}
use Rattle.plcx_simulate.specs.Programs.{diagrams_in}
use Rattle.plcx_cycle.specs.Sides.{IsLaidOut}
use Rattle.plcx_cycle.proofs.Loops.{pairs_more}
use Rattle.plcx_cycle.proofs.sides.layouts_of.Goals as goal

pub loop-instance-preserved : goal.loop-instance-preserved
loop-instance-preserved c =
    let R = IsLaidOut (diagrams_in c.args.checked.now) in
    subst (λ (ls : List Laid). Pairwise R (take (c.loop-instance.instance-index + 1) c.args.instances.now) ls) (sym c.in_ok-push.ensures.items)
    (pairs_more R c.args.instances.now c.loop-instance.layouts.items c.loop-instance.instance-index c.instance-item.result c.in_ok-layout_of.field-0 c.loop-instance-test.true c.instance-item.is c.loop-instance.invariant
    (record { laid_as = c.in_ok-layout_of.ensures.laid; is_laid = c.in_ok-layout_of.ensures.numbered }))
