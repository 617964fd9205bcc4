use Rattle.std.proofs.Common.{◌<◌, ◌+◌, List, length, sym, subst, arith}
use Rattle.plcx_state.specs.Retains.{initially_kept}
use Rattle.plcx_state.proofs.Pairing.{long, pair_at}
use Rattle.plcx_opening.specs.Opening.{IsLaidAs}
use Rattle.plcx_eval.specs.declared.side.DiagramSide.{DiagramSide}
use Rattle.plcx_eval.specs.Sides.{IsOpened}
use Rattle.plcx_simulate.specs.Programs.{diagrams_in}
use Rattle.plcx_tasks.specs.declared.planning.Instance.{Instance}
use Rattle.plcx_cycle.specs.Sides.{IsLaidOut}
use Rattle.plcx_cycle.proofs.Loops.{AreOpenedTo, item_at, opened_more}
use Rattle.plcx_cycle.proofs.sides.sides_of.Goals as goal

pub bounds-layouts-i : goal.bounds-layouts-i
bounds-layouts-i c =
    let same = long (IsLaidOut (diagrams_in c.args.checked.now)) c.args.instances.now c.args.layouts.now c.requires.laid in
    omega (arith, same, c.loop-i-test.true)

pub opened-requires-clause-laid : goal.opened-requires-clause-laid
opened-requires-clause-laid c =
    let d = diagrams_in c.args.checked.now in
    let same = long (IsLaidOut d) c.args.instances.now c.args.layouts.now c.requires.laid in
    let lt : c.loop-i.i < length c.args.layouts.now = omega (arith, same, c.loop-i-test.true) in
    let at = item_at c.args.instances.now c.loop-i.i c.index-instances-i.result c.loop-i-test.true c.index-instances-i.is in
    let there = item_at c.args.layouts.now c.loop-i.i c.index-layouts-i.result lt c.index-layouts-i.is in
    subst (λ (z : Instance). IsLaidAs d z.program c.index-layouts-i.result) c.index-instances-i.is
    (pair_at (IsLaidOut d) c.args.instances.now c.args.layouts.now c.requires.laid c.loop-i.i c.index-instances-i.result c.index-layouts-i.result at there).laid_as

pub loop-i-preserved : goal.loop-i-preserved
loop-i-preserved c =
    let d = diagrams_in c.args.checked.now in
    let same = long (IsLaidOut d) c.args.instances.now c.args.layouts.now c.requires.laid in
    let lt : c.loop-i.i < length c.args.layouts.now = omega (arith, same, c.loop-i-test.true) in
    let at = item_at c.args.instances.now c.loop-i.i c.index-instances-i.result c.loop-i-test.true c.index-instances-i.is in
    let there = item_at c.args.layouts.now c.loop-i.i c.index-layouts-i.result lt c.index-layouts-i.is in
    let own = subst (λ (z : Instance). IsOpened d z.program (initially_kept c.index-layouts-i.result.leaves) c.in_ok-opened.field-0) (sym c.index-instances-i.is) c.in_ok-opened.ensures in
    subst (λ (ss : List DiagramSide). AreOpenedTo d c.args.instances.now c.args.layouts.now (c.loop-i.i + 1) ss) (sym c.in_ok-push.ensures.items)
    (opened_more d c.args.instances.now c.args.layouts.now c.loop-i.i c.loop-i.sides.items c.index-instances-i.result c.index-layouts-i.result c.in_ok-opened.field-0 c.loop-i.invariant at there own)
