use Rattle.std.proofs.Common.{List, ap, ◌∙◌}
use Rattle.std.specs.List.{sum_by}
use Rattle.plcx_known.specs.Owned.{Typed, shown_own}
use Rattle.plcx_known.specs.Sizes.{capped, weight}
use Rattle.plcx_known.proofs.LevelSizes.{one_grows, all_grown}
use Rattle.plcx_known.proofs.sizes.size.Goals as goal

pub loop-own-preserved : goal.loop-own-preserved
loop-own-preserved c =
    one_grows shown_own (weight c.args.depth c.args.sizes.now) c.variables-variables.result.now c.loop-own.own-index c.own-item.result c.loop-own.size c.weight.result c.grown-size.result _
    c.loop-own-test.true c.own-item.is c.weight.ensures c.grown-size.ensures c.loop-own.invariant.0

pub returns : goal.returns
returns c =
    all_grown shown_own (weight c.args.depth c.args.sizes.now) c.variables-variables.result.now c.loop-own.own-index c.loop-own.size _ c.loop-own-test.false c.loop-own.invariant.1 c.loop-own.invariant.0
    ∙ ap (λ (ts : List Typed). capped (sum_by (weight c.args.depth c.args.sizes.now) ts)) c.variables-variables.ensures
