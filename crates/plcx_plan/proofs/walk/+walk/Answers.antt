use Rattle.std.proofs.Common.{◌-◌, ◌∙◌, arith}
use Rattle.plcx_plan.proofs.Listing.{one_more}
use Rattle.plcx_plan.proofs.walk.+walk.Goals as goal

pub walk-returns : goal.walk-returns
walk-returns t c =
    c.in_ok-walk_below.ensures ∙ rw (c.in_ok-push.ensures.items, c.children.ensures) (one_more c.args.found.items _ c.args.depth (c.args.depth - 1) (omega arith))
