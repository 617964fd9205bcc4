use Rattle.std.proofs.Common.{◌-◌, ◌∙◌, arith}
use Rattle.plcx_table.proofs.Listing.{one-more}
use Rattle.plcx_table.proofs.walk.+walk.Goals as goal

pub walk-returns : goal.walk-returns
walk-returns t c =
    c.in_ok-walk_beyond.ensures ∙ rw c.in_ok-push.ensures.items (one-more c.args.found.items _ c.args.depth (c.args.depth - 1) (omega arith))
