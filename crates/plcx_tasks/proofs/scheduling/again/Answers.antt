use Rattle.std.proofs.Common.{List, ◌++◌, ◌∙◌, ap, map}
use Rattle.plcx_tasks.specs.declared.ranking.Rank.{Rank}
use Rattle.plcx_tasks.specs.Steps.{restart_at}
use Rattle.plcx_tasks.proofs.Keeping.{restart_led}
use Rattle.plcx_tasks.proofs.scheduling.again.Goals as goal

pub returns : goal.returns
returns c =
    restart_led c.args.plan.now c.args.ranks.now.all.items c.args.ranks.now.order.items c.args.event c.args.restart c.args.standing.now.clocks.items c.in_ok-fresh.fresh.clocks.items c.args.standing.now.pending.items c.in_ok-fresh.fresh.pending.items
    c.args.steps.now.items c.push_restarts.new.steps.items (c.in_ok-push_restarts.ensures ∙ ap (λ (rs : List Rank). c.args.steps.now.items ++ map (restart_at c.args.event c.args.restart) rs) c.deref.ensures.value) c.in_ok-fresh.ensures
