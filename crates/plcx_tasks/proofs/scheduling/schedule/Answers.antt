use Rattle.std.proofs.Common.{List, [], ◌++◌, ap, length}
use Rattle.plcx_tasks.specs.declared.scheduling.Step.{Step}
use Rattle.plcx_tasks.specs.Steps.{steps_from}
use Rattle.plcx_tasks.proofs.Once.{order_within, ranks_within}
use Rattle.plcx_tasks.proofs.Keeping.{before, led_keeps, led_steps}
use Rattle.plcx_tasks.proofs.scheduling.schedule.Goals as goal

pub loop-place-init : goal.loop-place-init
loop-place-init c = record {
  keeps = c.in_ok-standing.ensures;
  steps = ap (λ (ss : List Step). ss ++ steps_from c.args.plan.now c.in_ok-ranks.ranks.order.items 1 [] c.args.events.now) c.new-steps.ensures.items;
}

pub push_event-requires-clause-order : goal.push_event-requires-clause-order
push_event-requires-clause-order c = order_within c.args.plan.now c.in_ok-ranks.ranks.order.items (length c.loop-place.standing.pending.items) c.loop-place.invariant.keeps.kept.long c.in_ok-ranks.ensures.order.all

pub push_event-requires-clause-all : goal.push_event-requires-clause-all
push_event-requires-clause-all c = ranks_within c.args.plan.now c.in_ok-ranks.ranks.all.items (length c.loop-place.standing.pending.items) c.loop-place.invariant.keeps.kept.long c.in_ok-ranks.ensures.all

pub loop-place-preserved : goal.loop-place-preserved
loop-place-preserved c =
    let inv = c.loop-place.invariant in
    let led = c.in_ok-push_event.ensures (before c.args.events.now c.loop-place.place) c.in_ok-ranks.ensures.order inv.keeps in
    record {
      keeps = led_keeps c.args.plan.now c.in_ok-ranks.ranks.order.items c.args.events.now c.loop-place.place c.index-events-place.result c.loop-place-test.true c.index-events-place.is _ _ _ _ _ led;
      steps = led_steps c.args.plan.now c.in_ok-ranks.ranks.order.items c.args.events.now c.loop-place.place c.index-events-place.result c.loop-place-test.true c.index-events-place.is _ _ _ _ _ led inv.steps;
    }
