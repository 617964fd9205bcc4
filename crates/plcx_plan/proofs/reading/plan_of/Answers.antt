use Rattle.plcx_plan.proofs.Led.{all_led}
use Rattle.plcx_plan.proofs.reading.plan_of.Goals as goal

pub plan_in-requires : goal.plan_in-requires
plan_in-requires c = record { led = rw (c.deref.ensures.value, c.in_ok-items.ensures) (all_led c.args.root.now) }
