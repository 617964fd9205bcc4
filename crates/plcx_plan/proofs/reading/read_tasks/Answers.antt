use Rattle.plcx_plan.proofs.Follows.{is_plan, programs, names}
use Rattle.plcx_plan.proofs.reading.read_tasks.Goals as goal

pub returns-in_ok-plan_of-in-Element-clause-plan : goal.returns-in_ok-plan_of-in-Element-clause-plan
returns-in_ok-plan_of-in-Element-clause-plan c = let plan = c.in_ok-plan_of-in-Element.ensures.plan in is_plan c.args.project.now _ c.in_ok-plan_of-in-Element.field-0 plan.planned c.in_ok-plan_of-in-Element.ensures.few

pub returns-in_ok-plan_of-in-Element-clause-programs : goal.returns-in_ok-plan_of-in-Element-clause-programs
returns-in_ok-plan_of-in-Element-clause-programs c = let plan = c.in_ok-plan_of-in-Element.ensures.plan in programs c.args.project.now _ c.in_ok-plan_of-in-Element.field-0 plan.planned

pub returns-in_ok-plan_of-in-Element-clause-names : goal.returns-in_ok-plan_of-in-Element-clause-names
returns-in_ok-plan_of-in-Element-clause-names c = let plan = c.in_ok-plan_of-in-Element.ensures.plan in names c.args.project.now _ c.in_ok-plan_of-in-Element.field-0 plan.planned
