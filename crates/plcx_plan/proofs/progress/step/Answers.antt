use Rattle.std.proofs.Common.{map}
use Rattle.plcx_plan.specs.Seen.{shown}
use Rattle.plcx_plan.proofs.progress.step.Goals as goal

pub returns-in-Root-clause-step : goal.returns-in-Root-clause-step
returns-in-Root-clause-step c = λ project same. rw c.in-Root.is (c.root_step.ensures project)

pub returns-in-Resource-clause-step : goal.returns-in-Resource-clause-step
returns-in-Resource-clause-step c = λ project same. rw c.in-Resource.is (c.resource_step.ensures.step project (map shown c.args.items.now))

pub returns-in_ok-task_step-in-Task-clause-step : goal.returns-in_ok-task_step-in-Task-clause-step
returns-in_ok-task_step-in-Task-clause-step c = λ project same. rw c.in-Task.is (c.in_ok-task_step-in-Task.ensures.step project (map shown c.args.items.now))

pub returns-in_ok-instance_step-in-Instance-clause-step : goal.returns-in_ok-instance_step-in-Instance-clause-step
returns-in_ok-instance_step-in-Instance-clause-step c = λ project same. rw c.in-Instance.is (c.in_ok-instance_step-in-Instance.ensures.step project (map shown c.args.items.now) same)

pub returns-in-Other-clause-step : goal.returns-in-Other-clause-step
returns-in-Other-clause-step c = λ project same. rw c.in-Other.is (c.other_step.ensures project (map shown c.args.items.now))
