use Rattle.std.proofs.Common.{◌≡◌, ◌++◌, ◌+◌, [], drop}
use Rattle.plcx_tasks.specs.Steps.{Keeps, steps_from}
use Rattle.plcx_tasks.proofs.Keeping.{before}
use Rattle.plcx_tasks.proofs.scheduling.schedule.Given as goal

-- the events so far are steps, and what is kept is what they leave
abbrev pub invariant-loop-place : goal.invariant-loop-place
invariant-loop-place l = record {
  keeps : Keeps l.plan (before l.events l.place) l.standing.clocks.items l.standing.pending.items;
  steps : l.steps.items ++ steps_from l.plan l.ranks.order.items (l.place + 1) (before l.events l.place) (drop l.place l.events) ≡ steps_from l.plan l.ranks.order.items 1 [] l.events;
}
