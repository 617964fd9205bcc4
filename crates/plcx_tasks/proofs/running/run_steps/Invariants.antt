use Rattle.std.proofs.Common.{◌≡◌, map, take, length}
use Rattle.plcx_types.specs.Lists.{Each}
use Rattle.plcx_tasks.specs.Runs.{place_of, IsTaskRow}
use Rattle.plcx_tasks.specs.Steps.{step_place}
use Rattle.plcx_tasks.proofs.Advancing.{AreGoing}
use Rattle.plcx_tasks.proofs.running.run_steps.Given as goal

-- the steps so far are over
abbrev pub invariant-loop-step : goal.invariant-loop-step
invariant-loop-step g l = record {
  long : length l.sides ≡ length l.fn.sides;
  places : map place_of l.rows.items ≡ map step_place (take l.step-index l.steps);
  going : AreGoing g.S.Side.machine g.S.Side.laid g.S.Side.stands_for g.S.Side.last l.turns l.fn.sides l.sides (take l.step-index l.steps) l.rows.items;
  rows : Each (IsTaskRow (map g.S.Side.laid l.fn.sides)) l.rows.items;
}
