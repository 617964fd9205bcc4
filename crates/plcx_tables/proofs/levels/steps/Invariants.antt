use Rattle.std.proofs.Common.{◌≡◌, ◌-◌}
use Rattle.plcx_tables.specs.Levels.{stepped, repeated}
use Rattle.plcx_tables.proofs.levels.steps.Given as goal

-- what is left to do
abbrev pub invariant-loop-round : goal.invariant-loop-round
invariant-loop-round l = repeated (l.count - l._round) (stepped l.rule l.owns) l.last.items ≡ repeated l.count (stepped l.rule l.owns) l.initial.last.items
