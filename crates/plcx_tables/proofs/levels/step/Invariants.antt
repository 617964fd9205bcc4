use Rattle.std.proofs.Common.{◌≡◌, map, take}
use Rattle.plcx_tables.specs.declared.own.Own.{Own}
use Rattle.plcx_tables.specs.Levels.{number_by}
use Rattle.plcx_tables.proofs.levels.step.Given as goal

abbrev pub invariant-loop-own : goal.invariant-loop-own
invariant-loop-own l = l.next.items ≡ map (λ (own : Own). number_by l.rule own l.before) (take l.own-index l.owns)
