use Rattle.std.proofs.Common.{◌≡◌, ◌++◌, take}
use Rattle.std.specs.Prelude.{codes}
use Rattle.std.specs.List.{flat_map}
use Rattle.plcx_ticks.specs.Texts.{row_line}
use Rattle.plcx_ticks.proofs.telling.task_text.Given as goal

abbrev pub invariant-loop-row : goal.invariant-loop-row
invariant-loop-row l = l.text.items ≡ codes "event,instance,result\n" ++ flat_map (row_line l.plan l.layouts) (take l.row-index l.row-items)
