use Rattle.std.proofs.Common.{◌≡◌, ◌++◌, drop}
use Rattle.plcx_scan.specs.Rows.{shown_leaves}
use Rattle.plcx_ticks.specs.Texts.{named_values}
use Rattle.plcx_ticks.proofs.telling.push_values.Given as goal

-- the values that are left belong to the leaves that are left
abbrev pub invariant-loop-leaf : goal.invariant-loop-leaf
invariant-loop-leaf l = l.text.items ++ named_values (shown_leaves (drop l.leaf-index l.leaves)) (drop l.place l.values) ≡ l.initial.text.items ++ named_values (shown_leaves l.leaves) l.values
