use Rattle.std.proofs.Common.{◌≡◌, ◌++◌, map, take}
use Rattle.std.specs.List.{flat_map}
use Rattle.plcx_state.specs.declared.layout.Leaf.{Leaf}
use Rattle.plcx_state.specs.Layouts.{dotted}
use Rattle.plcx_scan.specs.Rows.{shown_leaves}
use Rattle.plcx_scan.specs.Texts.{behind_comma}
use Rattle.plcx_scan.proofs.tracing.header.Given as goal

abbrev pub invariant-loop-leaf : goal.invariant-loop-leaf
invariant-loop-leaf l = l.text.items ≡ l.initial.text.items ++ flat_map behind_comma (map (λ (leaf : Leaf). dotted leaf.path) (shown_leaves (take l.leaf-index l.leaves)))
