use Rattle.std.proofs.Common.{take}
use Rattle.std.specs.List.{flat_map}
use Rattle.plcx_drawn.specs.declared.element.Element.{Element}
use Rattle.plcx_drawn.specs.Shown.{shown_element}
use Rattle.plcx_tables.specs.Named.{MemoriesTold}
use Rattle.plcx_tables.specs.Owned.{places_of, remembered_by}
use Rattle.plcx_tables.proofs.own.memories_of.Given as goal

abbrev pub invariant-loop-element : goal.invariant-loop-element
invariant-loop-element l = MemoriesTold l.memories.numbers.entries l.memories.count (places_of (flat_map (λ (e : Element). remembered_by (shown_element e)) (take l.element-index l.elements)))
