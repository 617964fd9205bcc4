use Rattle.std.proofs.Common.{◌≡◌, ◌++◌, drop, map}
use Rattle.std.specs.List.{flat_map}
use Rattle.plcx_drawn.specs.Shown.{shown_element}
use Rattle.plcx_layout.specs.Memories.{element_memories}
use Rattle.plcx_layout.proofs.memories.with_elements.Given as goal

-- behind what is remembered come the elements that are left
abbrev pub invariant-loop-element : goal.invariant-loop-element
invariant-loop-element l =
    l.more.items ++ flat_map (element_memories l.retained) (map shown_element (drop l.element-index l.elements)) ≡ l.fn.memories.items ++ flat_map (element_memories l.retained) (map shown_element l.elements)
