use Rattle.std.proofs.Common.{◌≡◌, ◌++◌, drop, map}
use Rattle.plcx_meaning.specs.Diagram.{Port}
use Rattle.plcx_drawn.specs.Shown.{shown_element, shown_port}
use Rattle.plcx_layout.specs.Memories.{memory, element_memories}
use Rattle.plcx_layout.proofs.memories.with_element.Given as goal

-- behind what is remembered come the outputs that are left
abbrev pub invariant-loop-port : goal.invariant-loop-port
invariant-loop-port l =
    l.more.items ++ map (λ (o : Port). memory l.retained o.ty) (map shown_port (drop l.port-index l.port-items)) ≡ l.fn.memories.items ++ element_memories l.retained (shown_element l.element)
