use Rattle.std.proofs.Common.{map, take}
use Rattle.std.specs.List.{list_any}
use Rattle.plcx_meaning.specs.Diagram.{DiagramElement}
use Rattle.plcx_draw.specs.Feedback.{Adds, shown_bare, kind_reads_back}
use Rattle.plcx_draw.proofs.feedback.Feedback.of.Given as goal

abbrev pub invariant-loop-element : goal.invariant-loop-element
invariant-loop-element l = Adds l.initial.found l.found (λ id pin. list_any (λ (e : DiagramElement). kind_reads_back id pin e.kind) (map shown_bare (take l.element-index l.elements)))
