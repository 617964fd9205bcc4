use Rattle.std.proofs.Common.{map, take}
use Rattle.std.specs.List.{list_any}
use Rattle.plcx_meaning.specs.Diagram.{link_reads_back}
use Rattle.plcx_draw.specs.Feedback.{Adds, link_of_input}
use Rattle.plcx_draw.proofs.feedback.Feedback.with_inputs.Given as goal

abbrev pub invariant-loop-input : goal.invariant-loop-input
invariant-loop-input l = Adds l.fn.self l.found (λ id pin. list_any (link_reads_back id pin) (map link_of_input (take l.input-index l.inputs)))
