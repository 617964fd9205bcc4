use Rattle.std.proofs.Common.{map, take}
use Rattle.std.specs.List.{list_any}
use Rattle.plcx_meaning.specs.Diagram.{reads_back}
use Rattle.plcx_drawn.specs.Shown.{shown_source}
use Rattle.plcx_draw.specs.Feedback.{Adds}
use Rattle.plcx_draw.proofs.feedback.Feedback.with_sources.Given as goal

abbrev pub invariant-loop-source : goal.invariant-loop-source
invariant-loop-source l = Adds l.fn.self l.found (λ id pin. list_any (reads_back id pin) (map shown_source (take l.source-index l.sources)))
