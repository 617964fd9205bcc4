use Rattle.std.proofs.Common.{map, take}
use Rattle.std.specs.List.{list_any}
use Rattle.plcx_meaning.specs.Diagram.{link_reads_back}
use Rattle.plcx_drawn.specs.Shown.{shown_link}
use Rattle.plcx_draw.specs.Feedback.{Adds}
use Rattle.plcx_draw.proofs.feedback.Feedback.with_links.Given as goal

abbrev pub invariant-loop-link : goal.invariant-loop-link
invariant-loop-link l = Adds l.fn.self l.found (λ id pin. list_any (link_reads_back id pin) (map shown_link (take l.link-index l.links)))
