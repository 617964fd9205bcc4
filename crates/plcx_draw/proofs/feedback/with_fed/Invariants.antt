use Rattle.std.proofs.Common.{◌≡◌, map}
use Rattle.plcx_drawn.specs.Shown.{shown_element}
use Rattle.plcx_draw.specs.Feedback.{shown_bare, with_found}
use Rattle.plcx_draw.proofs.feedback.with_fed.Given as goal

abbrev pub invariant-loop-element : goal.invariant-loop-element
invariant-loop-element l = map shown_element l.all.items ≡ map (with_found l.feedback) (map shown_bare l.yielded)
