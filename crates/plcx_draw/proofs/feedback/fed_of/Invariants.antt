use Rattle.std.proofs.Common.{◌≡◌, ◌++◌, drop, filter, map}
use Rattle.plcx_meaning.specs.Diagram as diagram
use Rattle.plcx_drawn.specs.Shown.{shown_port}
use Rattle.plcx_draw.specs.Feedback.{has}
use Rattle.plcx_draw.proofs.feedback.fed_of.Given as goal

abbrev pub invariant-loop-port : goal.invariant-loop-port
invariant-loop-port l =
    let test = λ (o : diagram.Port). has l.feedback l.element.id o.pin in
    map shown_port l.fed.items ++ filter test (map shown_port (drop l.port-index l.port-items)) ≡ filter test (map shown_port l.port-items)
