use Rattle.std.proofs.Common.{◌≡◌, List, refl, subst}
use Rattle.std.specs.Prelude.{IfOk}
use Rattle.plcx_xml.specs.Built.{Keeps, State, state_of}
use Rattle.plcx_xml.specs.Events.{Event}
use Rattle.plcx_xml.proofs.Closing.{closed-events, names-same, ends-here}
use Rattle.plcx_xml.proofs.building.end.Goals as goal

pub returns-clause-events : goal.returns-clause-events
returns-clause-events c =
    subst (λ (es : List Event). IfOk c.put_element.result (λ b. Keeps b es))
    (closed-events _ _ _ _ _ _ c.in-Some.ensures.items (names-same _ _ _ c.bytes.ensures c.if-ne.ensures) refl) c.put_element.ensures.events

pub returns-clause-state : goal.returns-clause-state
returns-clause-state c =
    subst (λ (s : State). IfOk c.put_element.result (λ b. state_of b ≡ s))
    (ends-here _ _ _ _ _ _ c.in-Some.ensures.items c.bytes.ensures c.if-ne.ensures) c.put_element.ensures.state
