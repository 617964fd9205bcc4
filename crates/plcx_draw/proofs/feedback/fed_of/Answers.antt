use Rattle.std.proofs.Common.{◌∙◌, map, sym, ap}
use Rattle.plcx_meaning.specs.Diagram as diagram
use Rattle.plcx_meaning.specs.Diagram.{ports}
use Rattle.plcx_drawn.specs.Shown.{shown_port, shown_kind}
use Rattle.plcx_draw.specs.Feedback.{has}
use Rattle.plcx_draw.proofs.FeedbackLaws.{none_pass}
use Rattle.plcx_draw.proofs.feedback.fed_of.Goals as goal

pub returns-then-is_empty : goal.returns-then-is_empty
returns-then-is_empty c =
    let e = c.args.element.now in
    ap (map shown_port) c.new-fed.ensures.items
    ∙ sym (none_pass (λ (o : diagram.Port). has c.args.feedback.now e.id o.pin) (ports (shown_kind e.kind)) (λ (o : diagram.Port). c.is_empty.ensures c.if-is_empty.true e.id o.pin))
