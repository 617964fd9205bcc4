use Rattle.std.proofs.Common.{[], sym, ap, ◌∙◌}
use Rattle.plcx_meaning.specs.Diagram.{DiagramElement, ElementKind}
use Rattle.plcx_draw.specs.Pins.{shown_pins}
use Rattle.plcx_draw.proofs.ElementLaws.{own_pins}
use Rattle.plcx_draw.proofs.sheet.Sheet.element_of.Goals as goal

pub returns-in-Ok : goal.returns-in-Ok
returns-in-Ok c =
    let own = c.args.self.now in
    let e = c.args.known.now.element.now in
    let made = λ (k : ElementKind). let d : DiagramElement = record { id = e.local_id; kind = k; fed = [] } in d in
    ap made (c.in-Ok.ensures ∙ sym (own_pins own.pous own.pou (shown_pins c.args.pins) e.kind))
