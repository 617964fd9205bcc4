use Rattle.std.proofs.Common.{◌≡◌, ◌+◌, ◌∷◌, ◌++◌, length, drop, sym, ◌∙◌, ap}
use Rattle.std.proofs.lemmas.List.{drop_more}
use Rattle.plcx_model.specs.declared.body.BodyElement.{BodyElement}
use Rattle.plcx_model.specs.Numbering.{pins_of, wires_at_pins, wires_from}
use Rattle.plcx_model.proofs.BodyGraphs.{wires_more, pins_more}
use Rattle.plcx_model.proofs.numbering.wires_of.Goals as goal

pub loop-e-preserved : goal.loop-e-preserved
loop-e-preserved c =
    let es = c.args.elements.now in
    let pins = c.args.pins.now in
    let e = c.loop-e.e in
    let at = c.loop-e.at in
    let x : BodyElement = c.index-elements-e.result in
    let count = c.pins_of-count.result in
    let rest = drop (e + 1) es in
    let next : drop e es ≡ x ∷ rest = drop_more es e x c.loop-e-test.true ∙ ap (λ (y : BodyElement). y ∷ rest) (sym c.index-elements-e.is) in
    let pin_count = c.pins_of-count.ensures ∙ ap (λ (y : BodyElement). pins_of y.kind) (sym c.index-elements-e.is) in
    let pushed = c.in_ok-add_pins.ensures ∙ ap (λ ps. c.loop-e.wires.items ++ wires_at_pins e 0 ps) c.part.ensures in
    record {
      wires = wires_more (drop e es) rest x pins c.loop-e.wires.items c.add_pins.new.wires.items (wires_from 0 es pins) e at count next pin_count pushed c.loop-e.invariant.wires;
      pins = pins_more (drop e es) rest x (length pins) at count next pin_count c.loop-e.invariant.pins;
    }
