use Rattle.std.proofs.Common.{◌≤◌, ◌∙◌, ◌+◌, ◌++◌, List, [], ◌∷◌, map, drop, length, sym, ap, arith}
use Rattle.std.proofs.lemmas.List.{append-nil, drop_all, map-append}
use Rattle.plcx_meaning.specs.Diagram.{DiagramElement}
use Rattle.plcx_model.specs.declared.body.BodyElement.{BodyElement}
use Rattle.plcx_view.specs.Diagrams.{elements_from}
use Rattle.plcx_draw.specs.Feedback.{shown_bare}
use Rattle.plcx_draw.specs.Pins.{shown_pins}
use Rattle.plcx_draw.proofs.ElementLaws.{as_many, stands_there, element_more}
use Rattle.plcx_draw.proofs.sheet.Sheet.elements_of.Goals as goal

pub element_of-requires : goal.element_of-requires
element_of-requires c =
    let own = c.args.self.now in
    (stands_there own.pous own.pou c.known-known.result.now c.loop-one.one-index c.one-item.result c.known-known.ensures c.loop-one-test.true c.one-item.is).2

pub loop-one-preserved : goal.loop-one-preserved
loop-one-preserved c =
    let own = c.args.self.now in
    let es = own.pou.body.elements in
    let i = c.loop-one.one-index in
    let k = c.one-item.result in
    let left = shown_pins c.behind-left.result in
    let found = map shown_bare c.loop-one.all.items in
    let made = c.in_ok-element_of.field-0 in
    let there = stands_there own.pous own.pou c.known-known.result.now i k c.known-known.ensures c.loop-one-test.true c.one-item.is in
    ap (λ (xs : List DiagramElement). xs ++ elements_from own.pous own.pou left (drop (i + 1) es)) (ap (map shown_bare) c.in_ok-push.ensures.items ∙ map-append shown_bare c.loop-one.all.items (made ∷ []))
    ∙ element_more own.pous own.pou (shown_pins c.loop-one.left) left es i k.element.now found (elements_from own.pous own.pou (shown_pins c.args.pins) es) (shown_bare made) there.0 there.1 c.in_ok-element_of.ensures c.behind-left.ensures c.loop-one.invariant

pub returns : goal.returns
returns c =
    let own = c.args.self.now in
    let es = own.pou.body.elements in
    let i = c.loop-one.one-index in
    let found = map shown_bare c.loop-one.all.items in
    let long : length es ≤ i = omega (arith, as_many own.pous own.pou c.known-known.result.now c.known-known.ensures) in
    sym (append-nil found)
    ∙ sym (ap (λ (rest : List BodyElement). found ++ elements_from own.pous own.pou (shown_pins c.loop-one.left) rest) (drop_all i es long))
    ∙ c.loop-one.invariant
