use Rattle.std.proofs.Common.{◌≡◌, ◌∙◌, List, [], Option, Some, None, map, sym, ap, subst}
use Rattle.std.specs.List.{slice_get, cons_option}
use Rattle.plcx_meaning.specs.Diagram.{DiagramElement}
use Rattle.plcx_drawn.specs.declared.element.Element.{Element}
use Rattle.plcx_drawn.specs.Shown.{shown_element, shown_elements}
use Rattle.plcx_prepare.specs.Emitted.{Adds}
use Rattle.plcx_types.specs.Lists.{Each}
use Rattle.plcx_prepare.specs.Literals.{ElementHasLiterals}
use Rattle.plcx_prepare.proofs.Adding.{nothing_added, nothing_there, found_there}
use Rattle.plcx_prepare.proofs.elements.with_place.Goals as goal

pub with_element-requires : goal.with_element-requires
with_element-requires g c =
    let some : slice_get (shown_elements c.args.drawing.now) c.args.place ≡ Some (shown_element c.in-Some.element.now) =
    ap (λ (es : List Element). slice_get (map shown_element es) c.args.place) (sym c.elements.ensures) ∙ found_there shown_element c.elements.result.now c.args.place c.at.result c.in-Some.element c.at.ensures c.in-Some.is in
    (subst (λ (o : Option DiagramElement). Each ElementHasLiterals (cons_option o [])) some c.requires).0

pub returns-in-None : goal.returns-in-None
returns-in-None g c =
    let n = g.N.Numbers.numbering c.args.numbers.now in
    let none : slice_get (shown_elements c.args.drawing.now) c.args.place ≡ None =
    ap (λ (es : List Element). slice_get (map shown_element es) c.args.place) (sym c.elements.ensures) ∙ nothing_there shown_element c.elements.result.now c.args.place c.at.result c.at.ensures c.in-None.is in
    subst (λ (o : Option DiagramElement). Adds n (cons_option o []) c.args.before c.args.before) (sym none) (nothing_added n c.args.before)

pub returns-in_ok-with_element-in-Some : goal.returns-in_ok-with_element-in-Some
returns-in_ok-with_element-in-Some g c =
    let n = g.N.Numbers.numbering c.args.numbers.now in
    let some : slice_get (shown_elements c.args.drawing.now) c.args.place ≡ Some (shown_element c.in-Some.element.now) =
    ap (λ (es : List Element). slice_get (map shown_element es) c.args.place) (sym c.elements.ensures) ∙ found_there shown_element c.elements.result.now c.args.place c.at.result c.in-Some.element c.at.ensures c.in-Some.is in
    subst (λ (o : Option DiagramElement). Adds n (cons_option o []) c.args.before c.in_ok-with_element-in-Some.field-0) (sym some) c.in_ok-with_element-in-Some.ensures
