use Rattle.std.proofs.Common.{List, subst, sym}
use Rattle.plcx_types.specs.Lists.{Each}
use Rattle.plcx_meaning.specs.Templates.{elements_text, choices_text}
use Rattle.plcx_drawn.specs.declared.element.Element.{Element}
use Rattle.plcx_rules.proofs.Lists.{each_split}
use Rattle.plcx_st.specs.InRange.{StatementInRange}
use Rattle.plcx_targets.specs.Labels.{network_of}
use Rattle.plcx_jump.proofs.bodies.turn.Goals as goal

pub put_choices-requires : goal.put_choices-requires
put_choices-requires c =
    let all = each_split StatementInRange (elements_text (network_of c.args.drawing.now.elements c.args.places.now)) _ c.requires in
    subst (λ (es : List Element). Each StatementInRange (choices_text c.args.targets.now (network_of es c.args.places.now))) (sym c.elements.ensures) all.1.1
