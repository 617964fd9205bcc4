use Rattle.std.proofs.Common.{map, ◌-◌, arith}
use Rattle.plcx_drawn.specs.Shown.{shown_element}
use Rattle.plcx_st.specs.InRange.{StatementInRange}
use Rattle.plcx_jump.proofs.Choices.{choices_at}
use Rattle.plcx_jump.proofs.bodies.put_choices.Goals as goal

pub put_choice-requires : goal.put_choice-requires
put_choice-requires c =
    choices_at StatementInRange c.args.targets.now (map shown_element c.args.elements.now) c.args.places.now (c.loop-i.i - 1) (shown_element c.in-Some.element.now)
    (omega (arith, c.loop-i-test.true, c.loop-i.auto.i)) c.in-Some.ensures c.requires
