use Rattle.std.proofs.Common.{List, ℕ, ◌+◌, map, subst, sym}
use Rattle.plcx_types.specs.Lists.{Each}
use Rattle.plcx_meaning.specs.Diagram.{DiagramElement}
use Rattle.plcx_meaning.specs.Tree.{arms}
use Rattle.plcx_meaning.specs.Templates.{turn_text, arms_text}
use Rattle.plcx_drawn.specs.Shown.{shown_network, shown_networks}
use Rattle.plcx_st.specs.InRange.{StatementInRange, ArmsInRange}
use Rattle.plcx_drawn.proofs.Walks.{left}
use Rattle.plcx_jump.proofs.Blocks.{stated}
use Rattle.plcx_jump.proofs.bodies.arms.Goals as goal

pub arm-requires-clause-range : goal.arm-requires-clause-range
arm-requires-clause-range c =
    let d = c.args.drawing.now in
    let networks = shown_networks d in
    let next = c.loop-number.number + 1 in
    let here = subst (λ (ns : List (List ℕ)). ArmsInRange (arms (arms_text networks c.loop-number.number (map (shown_network d) ns))))
    (left d.networks.now c.loop-number.number c.network-item.result c.loop-number-test.true c.network-item.is) c.loop-number.invariant.range in
    let own = stated (turn_text networks next (shown_network d c.network-item.result)) here.0 in
    subst (λ (ns : List (List DiagramElement)). Each StatementInRange (turn_text ns next (shown_network d c.as_slice.result.now))) (sym c.requires.own)
    (subst (λ (places : List ℕ). Each StatementInRange (turn_text networks next (shown_network d places))) (sym c.as_slice.ensures) own)
