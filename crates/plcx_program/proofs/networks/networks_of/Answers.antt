use Rattle.std.proofs.Common.{◌∙◌, ℕ, List, map, sym, subst}
use Rattle.std.proofs.lemmas.List.{take_all}
use Rattle.plcx_types.specs.Lists.{Each}
use Rattle.plcx_drawn.specs.Shown.{shown_network}
use Rattle.plcx_prepare.specs.Literals.{ElementHasLiterals}
use Rattle.plcx_prepare.proofs.Laws.{each_item}
use Rattle.plcx_program.specs.Bodies.{AddsNetwork, HasNetworks}
use Rattle.plcx_program.proofs.Growing.{networks_more}
use Rattle.plcx_program.proofs.networks.networks_of.Goals as goal

pub with_network-requires-clause-literals : goal.with_network-requires-clause-literals
with_network-requires-clause-literals c =
    let d = c.args.drawing.now in
    subst (λ (places : List ℕ). Each ElementHasLiterals (shown_network d places)) (sym c.as_slice.ensures)
    (each_item (Each ElementHasLiterals) (shown_network d) d.networks.now c.loop-network.network-index c.network-item.result c.requires c.loop-network-test.true c.network-item.is)

pub loop-network-preserved : goal.loop-network-preserved
loop-network-preserved c = λ project p drawn.
    let d = c.args.drawing.now in
    let i = c.loop-network.network-index in
    let item = c.network-item.result in
    networks_more project p (shown_network d) d.networks.now i item c.loop-network-test.true c.args.shared c.loop-network.all c.in_ok-all.all (c.loop-network.invariant project p drawn)
    (subst (λ (places : List ℕ). AddsNetwork project p (shown_network d places) c.loop-network.all c.in_ok-all.all) (c.as_slice.ensures ∙ c.network-item.is) (c.in_ok-all.ensures project p drawn))

pub returns : goal.returns
returns c = λ project p drawn.
    let d = c.args.drawing.now in
    subst (λ (ns : List (List ℕ)). HasNetworks project p (map (shown_network d) ns) c.args.shared c.loop-network.all) (take_all c.loop-network.network-index d.networks.now c.loop-network-test.false) (c.loop-network.invariant project p drawn)
