use Rattle.std.proofs.Common.{◌≡◌, ◌<◌, ℕ, [], length, get_or, subst}
use Rattle.plcx_model.specs.Shown.{graph_of}
use Rattle.plcx_order.specs.Classes.{class_below}
use Rattle.plcx_order.proofs.Gathered.{gathered_networks}
use Rattle.plcx_order.proofs.classes.networks.Goals as goal

pub returns-clause-networks : goal.returns-clause-networks
returns-clause-networks g c =
    let classes = c.in_ok-classes.classes in
    let lists = c.in_ok-gathered.field-0.items in
    let at = subst (λ n. (k : ℕ) → k < length classes.firsts.items → get_or lists k [] ≡ class_below classes.number.items k n) c.in_ok-classes.ensures.spread.count c.in_ok-gathered.ensures.lists in
    gathered_networks (graph_of c.args.wires.now) classes.number.items classes.firsts.items lists c.args.wires.now.graph c.in_ok-classes.ensures.spread c.in_ok-classes.ensures.seen c.in_ok-gathered.ensures.count at
