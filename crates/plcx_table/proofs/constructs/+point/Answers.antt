use Rattle.std.proofs.Common.{◌≡◌, true, false, sym, ◌∙◌, rules}
use Rattle.std.specs.List.{list_any}
use Rattle.std.proofs.lemmas.List.{at_drop_all}
use Rattle.plcx_table.specs.Constructs.{node_has_point, is_point}
use Rattle.plcx_xml.specs.Look.{name_of}
use Rattle.plcx_table.proofs.Points.{point_some, point_none, one-passes}
use Rattle.plcx_table.proofs.constructs.+point.Goals as goal

pub has_point-returns-then-node_has_point : goal.has_point-returns-then-node_has_point
has_point-returns-then-node_has_point t c =
    let points : node_has_point c.node-item.result ≡ true = search rules in
    let some = one-passes node_has_point c.children-node-items.result.now c.loop-node.node-index c.node-item.result c.loop-node-test.true c.node-item.is points c.loop-node.invariant in
    point_some c.args.element.now (rw c.children-node-items.ensures at some)

pub has_point-returns : goal.has_point-returns
has_point-returns t c =
    let name : is_point (name_of c.args.element.now) ≡ false = search rules in
    let none : list_any node_has_point c.children-node-items.result.now ≡ false = sym c.loop-node.invariant ∙ at_drop_all (list_any node_has_point) c.children-node-items.result.now c.loop-node.node-index c.loop-node-test.false in
    point_none c.args.element.now name (rw c.children-node-items.ensures at none)
