use Rattle.std.proofs.Common.{subst, arith}
use Rattle.plcx_model.specs.Graph.{TakesPart}
use Rattle.plcx_model.specs.Paths.{IsWire}
use Rattle.plcx_model.specs.Shown.{graph_of}
use Rattle.plcx_order.proofs.LinkSteps.{links_more}
use Rattle.plcx_order.proofs.links.links.Goals as goal

pub loop-i-preserved : goal.loop-i-preserved
loop-i-preserved g c =
    let graph = graph_of c.args.wires.now in
    let i = c.loop-i.i in
    let new = c.add.new.links.items in
    let e = c.in_ok-add.ensures in
    let forth = subst (λ w. TakesPart graph w.from.element → TakesPart graph w.to.element → IsWire new w.from.element w.to.element) c.look-wire.ensures.value e.forth in
    let back = subst (λ w. TakesPart graph w.from.element → TakesPart graph w.to.element → IsWire new w.to.element w.from.element) c.look-wire.ensures.value e.back in
    record {
      links = links_more graph i c.loop-i.links.items new c.loop-i.invariant.links e.sound e.kept forth back;
      cost = omega arith;
    }
