use Rattle.std.proofs.Common.{◌≡◌, length, sym, ◌∙◌, ap, arith}
use Rattle.plcx_order.specs.Walks.{state_of}
use Rattle.plcx_order.proofs.Moves.{push, push_keeps_seen, open≢unseen}
use Rattle.plcx_model.specs.Graph.{elements}
use Rattle.plcx_model.specs.Shown.{graph_of}
use Rattle.plcx_order.proofs.walk.Walk.visit.Goals as goal

pub loop-self-init : goal.loop-self-init
loop-self-init c =
    let way = c.requires.under_way in
    let g = way.good in
    let o = c.in_ok-open.ensures.opens in
    let empty : length c.args.self.now.stack.items ≡ 0 = g.some c.requires.empty in
    record {
      under_way = record {
        places = c.in_ok-open.ensures.places ∙ way.places;
        lefts = ap (λ x. length x.items) c.in_ok-open.ensures.left ∙ way.lefts;
        good = push (elements (graph_of c.args.wires.now)) (graph_of c.args.wires.now).wires (state_of c.args.self.now) (state_of c.open.new.self) c.args.root c.args.wires.now.graph.within c.requires.root (c.is_unseen.ensures.0 c.if-not-is_unseen.false) g o (λ p h. absurd (omega arith));
      };
      seen = push_keeps_seen (elements (graph_of c.args.wires.now)) (state_of c.args.self.now) (state_of c.open.new.self) c.args.root o;
      root = λ e. open≢unseen (length c.args.self.now.stack.items) (sym o.place_here ∙ e);
    }
