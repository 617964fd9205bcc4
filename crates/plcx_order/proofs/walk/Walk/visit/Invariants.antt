use Rattle.std.proofs.Common.{◌≡◌, get_or}
use Rattle.plcx_order.specs.Walks.{state_of, IsUnderWay, KeepsSeen, work}
use Rattle.plcx_order.specs.declared.walk.Place.TheVariants.{Unseen}
use Rattle.plcx_model.specs.Graph.{elements}
use Rattle.plcx_model.specs.Shown.{graph_of}
use Rattle.plcx_order.proofs.walk.Walk.visit.Given as goal

abbrev pub invariant-loop-self : goal.invariant-loop-self
invariant-loop-self l = record {
  under_way : IsUnderWay (graph_of l.wires) l.self;
  seen : KeepsSeen (elements (graph_of l.wires)) (state_of l.fn.self) (state_of l.self);
  root : get_or l.self.place.items l.root Unseen ≡ Unseen → ⊥;
}

abbrev pub decreases-loop-self : goal.decreases-loop-self
decreases-loop-self l = work l.self
