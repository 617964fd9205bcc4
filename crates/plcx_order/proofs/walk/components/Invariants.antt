use Rattle.std.proofs.Common.{◌≡◌, ◌<◌, ℕ, length, get_or}
use Rattle.plcx_order.specs.Walks.{IsUnderWay}
use Rattle.plcx_order.specs.declared.walk.Place.TheVariants.{Unseen}
use Rattle.plcx_model.specs.Shown.{graph_of}
use Rattle.plcx_order.proofs.walk.components.Given as goal

abbrev pub invariant-loop-root : goal.invariant-loop-root
invariant-loop-root l = record {
  under_way : IsUnderWay (graph_of l.wires) l.walk;
  empty : length l.walk.starts.items ≡ 0;
  seen : (v : ℕ) → v < l.root → get_or l.walk.place.items v Unseen ≡ Unseen → ⊥;
}
