use Rattle.std.proofs.Common.{◌<◌, ◌≤◌, ℕ, [], length, get_or, take}
use Rattle.plcx_model.specs.Shown.{graph_of}
use Rattle.plcx_model.specs.Orders.{AreOrders}
use Rattle.plcx_order.specs.Counts.{IsWaiting, IsUntouched}
use Rattle.plcx_order.proofs.listing.list_networks.Given as goal

abbrev pub invariant-loop-k : goal.invariant-loop-k
invariant-loop-k l = record {
  orders : AreOrders (graph_of l.wires) (take l.k l.networks) l.orders.items;
  waiting : IsWaiting (graph_of l.wires) l.marks l.waits.awaited.items l.waits.count.items;
  untouched : (j : ℕ) → l.k ≤ j → j < length l.networks → IsUntouched (graph_of l.wires) l.marks l.waits.awaited.items (get_or l.networks j []);
}
