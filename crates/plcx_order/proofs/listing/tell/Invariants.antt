use Rattle.std.proofs.Common.{◌≡◌, ◌<◌, ◌≤◌, ◌+◌, ◌-◌, ℕ, length, slice_index}
use Rattle.std.specs.List.{All}
use Rattle.plcx_model.specs.Graph.{elements, from_at}
use Rattle.plcx_model.specs.Shown.{graph_of}
use Rattle.plcx_order.specs.Counts.{IsWholeCount, IsEntry, HasHeard, one, entries_of}
use Rattle.plcx_order.proofs.listing.tell.Given as goal

abbrev pub invariant-loop-next : goal.invariant-loop-next
invariant-loop-next l = record {
  bound : l.next ≤ length (graph_of l.wires).wires;
  out : 0 < l.next → from_at (graph_of l.wires).wires (l.next - 1) ≡ l.x;
  counted : IsWholeCount (graph_of l.wires) l.waits.awaited.items l.waits.count.items;
  heard : HasHeard (graph_of l.wires).wires l.fn.waits.awaited.items l.waits.awaited.items l.x l.next;
  balance : (w : ℕ) → w < elements (graph_of l.wires) → entries_of l.ready w + one (slice_index l.fn.waits.count.items w) 0 ≡ entries_of l.fn.ready w + one (slice_index l.waits.count.items w) 0;
  entries : All (IsEntry (graph_of l.wires) l.network) l.ready;
}

abbrev pub decreases-loop-next : goal.decreases-loop-next
decreases-loop-next l = l.next
