use Rattle.std.proofs.Common.{◌≡◌, ℕ, slice_index, take}
use Rattle.std.specs.List.{All}
use Rattle.plcx_model.specs.Shown.{graph_of}
use Rattle.plcx_model.specs.Networks.{Listed}
use Rattle.plcx_order.specs.Counts.{IsEntry, one, entries_of}
use Rattle.plcx_order.proofs.listing.first.Given as goal

abbrev pub invariant-loop-k : goal.invariant-loop-k
invariant-loop-k l = record {
  seen : (w : ℕ) → Listed (take l.k l.network) w → entries_of l.ready w ≡ one (slice_index l.waits.count.items w) 0;
  others : (w : ℕ) → (Listed (take l.k l.network) w → ⊥) → entries_of l.ready w ≡ 0;
  entries : All (IsEntry (graph_of l.wires) l.network) l.ready;
}
