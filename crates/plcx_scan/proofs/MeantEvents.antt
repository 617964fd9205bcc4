-- Events that may follow, in the words of the meaning.
use Rattle.std.proofs.Common.{◌∷◌, ℕ, List, [], map, sym, ap}
use Rattle.plcx_types.specs.Lists.{Each}
use Rattle.plcx_meaning.specs.Run as run
use Rattle.plcx_meaning.proofs.Lists.{contains_map}
use Rattle.plcx_state.specs.declared.layout.Leaf.{Leaf}
use Rattle.plcx_state.specs.Layouts.{all_meant, meant}
use Rattle.plcx_scan.specs.declared.event.Input.{Input}
use Rattle.plcx_scan.specs.Events.{Event, Scan, Warm, Cold, path_of, meant_input, meant_events, IsInput, CanFollow}
use Rattle.plcx_scan.proofs.Headers.{contains_at}

input_meant : (leaves : List Leaf) (i : Input) → IsInput leaves i → run.IsInput (all_meant leaves) (meant_input leaves i)
input_meant leaves i h = (meant h.leaf, contains_map meant leaves h.leaf (contains_at leaves i.leaf h.leaf h.there), h.settable, sym (ap path_of h.there), h.range)

inputs_meant : (leaves : List Leaf) (is : List Input) → Each (IsInput leaves) is → Each (run.IsInput (all_meant leaves)) (map (meant_input leaves) is)
inputs_meant leaves [] h = tt
inputs_meant leaves (i ∷ is) h = (input_meant leaves i h.0, inputs_meant leaves is h.1)

pub events_meant : (leaves : List Leaf) (last : ℕ) (es : List Event) → CanFollow leaves last es → run.AreEvents (all_meant leaves) last (meant_events leaves es)
events_meant leaves last [] h = tt
events_meant leaves last (Scan time is ∷ es) h = (h.0.0.not_before, h.0.0.within, inputs_meant leaves is h.0.1, events_meant leaves _ es h.1)
events_meant leaves last (Warm ∷ es) h = events_meant leaves last es h.1
events_meant leaves last (Cold ∷ es) h = events_meant leaves last es h.1
