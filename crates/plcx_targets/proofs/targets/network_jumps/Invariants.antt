use Rattle.std.proofs.Common.{◌≡◌, drop}
use Rattle.std.specs.List.{list_any}
use Rattle.plcx_meaning.specs.Diagram.{is_jump}
use Rattle.plcx_targets.specs.Labels.{network_of}
use Rattle.plcx_targets.proofs.targets.network_jumps.Given as goal

-- none so far jumps
abbrev pub invariant-loop-place : goal.invariant-loop-place
invariant-loop-place l = list_any is_jump (network_of l.elements (drop l.place-index l.places)) ≡ list_any is_jump (network_of l.elements l.places)
