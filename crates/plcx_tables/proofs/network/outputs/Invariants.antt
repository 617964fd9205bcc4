use Rattle.std.proofs.Common.{take}
use Rattle.plcx_targets.specs.Labels.{network_of}
use Rattle.plcx_tables.specs.Named.{MemoriesTold}
use Rattle.plcx_tables.specs.Owned.{places_of}
use Rattle.plcx_tables.specs.Numbering.{outputs}
use Rattle.plcx_tables.proofs.network.outputs.Given as goal

abbrev pub invariant-loop-place : goal.invariant-loop-place
invariant-loop-place l = MemoriesTold l.all.numbers.entries l.all.count (places_of (outputs (network_of l.elements (take l.place-index l.places))))
