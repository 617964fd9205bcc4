use Rattle.plcx_targets.specs.Labels.{network_of}
use Rattle.plcx_tables.specs.Named.{MemoriesTold}
use Rattle.plcx_tables.specs.Owned.{places_of}
use Rattle.plcx_tables.specs.Numbering.{outputs}
use Rattle.plcx_tables.proofs.Places.{outputs_more}
use Rattle.std.proofs.Common.{take}
use Rattle.plcx_tables.proofs.network.outputs.Goals as goal

pub loop-place-preserved : goal.loop-place-preserved
loop-place-preserved c =
    let after = c.in_ok-all.all in
    let elements = c.args.elements.now in
    let places = c.args.places.now in
    let i = c.loop-place.place-index in
    outputs_more (λ ms. MemoriesTold after.numbers.entries after.count (places_of ms)) elements places i 0 c.loop-place-test.true (c.in_ok-all.ensures (outputs (network_of elements (take i places))) c.loop-place.invariant)
