use Rattle.std.proofs.Common.{take}
use Rattle.plcx_targets.specs.Labels.{network_of}
use Rattle.plcx_bodies.specs.Parts.{ArePartsOf}
use Rattle.plcx_bodies.proofs.parts.parts_of.Given as goal

abbrev pub invariant-loop-place : goal.invariant-loop-place
invariant-loop-place g l = ArePartsOf (g.N.Numbers.numbering l.numbers) l.targets (network_of l.elements (take l.place-index l.places)) l.all
