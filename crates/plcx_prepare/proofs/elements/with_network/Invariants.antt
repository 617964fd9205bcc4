use Rattle.std.proofs.Common.{take}
use Rattle.plcx_drawn.specs.Shown.{shown_network}
use Rattle.plcx_prepare.specs.Emitted.{Adds}
use Rattle.plcx_prepare.proofs.elements.with_network.Given as goal

abbrev pub invariant-loop-place : goal.invariant-loop-place
invariant-loop-place g l = Adds (g.N.Numbers.numbering l.numbers) (shown_network l.drawing (take l.place-index l.places)) l.fn.before l.all
