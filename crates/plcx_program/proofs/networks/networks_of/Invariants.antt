use Rattle.std.proofs.Common.{take, map}
use Rattle.plcx_meaning.specs.Diagram.{Pou, Project}
use Rattle.plcx_drawn.specs.Shown.{shown_network}
use Rattle.plcx_program.specs.Bodies.{IsDrawn, HasNetworks}
use Rattle.plcx_program.proofs.networks.networks_of.Given as goal

abbrev pub invariant-loop-network : goal.invariant-loop-network
invariant-loop-network l = (project : Project) (p : Pou) → IsDrawn project l.tables.tables.now l.place l.drawing p → HasNetworks project p (map (shown_network l.drawing) (take l.network-index l.network-items)) l.fn.shared l.all
