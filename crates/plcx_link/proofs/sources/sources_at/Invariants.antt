use Rattle.std.proofs.Common.{◌≡◌, ◌++◌, drop}
use Rattle.plcx_rules.specs.Sources.{sources_at}
use Rattle.plcx_link.proofs.sources.sources_at.Given as goal

abbrev pub invariant-loop-connection : goal.invariant-loop-connection
invariant-loop-connection l = l.sources ++ sources_at l.body.owner.body.elements (drop l.connection-index l.connections) ≡ sources_at l.body.owner.body.elements l.connections
