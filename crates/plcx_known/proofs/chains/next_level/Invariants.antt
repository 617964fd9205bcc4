use Rattle.std.proofs.Common.{◌≡◌, ◌++◌, drop, map}
use Rattle.plcx_known.specs.Chains.{one_leads_on, next_level}
use Rattle.plcx_known.proofs.chains.next_level.Given as goal

abbrev pub invariant-loop-owner : goal.invariant-loop-owner
invariant-loop-owner l = l.next.items ++ map (one_leads_on l.level) (drop l.owner-index l.owners) ≡ next_level l.owners l.level
