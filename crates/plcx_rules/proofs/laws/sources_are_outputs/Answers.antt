use Rattle.plcx_rules.proofs.Graphs.{have_sources}
use Rattle.plcx_rules.proofs.Counted.{are_outputs, are_counted}
use Rattle.plcx_rules.proofs.laws.sources_are_outputs.Goals as goal

pub returns-clause-outputs : goal.returns-clause-outputs
returns-clause-outputs c = are_outputs

pub returns-clause-sources : goal.returns-clause-sources
returns-clause-sources c = have_sources

pub returns-clause-counts : goal.returns-clause-counts
returns-clause-counts c = are_counted
