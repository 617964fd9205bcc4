use Rattle.plcx_bench.proofs.OneSummary.{one_summary}
use Rattle.plcx_bench.proofs.law.one_summary.Goals as goal

pub returns : goal.returns
returns c = one_summary c.one_diagram.ensures
