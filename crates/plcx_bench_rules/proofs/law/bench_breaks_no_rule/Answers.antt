use Rattle.plcx_bench_rules.proofs.Unbroken.{unbroken}
use Rattle.plcx_bench_rules.proofs.law.bench_breaks_no_rule.Goals as goal

pub returns : goal.returns
returns c = unbroken
