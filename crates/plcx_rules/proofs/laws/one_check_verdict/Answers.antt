use Rattle.plcx_rules.proofs.OneCheck.{one-check}
use Rattle.plcx_rules.proofs.laws.one_check_verdict.Goals as goal

pub returns : goal.returns
returns c = one-check
