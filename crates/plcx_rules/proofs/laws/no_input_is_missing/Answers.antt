use Rattle.plcx_rules.proofs.Missing.{none_is_missing}
use Rattle.plcx_rules.proofs.laws.no_input_is_missing.Goals as goal

pub returns : goal.returns
returns c = none_is_missing
