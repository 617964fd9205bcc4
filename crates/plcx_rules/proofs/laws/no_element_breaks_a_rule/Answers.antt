use Rattle.plcx_rules.proofs.Kept.{none_breaks}
use Rattle.plcx_rules.proofs.laws.no_element_breaks_a_rule.Goals as goal

pub returns : goal.returns
returns c = none_breaks
