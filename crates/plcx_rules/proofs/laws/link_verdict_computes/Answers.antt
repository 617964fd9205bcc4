use Rattle.plcx_rules.specs.LinkRules.{link_rules}
use Rattle.plcx_rules.proofs.Computed.{computed}
use Rattle.plcx_rules.proofs.laws.link_verdict_computes.Goals as goal

pub returns : goal.returns
returns c = λ project. computed project.pous link_rules
