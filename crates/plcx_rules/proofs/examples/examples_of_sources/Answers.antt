use Rattle.std.proofs.Common.{refl}
use Rattle.plcx_rules.proofs.Computing.{computing}
use Rattle.plcx_rules.proofs.examples.examples_of_sources.Goals as goal

pub returns-clause-wired : goal.returns-clause-wired
unfolding computing
returns-clause-wired c = refl

pub returns-clause-wired_is_kept : goal.returns-clause-wired_is_kept
unfolding computing
returns-clause-wired_is_kept c = refl

pub returns-clause-loose : goal.returns-clause-loose
unfolding computing
returns-clause-loose c = refl
