use Rattle.std.proofs.Common.{refl}
use Rattle.std.specs.Fmt.{digits}
use Rattle.plcx_cover.proofs.examples.examples_of_coverage.Goals as goal

pub returns-clause-motor : goal.returns-clause-motor
unfolding digits
returns-clause-motor c = refl

pub returns-clause-not_run : goal.returns-clause-not_run
unfolding digits
returns-clause-not_run c = refl

pub returns-clause-cut : goal.returns-clause-cut
unfolding digits
returns-clause-cut c = refl

pub returns-clause-at_the_end : goal.returns-clause-at_the_end
returns-clause-at_the_end c = refl
