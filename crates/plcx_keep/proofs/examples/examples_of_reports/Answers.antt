use Rattle.std.proofs.Common.{refl}
use Rattle.std.specs.Fmt.{digits}
use Rattle.plcx_keep.proofs.examples.examples_of_reports.Goals as goal

pub returns-clause-lines : goal.returns-clause-lines
unfolding digits
returns-clause-lines c = refl

pub returns-clause-changed_and_fresh : goal.returns-clause-changed_and_fresh
unfolding digits
returns-clause-changed_and_fresh c = refl

pub returns-clause-fresh_and_dropped : goal.returns-clause-fresh_and_dropped
unfolding digits
returns-clause-fresh_and_dropped c = refl
