use Rattle.std.proofs.Common.{refl}
use Rattle.std.specs.Fmt.{digits}
use Rattle.plcx_meaning.proofs.examples.examples_of_feedback.Goals as goal

pub returns-clause-counting_diagram : goal.returns-clause-counting_diagram
returns-clause-counting_diagram c = refl

pub returns-clause-counting_text : goal.returns-clause-counting_text
unfolding digits
returns-clause-counting_text c = refl

pub returns-clause-saturating_diagram : goal.returns-clause-saturating_diagram
returns-clause-saturating_diagram c = refl

pub returns-clause-saturating_text : goal.returns-clause-saturating_text
unfolding digits
returns-clause-saturating_text c = refl

pub returns-clause-feedback_pair_diagram : goal.returns-clause-feedback_pair_diagram
returns-clause-feedback_pair_diagram c = refl

pub returns-clause-feedback_pair_text : goal.returns-clause-feedback_pair_text
unfolding digits
returns-clause-feedback_pair_text c = refl

pub returns-clause-disabled_diagram : goal.returns-clause-disabled_diagram
returns-clause-disabled_diagram c = refl

pub returns-clause-disabled_text : goal.returns-clause-disabled_text
unfolding digits
returns-clause-disabled_text c = refl

pub returns-clause-counting_statements : goal.returns-clause-counting_statements
unfolding digits
returns-clause-counting_statements c = refl

pub returns-clause-counting_blocks : goal.returns-clause-counting_blocks
unfolding digits
returns-clause-counting_blocks c = refl
