use Rattle.std.proofs.Common.{refl}
use Rattle.plcx_rules.proofs.Computing.{computing}
use Rattle.plcx_rules.proofs.examples.examples_of_names.Goals as goal

pub returns-clause-connector_twice : goal.returns-clause-connector_twice
unfolding computing
returns-clause-connector_twice c = refl

pub returns-clause-connectors_of_two_names : goal.returns-clause-connectors_of_two_names
unfolding computing
returns-clause-connectors_of_two_names c = refl

pub returns-clause-continuation_of_nothing : goal.returns-clause-continuation_of_nothing
unfolding computing
returns-clause-continuation_of_nothing c = refl

pub returns-clause-continuation_before_its_connector : goal.returns-clause-continuation_before_its_connector
unfolding computing
returns-clause-continuation_before_its_connector c = refl

pub returns-clause-label_twice : goal.returns-clause-label_twice
unfolding computing
returns-clause-label_twice c = refl

pub returns-clause-label_and_connector : goal.returns-clause-label_and_connector
unfolding computing
returns-clause-label_and_connector c = refl

pub returns-clause-jump_to_nothing : goal.returns-clause-jump_to_nothing
unfolding computing
returns-clause-jump_to_nothing c = refl

pub returns-clause-jump_to_a_label : goal.returns-clause-jump_to_a_label
unfolding computing
returns-clause-jump_to_a_label c = refl
