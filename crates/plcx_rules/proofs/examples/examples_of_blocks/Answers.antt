use Rattle.std.proofs.Common.{refl}
use Rattle.plcx_rules.proofs.Computing.{computing}
use Rattle.plcx_rules.proofs.examples.examples_of_blocks.Goals as goal

pub returns-clause-unknown_block : goal.returns-clause-unknown_block
unfolding computing
returns-clause-unknown_block c = refl

pub returns-clause-known_block : goal.returns-clause-known_block
unfolding computing
returns-clause-known_block c = refl

pub returns-clause-program_as_a_block : goal.returns-clause-program_as_a_block
unfolding computing
returns-clause-program_as_a_block c = refl

pub returns-clause-conversion_to_itself : goal.returns-clause-conversion_to_itself
unfolding computing
returns-clause-conversion_to_itself c = refl

pub returns-clause-instance_of_another_type : goal.returns-clause-instance_of_another_type
unfolding computing
returns-clause-instance_of_another_type c = refl

pub returns-clause-no_instance : goal.returns-clause-no_instance
unfolding computing
returns-clause-no_instance c = refl

pub returns-clause-instance_of_a_function : goal.returns-clause-instance_of_a_function
unfolding computing
returns-clause-instance_of_a_function c = refl

pub returns-clause-no_instance_of_a_function : goal.returns-clause-no_instance_of_a_function
unfolding computing
returns-clause-no_instance_of_a_function c = refl
