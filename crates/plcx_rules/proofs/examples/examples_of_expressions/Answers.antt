use Rattle.std.proofs.Common.{refl}
use Rattle.plcx_rules.proofs.Computing.{computing}
use Rattle.plcx_rules.proofs.examples.examples_of_expressions.Goals as goal

pub returns-clause-output_of_an_instance : goal.returns-clause-output_of_an_instance
unfolding computing
returns-clause-output_of_an_instance c = refl

pub returns-clause-input_of_an_instance : goal.returns-clause-input_of_an_instance
unfolding computing
returns-clause-input_of_an_instance c = refl

pub returns-clause-enable_output_of_an_instance : goal.returns-clause-enable_output_of_an_instance
unfolding computing
returns-clause-enable_output_of_an_instance c = refl

pub returns-clause-instance_as_a_value : goal.returns-clause-instance_as_a_value
unfolding computing
returns-clause-instance_as_a_value c = refl

pub returns-clause-unknown_variable : goal.returns-clause-unknown_variable
unfolding computing
returns-clause-unknown_variable c = refl

pub returns-clause-literal_of_a_type : goal.returns-clause-literal_of_a_type
unfolding computing
returns-clause-literal_of_a_type c = refl

pub returns-clause-literal_outside_its_type : goal.returns-clause-literal_outside_its_type
unfolding computing
returns-clause-literal_outside_its_type c = refl

pub returns-clause-spaces_in_a_member : goal.returns-clause-spaces_in_a_member
unfolding computing
returns-clause-spaces_in_a_member c = refl

pub returns-clause-literal_at_a_contact : goal.returns-clause-literal_at_a_contact
unfolding computing
returns-clause-literal_at_a_contact c = refl

pub returns-clause-output_at_a_contact : goal.returns-clause-output_at_a_contact
unfolding computing
returns-clause-output_at_a_contact c = refl

pub returns-clause-output_of_no_instance : goal.returns-clause-output_of_no_instance
unfolding computing
returns-clause-output_of_no_instance c = refl

pub returns-clause-output_as_a_target : goal.returns-clause-output_as_a_target
unfolding computing
returns-clause-output_as_a_target c = refl

pub returns-clause-bad_literal_as_a_target : goal.returns-clause-bad_literal_as_a_target
unfolding computing
returns-clause-bad_literal_as_a_target c = refl

pub returns-clause-literal_as_a_target : goal.returns-clause-literal_as_a_target
unfolding computing
returns-clause-literal_as_a_target c = refl

pub returns-clause-input_as_a_target : goal.returns-clause-input_as_a_target
unfolding computing
returns-clause-input_as_a_target c = refl

pub returns-clause-constant_as_a_target : goal.returns-clause-constant_as_a_target
unfolding computing
returns-clause-constant_as_a_target c = refl

pub returns-clause-instance_as_a_target : goal.returns-clause-instance_as_a_target
unfolding computing
returns-clause-instance_as_a_target c = refl

pub returns-clause-output_variable_as_a_target : goal.returns-clause-output_variable_as_a_target
unfolding computing
returns-clause-output_variable_as_a_target c = refl

pub returns-clause-in_out_as_a_target : goal.returns-clause-in_out_as_a_target
unfolding computing
returns-clause-in_out_as_a_target c = refl

pub returns-clause-in_out_of_a_literal : goal.returns-clause-in_out_of_a_literal
unfolding computing
returns-clause-in_out_of_a_literal c = refl

pub returns-clause-in_out_of_a_constant : goal.returns-clause-in_out_of_a_constant
unfolding computing
returns-clause-in_out_of_a_constant c = refl

pub returns-clause-in_out_of_a_function : goal.returns-clause-in_out_of_a_function
unfolding computing
returns-clause-in_out_of_a_function c = refl
