use Rattle.std.proofs.Common.{refl}
use Rattle.plcx_rules.proofs.Computing.{computing}
use Rattle.plcx_rules.proofs.examples.examples_of_formals.Goals as goal

pub returns-clause-gap_in_the_inputs : goal.returns-clause-gap_in_the_inputs
unfolding computing
returns-clause-gap_in_the_inputs c = refl

pub returns-clause-no_gap_in_the_inputs : goal.returns-clause-no_gap_in_the_inputs
unfolding computing
returns-clause-no_gap_in_the_inputs c = refl

pub returns-clause-one_input_of_two : goal.returns-clause-one_input_of_two
unfolding computing
returns-clause-one_input_of_two c = refl

pub returns-clause-leading_zero : goal.returns-clause-leading_zero
unfolding computing
returns-clause-leading_zero c = refl

pub returns-clause-selector_missing : goal.returns-clause-selector_missing
unfolding computing
returns-clause-selector_missing c = refl

pub returns-clause-selector_given : goal.returns-clause-selector_given
unfolding computing
returns-clause-selector_given c = refl

pub returns-clause-two_enables : goal.returns-clause-two_enables
unfolding computing
returns-clause-two_enables c = refl

pub returns-clause-two_enables_of_which_one_counts : goal.returns-clause-two_enables_of_which_one_counts
unfolding computing
returns-clause-two_enables_of_which_one_counts c = refl

pub returns-clause-enable_as_output : goal.returns-clause-enable_as_output
unfolding computing
returns-clause-enable_as_output c = refl

pub returns-clause-enable_output : goal.returns-clause-enable_output
unfolding computing
returns-clause-enable_output c = refl

pub returns-clause-hidden_leaf : goal.returns-clause-hidden_leaf
unfolding computing
returns-clause-hidden_leaf c = refl

pub returns-clause-second_result : goal.returns-clause-second_result
unfolding computing
returns-clause-second_result c = refl

pub returns-clause-two_results_of_no_name : goal.returns-clause-two_results_of_no_name
unfolding computing
returns-clause-two_results_of_no_name c = refl

pub returns-clause-result_listed : goal.returns-clause-result_listed
unfolding computing
returns-clause-result_listed c = refl

pub returns-clause-in_out_missing : goal.returns-clause-in_out_missing
unfolding computing
returns-clause-in_out_missing c = refl

pub returns-clause-in_out_twice : goal.returns-clause-in_out_twice
unfolding computing
returns-clause-in_out_twice c = refl

pub returns-clause-in_out_as_input : goal.returns-clause-in_out_as_input
unfolding computing
returns-clause-in_out_as_input c = refl

pub returns-clause-local_as_a_pin : goal.returns-clause-local_as_a_pin
unfolding computing
returns-clause-local_as_a_pin c = refl

pub returns-clause-pins_of_a_block : goal.returns-clause-pins_of_a_block
unfolding computing
returns-clause-pins_of_a_block c = refl
