use Rattle.std.proofs.Common.{refl}
use Rattle.plcx_types.specs.Reserved.{is_conversion}
use Rattle.plcx_conditions.proofs.examples.examples_of_conditions.Goals as goal

pub returns-clause-doubled_block : goal.returns-clause-doubled_block
unfolding is_conversion
returns-clause-doubled_block c = refl

pub returns-clause-name_of_a_timer : goal.returns-clause-name_of_a_timer
unfolding is_conversion
returns-clause-name_of_a_timer c = refl

pub returns-clause-program_as_a_type : goal.returns-clause-program_as_a_type
unfolding is_conversion
returns-clause-program_as_a_type c = refl

pub returns-clause-doubled_variable : goal.returns-clause-doubled_variable
unfolding is_conversion
returns-clause-doubled_variable c = refl

pub returns-clause-instance_as_a_value : goal.returns-clause-instance_as_a_value
unfolding is_conversion
returns-clause-instance_as_a_value c = refl

pub returns-clause-no_instance : goal.returns-clause-no_instance
unfolding is_conversion
returns-clause-no_instance c = refl

pub returns-clause-input_as_a_member : goal.returns-clause-input_as_a_member
unfolding is_conversion
returns-clause-input_as_a_member c = refl

pub returns-clause-unknown_type : goal.returns-clause-unknown_type
unfolding is_conversion
returns-clause-unknown_type c = refl

pub returns-clause-unknown_argument : goal.returns-clause-unknown_argument
unfolding is_conversion
returns-clause-unknown_argument c = refl

pub returns-clause-operator_by_name : goal.returns-clause-operator_by_name
unfolding is_conversion
returns-clause-operator_by_name c = refl

pub returns-clause-brackets : goal.returns-clause-brackets
unfolding is_conversion
returns-clause-brackets c = refl

pub returns-clause-type_is_told_once : goal.returns-clause-type_is_told_once
unfolding is_conversion
returns-clause-type_is_told_once c = refl

pub returns-clause-formal_twice : goal.returns-clause-formal_twice
unfolding is_conversion
returns-clause-formal_twice c = refl

pub returns-clause-unknown_formal : goal.returns-clause-unknown_formal
unfolding is_conversion
returns-clause-unknown_formal c = refl

pub returns-clause-in_outs : goal.returns-clause-in_outs
unfolding is_conversion
returns-clause-in_outs c = refl

pub returns-clause-unknown_in_an_in_out : goal.returns-clause-unknown_in_an_in_out
unfolding is_conversion
returns-clause-unknown_in_an_in_out c = refl

pub returns-clause-doubled_in_out : goal.returns-clause-doubled_in_out
unfolding is_conversion
returns-clause-doubled_in_out c = refl

pub returns-clause-instance_as_an_input : goal.returns-clause-instance_as_an_input
unfolding is_conversion
returns-clause-instance_as_an_input c = refl

pub returns-clause-initials : goal.returns-clause-initials
unfolding is_conversion
returns-clause-initials c = refl

pub returns-clause-standing_places : goal.returns-clause-standing_places
unfolding is_conversion
returns-clause-standing_places c = refl

pub returns-clause-targets : goal.returns-clause-targets
unfolding is_conversion
returns-clause-targets c = refl

pub returns-clause-labels : goal.returns-clause-labels
unfolding is_conversion
returns-clause-labels c = refl

pub returns-clause-block_in_itself : goal.returns-clause-block_in_itself
unfolding is_conversion
returns-clause-block_in_itself c = refl

pub returns-clause-doubled_in_a_chain : goal.returns-clause-doubled_in_a_chain
unfolding is_conversion
returns-clause-doubled_in_a_chain c = refl
