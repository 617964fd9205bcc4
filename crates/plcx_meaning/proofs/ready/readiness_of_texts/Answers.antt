use Rattle.plcx_meaning.proofs.ReadyRows.{is_ready, unbound_not, bound_to_number_not, bound_to_temporary_not, undeclared_not, undeclared_target_not, mistyped_not, no_condition_not, operator_called_not, input_read_not, equal_labels_not, large_label_not, formal_twice_not, formal_unknown_not, out_of_range_not, declared_twice_not, listed_name_not, wrong_initial_not, stored_constant_not, instance_as_input_not, program_in_out_not, unknown_type_not, stored_input_not, within_itself_not}
use Rattle.plcx_meaning.proofs.ready.readiness_of_texts.Goals as goal

pub returns-clause-ready : goal.returns-clause-ready
returns-clause-ready c = is_ready

pub returns-clause-unbound : goal.returns-clause-unbound
returns-clause-unbound c = unbound_not

pub returns-clause-bound_to_number : goal.returns-clause-bound_to_number
returns-clause-bound_to_number c = bound_to_number_not

pub returns-clause-bound_to_temporary : goal.returns-clause-bound_to_temporary
returns-clause-bound_to_temporary c = bound_to_temporary_not

pub returns-clause-undeclared : goal.returns-clause-undeclared
returns-clause-undeclared c = undeclared_not

pub returns-clause-undeclared_target : goal.returns-clause-undeclared_target
returns-clause-undeclared_target c = undeclared_target_not

pub returns-clause-mistyped : goal.returns-clause-mistyped
returns-clause-mistyped c = mistyped_not

pub returns-clause-no_condition : goal.returns-clause-no_condition
returns-clause-no_condition c = no_condition_not

pub returns-clause-operator_called : goal.returns-clause-operator_called
returns-clause-operator_called c = operator_called_not

pub returns-clause-input_read : goal.returns-clause-input_read
returns-clause-input_read c = input_read_not

pub returns-clause-equal_labels : goal.returns-clause-equal_labels
returns-clause-equal_labels c = equal_labels_not

pub returns-clause-large_label : goal.returns-clause-large_label
returns-clause-large_label c = large_label_not

pub returns-clause-formal_twice : goal.returns-clause-formal_twice
returns-clause-formal_twice c = formal_twice_not

pub returns-clause-formal_unknown : goal.returns-clause-formal_unknown
returns-clause-formal_unknown c = formal_unknown_not

pub returns-clause-out_of_range : goal.returns-clause-out_of_range
returns-clause-out_of_range c = out_of_range_not

pub returns-clause-declared_twice : goal.returns-clause-declared_twice
returns-clause-declared_twice c = declared_twice_not

pub returns-clause-listed_name : goal.returns-clause-listed_name
returns-clause-listed_name c = listed_name_not

pub returns-clause-wrong_initial : goal.returns-clause-wrong_initial
returns-clause-wrong_initial c = wrong_initial_not

pub returns-clause-stored_constant : goal.returns-clause-stored_constant
returns-clause-stored_constant c = stored_constant_not

pub returns-clause-instance_as_input : goal.returns-clause-instance_as_input
returns-clause-instance_as_input c = instance_as_input_not

pub returns-clause-program_in_out : goal.returns-clause-program_in_out
returns-clause-program_in_out c = program_in_out_not

pub returns-clause-unknown_type : goal.returns-clause-unknown_type
returns-clause-unknown_type c = unknown_type_not

pub returns-clause-stored_input : goal.returns-clause-stored_input
returns-clause-stored_input c = stored_input_not

pub returns-clause-within_itself : goal.returns-clause-within_itself
returns-clause-within_itself c = within_itself_not
