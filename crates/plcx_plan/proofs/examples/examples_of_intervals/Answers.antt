use Rattle.plcx_plan.proofs.Texts.{literal_is, seconds_are_read, zeros_are_read, zero_is_none, lower_case_is_none, no_digit_is_none, no_whole_is_none}
use Rattle.plcx_plan.proofs.examples.examples_of_intervals.Goals as goal

pub returns-clause-literal : goal.returns-clause-literal
returns-clause-literal c = literal_is

pub returns-clause-seconds : goal.returns-clause-seconds
returns-clause-seconds c = seconds_are_read

pub returns-clause-zeros : goal.returns-clause-zeros
returns-clause-zeros c = zeros_are_read

pub returns-clause-zero : goal.returns-clause-zero
returns-clause-zero c = zero_is_none

pub returns-clause-lower_case : goal.returns-clause-lower_case
returns-clause-lower_case c = lower_case_is_none

pub returns-clause-no_digit : goal.returns-clause-no_digit
returns-clause-no_digit c = no_digit_is_none

pub returns-clause-no_whole : goal.returns-clause-no_whole
returns-clause-no_whole c = no_whole_is_none
