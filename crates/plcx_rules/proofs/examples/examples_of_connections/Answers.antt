use Rattle.std.proofs.Common.{refl}
use Rattle.plcx_rules.proofs.Computing.{computing}
use Rattle.plcx_rules.proofs.examples.examples_of_connections.Goals as goal

pub returns-clause-two_sources : goal.returns-clause-two_sources
unfolding computing
returns-clause-two_sources c = refl

pub returns-clause-two_sources_in_a_ladder : goal.returns-clause-two_sources_in_a_ladder
unfolding computing
returns-clause-two_sources_in_a_ladder c = refl

pub returns-clause-no_source : goal.returns-clause-no_source
unfolding computing
returns-clause-no_source c = refl

pub returns-clause-rail_without_source : goal.returns-clause-rail_without_source
unfolding computing
returns-clause-rail_without_source c = refl

pub returns-clause-input_of_a_function : goal.returns-clause-input_of_a_function
unfolding computing
returns-clause-input_of_a_function c = refl

pub returns-clause-enable_of_a_function : goal.returns-clause-enable_of_a_function
unfolding computing
returns-clause-enable_of_a_function c = refl

pub returns-clause-in_out_of_two : goal.returns-clause-in_out_of_two
unfolding computing
returns-clause-in_out_of_two c = refl

pub returns-clause-in_out_of_one : goal.returns-clause-in_out_of_one
unfolding computing
returns-clause-in_out_of_one c = refl

pub returns-clause-in_out_of_a_timer : goal.returns-clause-in_out_of_a_timer
unfolding computing
returns-clause-in_out_of_a_timer c = refl
