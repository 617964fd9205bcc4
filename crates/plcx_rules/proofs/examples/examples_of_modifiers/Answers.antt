use Rattle.std.proofs.Common.{refl}
use Rattle.plcx_rules.proofs.Computing.{computing}
use Rattle.plcx_rules.proofs.examples.examples_of_modifiers.Goals as goal

pub returns-clause-contact_negated_at_an_edge : goal.returns-clause-contact_negated_at_an_edge
unfolding computing
returns-clause-contact_negated_at_an_edge c = refl

pub returns-clause-contact_at_an_edge : goal.returns-clause-contact_at_an_edge
unfolding computing
returns-clause-contact_at_an_edge c = refl

pub returns-clause-contact_that_stores : goal.returns-clause-contact_that_stores
unfolding computing
returns-clause-contact_that_stores c = refl

pub returns-clause-coil_negated_and_set : goal.returns-clause-coil_negated_and_set
unfolding computing
returns-clause-coil_negated_and_set c = refl

pub returns-clause-coil_at_an_edge : goal.returns-clause-coil_at_an_edge
unfolding computing
returns-clause-coil_at_an_edge c = refl

pub returns-clause-target_at_an_edge : goal.returns-clause-target_at_an_edge
unfolding computing
returns-clause-target_at_an_edge c = refl

pub returns-clause-target_that_sets : goal.returns-clause-target_that_sets
unfolding computing
returns-clause-target_that_sets c = refl

pub returns-clause-value_at_an_edge : goal.returns-clause-value_at_an_edge
unfolding computing
returns-clause-value_at_an_edge c = refl

pub returns-clause-value_negated : goal.returns-clause-value_negated
unfolding computing
returns-clause-value_negated c = refl

pub returns-clause-pin_that_stores : goal.returns-clause-pin_that_stores
unfolding computing
returns-clause-pin_that_stores c = refl

pub returns-clause-absent_enable_that_stores : goal.returns-clause-absent_enable_that_stores
unfolding computing
returns-clause-absent_enable_that_stores c = refl

pub returns-clause-in_out_negated : goal.returns-clause-in_out_negated
unfolding computing
returns-clause-in_out_negated c = refl

pub returns-clause-in_out_of_a_negated_value : goal.returns-clause-in_out_of_a_negated_value
unfolding computing
returns-clause-in_out_of_a_negated_value c = refl

pub returns-clause-in_out_of_a_value_at_an_edge : goal.returns-clause-in_out_of_a_value_at_an_edge
unfolding computing
returns-clause-in_out_of_a_value_at_an_edge c = refl

pub returns-clause-in_out_before_a_value_at_an_edge : goal.returns-clause-in_out_before_a_value_at_an_edge
unfolding computing
returns-clause-in_out_before_a_value_at_an_edge c = refl

pub returns-clause-contact_in_a_function_diagram : goal.returns-clause-contact_in_a_function_diagram
unfolding computing
returns-clause-contact_in_a_function_diagram c = refl

pub returns-clause-contact_in_a_ladder : goal.returns-clause-contact_in_a_ladder
unfolding computing
returns-clause-contact_in_a_ladder c = refl

pub returns-clause-rails_before_modifiers : goal.returns-clause-rails_before_modifiers
unfolding computing
returns-clause-rails_before_modifiers c = refl

pub returns-clause-later_pou_first : goal.returns-clause-later_pou_first
unfolding computing
returns-clause-later_pou_first c = refl
