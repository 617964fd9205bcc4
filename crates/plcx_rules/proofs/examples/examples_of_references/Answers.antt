use Rattle.std.proofs.Common.{refl}
use Rattle.plcx_rules.proofs.Computing.{computing}
use Rattle.plcx_rules.proofs.examples.examples_of_references.Goals as goal

pub returns-clause-one_id_twice : goal.returns-clause-one_id_twice
unfolding computing
returns-clause-one_id_twice c = refl

pub returns-clause-one_id_in_two_bodies : goal.returns-clause-one_id_in_two_bodies
unfolding computing
returns-clause-one_id_in_two_bodies c = refl

pub returns-clause-id_of_a_comment : goal.returns-clause-id_of_a_comment
unfolding computing
returns-clause-id_of_a_comment c = refl

pub returns-clause-unknown_reference : goal.returns-clause-unknown_reference
unfolding computing
returns-clause-unknown_reference c = refl

pub returns-clause-known_reference : goal.returns-clause-known_reference
unfolding computing
returns-clause-known_reference c = refl

pub returns-clause-unknown_reference_at_a_rail : goal.returns-clause-unknown_reference_at_a_rail
unfolding computing
returns-clause-unknown_reference_at_a_rail c = refl

pub returns-clause-output_of_two : goal.returns-clause-output_of_two
unfolding computing
returns-clause-output_of_two c = refl

pub returns-clause-output_named : goal.returns-clause-output_named
unfolding computing
returns-clause-output_named c = refl

pub returns-clause-output_not_listed : goal.returns-clause-output_not_listed
unfolding computing
returns-clause-output_not_listed c = refl

pub returns-clause-output_of_a_connector : goal.returns-clause-output_of_a_connector
unfolding computing
returns-clause-output_of_a_connector c = refl

pub returns-clause-output_of_a_continuation : goal.returns-clause-output_of_a_continuation
unfolding computing
returns-clause-output_of_a_continuation c = refl

pub returns-clause-result_of_another_name : goal.returns-clause-result_of_another_name
unfolding computing
returns-clause-result_of_another_name c = refl

pub returns-clause-result_of_no_name : goal.returns-clause-result_of_no_name
unfolding computing
returns-clause-result_of_no_name c = refl

pub returns-clause-result_and_eno : goal.returns-clause-result_and_eno
unfolding computing
returns-clause-result_and_eno c = refl

pub returns-clause-output_of_an_unknown_block : goal.returns-clause-output_of_an_unknown_block
unfolding computing
returns-clause-output_of_an_unknown_block c = refl

pub returns-clause-unknown_output_of_an_unknown_block : goal.returns-clause-unknown_output_of_an_unknown_block
unfolding computing
returns-clause-unknown_output_of_an_unknown_block c = refl

pub returns-clause-in_out_as_output : goal.returns-clause-in_out_as_output
unfolding computing
returns-clause-in_out_as_output c = refl
