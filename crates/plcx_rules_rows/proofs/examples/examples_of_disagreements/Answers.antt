use Rattle.std.proofs.Common.{refl}
use Rattle.plcx_rules_rows.specs.TypingExamples as examples
use Rattle.plcx_rules_rows.proofs.Computing.{computing}
use Rattle.plcx_rules_rows.proofs.Checking.{checks}
use Rattle.plcx_rules_rows.proofs.examples.examples_of_disagreements.Goals as goal

pub returns-clause-another_type : goal.returns-clause-another_type
unfolding computing
returns-clause-another_type c = checks 3 examples.another_type (refl, (refl, tt))

pub returns-clause-the_same_type : goal.returns-clause-the_same_type
unfolding computing
returns-clause-the_same_type c = checks 3 examples.the_same_type (refl, (refl, tt))

pub returns-clause-two_types_in_a_group : goal.returns-clause-two_types_in_a_group
unfolding computing
returns-clause-two_types_in_a_group c = checks 3 examples.two_types_in_a_group (refl, (refl, (refl, (refl, tt))))

pub returns-clause-one_type_in_a_group : goal.returns-clause-one_type_in_a_group
unfolding computing
returns-clause-one_type_in_a_group c = checks 3 examples.one_type_in_a_group (refl, (refl, (refl, (refl, tt))))

pub returns-clause-two_types_behind_their_consumer : goal.returns-clause-two_types_behind_their_consumer
unfolding computing
returns-clause-two_types_behind_their_consumer c = checks 3 examples.two_types_behind_their_consumer (refl, (refl, (refl, (refl, tt))))

pub returns-clause-sum_of_booleans : goal.returns-clause-sum_of_booleans
unfolding computing
returns-clause-sum_of_booleans c = checks 3 examples.sum_of_booleans (refl, (refl, (refl, tt)))

pub returns-clause-sum_of_times : goal.returns-clause-sum_of_times
unfolding computing
returns-clause-sum_of_times c = checks 3 examples.sum_of_times (refl, (refl, (refl, tt)))

pub returns-clause-shifted_by_a_boolean : goal.returns-clause-shifted_by_a_boolean
unfolding computing
returns-clause-shifted_by_a_boolean c = checks 3 examples.shifted_by_a_boolean (refl, (refl, (refl, tt)))

pub returns-clause-shifted_by_a_number : goal.returns-clause-shifted_by_a_number
unfolding computing
returns-clause-shifted_by_a_number c = checks 3 examples.shifted_by_a_number (refl, (refl, (refl, tt)))

pub returns-clause-literal_as_a_time : goal.returns-clause-literal_as_a_time
unfolding computing
returns-clause-literal_as_a_time c = checks 3 examples.literal_as_a_time (refl, (refl, tt))

pub returns-clause-time_as_a_time : goal.returns-clause-time_as_a_time
unfolding computing
returns-clause-time_as_a_time c = checks 3 examples.time_as_a_time (refl, (refl, tt))
