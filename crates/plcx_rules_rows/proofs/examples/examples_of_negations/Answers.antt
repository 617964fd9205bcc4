use Rattle.std.proofs.Common.{refl}
use Rattle.plcx_rules_rows.specs.TypingExamples as examples
use Rattle.plcx_rules_rows.proofs.Computing.{computing}
use Rattle.plcx_rules_rows.proofs.Checking.{checks}
use Rattle.plcx_rules_rows.proofs.examples.examples_of_negations.Goals as goal

pub returns-clause-number_at_a_negated_pin : goal.returns-clause-number_at_a_negated_pin
unfolding computing
returns-clause-number_at_a_negated_pin c = checks 3 examples.number_at_a_negated_pin (refl, (refl, tt))

pub returns-clause-boolean_at_a_negated_pin : goal.returns-clause-boolean_at_a_negated_pin
unfolding computing
returns-clause-boolean_at_a_negated_pin c = checks 3 examples.boolean_at_a_negated_pin (refl, (refl, tt))

pub returns-clause-number_negated : goal.returns-clause-number_negated
unfolding computing
returns-clause-number_negated c = checks 3 examples.number_negated (refl, (refl, tt))

pub returns-clause-boolean_negated : goal.returns-clause-boolean_negated
unfolding computing
returns-clause-boolean_negated c = checks 3 examples.boolean_negated (refl, (refl, tt))

pub returns-clause-literal_negated : goal.returns-clause-literal_negated
unfolding computing
returns-clause-literal_negated c = checks 3 examples.literal_negated (refl, (refl, tt))

pub returns-clause-literal_negated_as_a_boolean : goal.returns-clause-literal_negated_as_a_boolean
unfolding computing
returns-clause-literal_negated_as_a_boolean c = checks 3 examples.literal_negated_as_a_boolean (refl, (refl, tt))

pub returns-clause-two_numbers_at_a_pin : goal.returns-clause-two_numbers_at_a_pin
unfolding computing
returns-clause-two_numbers_at_a_pin c = checks 3 examples.two_numbers_at_a_pin (refl, (refl, tt))

pub returns-clause-two_booleans_at_a_pin : goal.returns-clause-two_booleans_at_a_pin
unfolding computing
returns-clause-two_booleans_at_a_pin c = checks 3 examples.two_booleans_at_a_pin (refl, (refl, tt))

pub returns-clause-contact_of_a_number : goal.returns-clause-contact_of_a_number
unfolding computing
returns-clause-contact_of_a_number c = checks 3 examples.contact_of_a_number (refl, (refl, tt))

pub returns-clause-contact_of_a_boolean : goal.returns-clause-contact_of_a_boolean
unfolding computing
returns-clause-contact_of_a_boolean c = checks 3 examples.contact_of_a_boolean (refl, (refl, tt))
