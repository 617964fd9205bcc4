use Rattle.std.proofs.Common.{refl}
use Rattle.plcx_rules_rows.specs.TypingExamples as examples
use Rattle.plcx_rules_rows.proofs.Computing.{computing}
use Rattle.plcx_rules_rows.proofs.Checking.{checks}
use Rattle.plcx_rules_rows.proofs.examples.examples_of_ranges.Goals as goal

pub returns-clause-literal_out_of_range : goal.returns-clause-literal_out_of_range
unfolding computing
returns-clause-literal_out_of_range c = checks 3 examples.literal_out_of_range (refl, (refl, tt))

pub returns-clause-literal_in_range : goal.returns-clause-literal_in_range
unfolding computing
returns-clause-literal_in_range c = checks 3 examples.literal_in_range (refl, (refl, tt))

pub returns-clause-literal_in_one_range_of_two : goal.returns-clause-literal_in_one_range_of_two
unfolding computing
returns-clause-literal_in_one_range_of_two c = checks 3 examples.literal_in_one_range_of_two (refl, (refl, (refl, tt)))

pub returns-clause-literal_out_of_range_of_a_group : goal.returns-clause-literal_out_of_range_of_a_group
unfolding computing
returns-clause-literal_out_of_range_of_a_group c = checks 3 examples.literal_out_of_range_of_a_group (refl, (refl, (refl, tt)))

pub returns-clause-literal_in_range_of_a_group : goal.returns-clause-literal_in_range_of_a_group
unfolding computing
returns-clause-literal_in_range_of_a_group c = checks 3 examples.literal_in_range_of_a_group (refl, (refl, (refl, tt)))

pub returns-clause-shifted_by_a_literal : goal.returns-clause-shifted_by_a_literal
unfolding computing
returns-clause-shifted_by_a_literal c = checks 3 examples.shifted_by_a_literal (refl, (refl, (refl, tt)))

pub returns-clause-shifted_by_a_large_literal : goal.returns-clause-shifted_by_a_large_literal
unfolding computing
returns-clause-shifted_by_a_large_literal c = checks 3 examples.shifted_by_a_large_literal (refl, (refl, (refl, tt)))
