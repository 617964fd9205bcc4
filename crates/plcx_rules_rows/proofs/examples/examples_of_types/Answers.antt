use Rattle.std.proofs.Common.{false, refl, codes, arith}
use Rattle.plcx_types.specs.declared.ty.Ty.TheVariants as ty
use Rattle.plcx_rules.specs.Sources.{sources_in}
use Rattle.plcx_rules_rows.specs.TypingExamples as examples
use Rattle.plcx_rules_rows.proofs.Computing.{computing}
use Rattle.plcx_rules_rows.proofs.Checking.{checks, only}
use Rattle.plcx_rules_rows.proofs.examples.examples_of_types.Goals as goal

pub returns-clause-literals_alone : goal.returns-clause-literals_alone
unfolding computing
returns-clause-literals_alone c = checks 3 examples.literals_alone (refl, (refl, (refl, tt)))

pub returns-clause-literal_beside_a_variable : goal.returns-clause-literal_beside_a_variable
unfolding computing
returns-clause-literal_beside_a_variable c = checks 3 examples.literal_beside_a_variable (refl, (refl, (refl, (refl, tt))))

pub returns-clause-literal_beside_a_typed_one : goal.returns-clause-literal_beside_a_typed_one
unfolding computing
returns-clause-literal_beside_a_typed_one c = checks 3 examples.literal_beside_a_typed_one (refl, (refl, (refl, (refl, tt))))

pub returns-clause-its_own_result_alone : goal.returns-clause-its_own_result_alone
unfolding computing
returns-clause-its_own_result_alone c = checks 3 examples.its_own_result_alone (refl, (refl, tt))

pub returns-clause-its_own_result_and_a_variable : goal.returns-clause-its_own_result_and_a_variable
unfolding computing
returns-clause-its_own_result_and_a_variable c = checks 3 examples.its_own_result_and_a_variable (refl, (refl, tt))

pub returns-clause-connector_of_a_literal : goal.returns-clause-connector_of_a_literal
unfolding computing
returns-clause-connector_of_a_literal c = checks 3 examples.connector_of_a_literal (refl, (refl, tt))

pub returns-clause-connector_of_a_variable : goal.returns-clause-connector_of_a_variable
unfolding computing
returns-clause-connector_of_a_variable c = checks 3 examples.connector_of_a_variable (refl, (refl, (refl, (refl, (refl, tt)))))

pub returns-clause-no_type_told_first : goal.returns-clause-no_type_told_first
unfolding computing
returns-clause-no_type_told_first c = checks 3 examples.no_type_told_first (refl, (refl, (refl, (refl, tt))))

pub returns-clause-shifted : goal.returns-clause-shifted
unfolding computing
returns-clause-shifted c = let body = examples.shifted_by (codes "2147483647") in
    only 3 examples.shifted_by_a_literal.pous (examples.main false body) (sources_in body) 0 ty.Word refl (omega arith) refl refl

pub returns-clause-by_a_literal : goal.returns-clause-by_a_literal
unfolding computing
returns-clause-by_a_literal c = let body = examples.shifted_by (codes "2147483647") in
    only 3 examples.shifted_by_a_literal.pous (examples.main false body) (sources_in body) 1 ty.Dint refl (omega arith) refl refl
