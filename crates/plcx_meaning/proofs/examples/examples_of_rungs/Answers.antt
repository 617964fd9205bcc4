use Rattle.std.proofs.Common.{◌≡◌, ℤ, pos, List, [], ◌∷◌, refl, ap}
use Rattle.std.specs.Fmt.{digits}
use Rattle.plcx_meaning.proofs.examples.examples_of_rungs.Goals as goal
use Rattle.plcx_meaning.specs.Traces.{Trace, Line}

-- the second value of the first line
abbrev second : List ℤ → ℤ
second [] = pos 7
second (a ∷ []) = pos 7
second (a ∷ b ∷ rest) = b

abbrev second_at_first : List Line → ℤ
second_at_first [] = pos 7
second_at_first (l ∷ ls) = second l.values

abbrev b_at_first : Trace → ℤ
b_at_first t = second_at_first t.lines

pub returns-clause-motor_diagram : goal.returns-clause-motor_diagram
returns-clause-motor_diagram c = refl

pub returns-clause-motor_text : goal.returns-clause-motor_text
unfolding digits
returns-clause-motor_text c = refl

pub returns-clause-document_order_diagram : goal.returns-clause-document_order_diagram
returns-clause-document_order_diagram c = refl

pub returns-clause-document_order_text : goal.returns-clause-document_order_text
unfolding digits
returns-clause-document_order_text c = refl

pub returns-clause-wire_past_a_write_diagram : goal.returns-clause-wire_past_a_write_diagram
returns-clause-wire_past_a_write_diagram c = refl

pub returns-clause-wire_past_a_write_text : goal.returns-clause-wire_past_a_write_text
unfolding digits
returns-clause-wire_past_a_write_text c = refl

pub returns-clause-motor_statements : goal.returns-clause-motor_statements
unfolding digits
returns-clause-motor_statements c = refl

pub returns-clause-motor_blocks : goal.returns-clause-motor_blocks
unfolding digits
returns-clause-motor_blocks c = refl

pub returns-clause-wrong_variable_for_wire : goal.returns-clause-wrong_variable_for_wire
returns-clause-wrong_variable_for_wire c = λ e. let differ : pos 0 ≡ pos 1 = ap b_at_first e in cc
