use Rattle.std.proofs.Common.{refl}
use Rattle.std.specs.Fmt.{digits}
use Rattle.plcx_meaning.proofs.examples.examples_of_loops.Goals as goal

pub returns-clause-loop_diagram : goal.returns-clause-loop_diagram
returns-clause-loop_diagram c = refl

pub returns-clause-loop_text : goal.returns-clause-loop_text
unfolding digits
returns-clause-loop_text c = refl

pub returns-clause-loop_one_turn_less_diagram : goal.returns-clause-loop_one_turn_less_diagram
returns-clause-loop_one_turn_less_diagram c = refl

pub returns-clause-loop_one_turn_less_text : goal.returns-clause-loop_one_turn_less_text
unfolding digits
returns-clause-loop_one_turn_less_text c = refl

pub returns-clause-loop_no_turn_diagram : goal.returns-clause-loop_no_turn_diagram
returns-clause-loop_no_turn_diagram c = refl

pub returns-clause-loop_no_turn_text : goal.returns-clause-loop_no_turn_text
unfolding digits
returns-clause-loop_no_turn_text c = refl

pub returns-clause-first_jump_decides_diagram : goal.returns-clause-first_jump_decides_diagram
returns-clause-first_jump_decides_diagram c = refl

pub returns-clause-first_jump_decides_text : goal.returns-clause-first_jump_decides_text
unfolding digits
returns-clause-first_jump_decides_text c = refl

pub returns-clause-calls_a_loop_diagram : goal.returns-clause-calls_a_loop_diagram
returns-clause-calls_a_loop_diagram c = refl

pub returns-clause-calls_a_loop_text : goal.returns-clause-calls_a_loop_text
unfolding digits
returns-clause-calls_a_loop_text c = refl

pub returns-clause-nested_loop_diagram : goal.returns-clause-nested_loop_diagram
returns-clause-nested_loop_diagram c = refl

pub returns-clause-nested_loop_text : goal.returns-clause-nested_loop_text
unfolding digits
returns-clause-nested_loop_text c = refl

pub returns-clause-nested_loop_one_turn_less_diagram : goal.returns-clause-nested_loop_one_turn_less_diagram
returns-clause-nested_loop_one_turn_less_diagram c = refl

pub returns-clause-nested_loop_one_turn_less_text : goal.returns-clause-nested_loop_one_turn_less_text
unfolding digits
returns-clause-nested_loop_one_turn_less_text c = refl

pub returns-clause-disabled_in_a_loop_diagram : goal.returns-clause-disabled_in_a_loop_diagram
returns-clause-disabled_in_a_loop_diagram c = refl

pub returns-clause-disabled_in_a_loop_text : goal.returns-clause-disabled_in_a_loop_text
unfolding digits
returns-clause-disabled_in_a_loop_text c = refl

pub returns-clause-loop_statements : goal.returns-clause-loop_statements
unfolding digits
returns-clause-loop_statements c = refl

pub returns-clause-loop_blocks : goal.returns-clause-loop_blocks
unfolding digits
returns-clause-loop_blocks c = refl
