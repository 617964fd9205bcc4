use Rattle.std.proofs.Common.{refl}
use Rattle.std.specs.Fmt.{digits}
use Rattle.plcx_meaning.proofs.examples.examples_of_pins.Goals as goal

pub returns-clause-enabled_block_diagram : goal.returns-clause-enabled_block_diagram
returns-clause-enabled_block_diagram c = refl

pub returns-clause-enabled_block_text : goal.returns-clause-enabled_block_text
unfolding digits
returns-clause-enabled_block_text c = refl

pub returns-clause-enabled_block_statements : goal.returns-clause-enabled_block_statements
unfolding digits
returns-clause-enabled_block_statements c = refl

pub returns-clause-negated_pins_diagram : goal.returns-clause-negated_pins_diagram
returns-clause-negated_pins_diagram c = refl

pub returns-clause-negated_pins_text : goal.returns-clause-negated_pins_text
unfolding digits
returns-clause-negated_pins_text c = refl

pub returns-clause-edges_diagram : goal.returns-clause-edges_diagram
returns-clause-edges_diagram c = refl

pub returns-clause-edges_text : goal.returns-clause-edges_text
unfolding digits
returns-clause-edges_text c = refl

pub returns-clause-returning_diagram : goal.returns-clause-returning_diagram
returns-clause-returning_diagram c = refl

pub returns-clause-returning_text : goal.returns-clause-returning_text
unfolding digits
returns-clause-returning_text c = refl
