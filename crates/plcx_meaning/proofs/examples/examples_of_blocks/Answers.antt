use Rattle.std.proofs.Common.{refl}
use Rattle.std.specs.Fmt.{digits}
use Rattle.plcx_meaning.proofs.examples.examples_of_blocks.Goals as goal

pub returns-clause-delay_diagram : goal.returns-clause-delay_diagram
returns-clause-delay_diagram c = refl

pub returns-clause-delay_text : goal.returns-clause-delay_text
unfolding digits
returns-clause-delay_text c = refl

pub returns-clause-retained_edge_diagram : goal.returns-clause-retained_edge_diagram
returns-clause-retained_edge_diagram c = refl

pub returns-clause-retained_edge_text : goal.returns-clause-retained_edge_text
unfolding digits
returns-clause-retained_edge_text c = refl

pub returns-clause-two_calls_diagram : goal.returns-clause-two_calls_diagram
returns-clause-two_calls_diagram c = refl

pub returns-clause-two_calls_text : goal.returns-clause-two_calls_text
unfolding digits
returns-clause-two_calls_text c = refl

pub returns-clause-fault_in_a_block_diagram : goal.returns-clause-fault_in_a_block_diagram
returns-clause-fault_in_a_block_diagram c = refl

pub returns-clause-fault_in_a_block_text : goal.returns-clause-fault_in_a_block_text
unfolding digits
returns-clause-fault_in_a_block_text c = refl

pub returns-clause-edge_block_statements : goal.returns-clause-edge_block_statements
unfolding digits
returns-clause-edge_block_statements c = refl

pub returns-clause-edge_block_blocks : goal.returns-clause-edge_block_blocks
unfolding digits
returns-clause-edge_block_blocks c = refl
