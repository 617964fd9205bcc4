use Rattle.std.proofs.Common.{refl}
use Rattle.plcx_meaning.proofs.examples.examples_of_watches.Goals as goal

pub returns-clause-motor : goal.returns-clause-motor
returns-clause-motor c = refl

pub returns-clause-enabled_block : goal.returns-clause-enabled_block
returns-clause-enabled_block c = refl

pub returns-clause-fault_and_restart : goal.returns-clause-fault_and_restart
returns-clause-fault_and_restart c = refl

pub returns-clause-whole_loop : goal.returns-clause-whole_loop
returns-clause-whole_loop c = refl

pub returns-clause-cut_loop : goal.returns-clause-cut_loop
returns-clause-cut_loop c = refl
