use Rattle.plcx_meaning.proofs.ExamplesFit.{motor_project_fits, motor_events_fit, nested_project_fits, counting_project_fits, saturating_begins, idle_begins}
use Rattle.plcx_meaning.proofs.examples.examples_that_fit.Goals as goal

pub returns-clause-motor : goal.returns-clause-motor
returns-clause-motor c = motor_project_fits

pub returns-clause-motor_events : goal.returns-clause-motor_events
returns-clause-motor_events c = motor_events_fit

pub returns-clause-nested_loop : goal.returns-clause-nested_loop
returns-clause-nested_loop c = nested_project_fits

pub returns-clause-saturating : goal.returns-clause-saturating
returns-clause-saturating c = saturating_begins

pub returns-clause-counting : goal.returns-clause-counting
returns-clause-counting c = counting_project_fits

pub returns-clause-idle : goal.returns-clause-idle
returns-clause-idle c = idle_begins
