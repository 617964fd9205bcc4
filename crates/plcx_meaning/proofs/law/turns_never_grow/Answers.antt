use Rattle.plcx_meaning.proofs.Fuel.{blocks_lower, list_lower, program_lower}
use Rattle.plcx_meaning.proofs.FuelOfDiagrams as diagram
use Rattle.plcx_meaning.proofs.law.turns_never_grow.Goals as goal

pub returns-clause-diagram : goal.returns-clause-diagram
returns-clause-diagram c = λ time project p d. (diagram.program_lower time project p d).is

pub returns-clause-text : goal.returns-clause-text
returns-clause-text c = λ time unit p g. (program_lower time unit p g).is

pub returns-clause-statements : goal.returns-clause-statements
returns-clause-statements c = λ n time unit here ss g f. (list_lower here _ (blocks_lower n time unit) ss g f).is
