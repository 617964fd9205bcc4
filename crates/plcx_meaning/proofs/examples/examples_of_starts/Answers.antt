use Rattle.std.proofs.Common.{refl}
use Rattle.std.specs.Fmt.{digits}
use Rattle.plcx_meaning.proofs.examples.examples_of_starts.Goals as goal

pub returns-clause-idle_diagram : goal.returns-clause-idle_diagram
returns-clause-idle_diagram c = refl

pub returns-clause-idle_text : goal.returns-clause-idle_text
unfolding digits
returns-clause-idle_text c = refl

pub returns-clause-seven_diagram : goal.returns-clause-seven_diagram
returns-clause-seven_diagram c = refl

pub returns-clause-seven_text : goal.returns-clause-seven_text
unfolding digits
returns-clause-seven_text c = refl

pub returns-clause-spellings : goal.returns-clause-spellings
returns-clause-spellings c = refl

pub returns-clause-paths : goal.returns-clause-paths
returns-clause-paths c = refl
