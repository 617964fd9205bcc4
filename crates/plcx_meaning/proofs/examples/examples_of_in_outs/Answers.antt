use Rattle.std.proofs.Common.{refl}
use Rattle.std.specs.Fmt.{digits}
use Rattle.plcx_meaning.proofs.examples.examples_of_in_outs.Goals as goal

pub returns-clause-binding_diagram : goal.returns-clause-binding_diagram
returns-clause-binding_diagram c = refl

pub returns-clause-binding_text : goal.returns-clause-binding_text
unfolding digits
returns-clause-binding_text c = refl

pub returns-clause-handing_on_diagram : goal.returns-clause-handing_on_diagram
returns-clause-handing_on_diagram c = refl

pub returns-clause-handing_on_text : goal.returns-clause-handing_on_text
unfolding digits
returns-clause-handing_on_text c = refl

pub returns-clause-sharing_diagram : goal.returns-clause-sharing_diagram
returns-clause-sharing_diagram c = refl

pub returns-clause-sharing_text : goal.returns-clause-sharing_text
unfolding digits
returns-clause-sharing_text c = refl

pub returns-clause-binds_statements : goal.returns-clause-binds_statements
unfolding digits
returns-clause-binds_statements c = refl
