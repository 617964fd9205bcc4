use Rattle.plcx_command.proofs.Composed.{one_diagrams}
use Rattle.plcx_command.proofs.law.one_list_of_diagrams.Goals as goal

pub returns : goal.returns
returns c = one_diagrams (λ bytes a b x y. c.one_tree.ensures bytes a b x.stands y.stands) c.one_diagram.ensures
