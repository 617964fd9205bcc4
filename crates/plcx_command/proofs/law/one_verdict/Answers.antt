use Rattle.plcx_command.proofs.OneVerdict.{same-file}
use Rattle.plcx_command.proofs.law.one_verdict.Goals as goal

pub returns : goal.returns
returns c = same-file c.one_fault.ensures c.no_tree.ensures (λ bytes a b x y. c.one_tree.ensures bytes a b x.stands y.stands) c.one_profile_verdict.ensures c.one_check_verdict.ensures
