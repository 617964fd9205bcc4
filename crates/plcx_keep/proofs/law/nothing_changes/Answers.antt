use Rattle.plcx_keep.proofs.Same.{is_unchanged}
use Rattle.plcx_keep.proofs.law.nothing_changes.Goals as goal

pub returns : goal.returns
returns c = λ l kept laid of. is_unchanged l kept laid of
