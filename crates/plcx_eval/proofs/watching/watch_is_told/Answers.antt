use Rattle.plcx_eval.proofs.Listened.{told_all}
use Rattle.plcx_eval.proofs.watching.watch_is_told.Goals as goal

pub returns : goal.returns
returns g c = told_all g.W.Watch.told
