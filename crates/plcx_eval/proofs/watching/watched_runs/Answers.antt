use Rattle.plcx_eval.proofs.Hearing.{watched_runs}
use Rattle.plcx_eval.proofs.watching.watched_runs.Goals as goal

pub returns : goal.returns
returns g c = watched_runs g.W.Watch.told
