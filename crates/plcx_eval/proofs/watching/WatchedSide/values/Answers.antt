use Rattle.plcx_eval.specs.Watching.{unwatched}
use Rattle.plcx_eval.proofs.watching.WatchedSide.values.Goals as goal

pub returns-clause-meaning : goal.returns-clause-meaning
returns-clause-meaning g c = λ h stands. c.values.ensures.meaning (unwatched h) stands.side
