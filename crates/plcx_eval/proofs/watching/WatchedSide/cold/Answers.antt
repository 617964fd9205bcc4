use Rattle.std.proofs.Common.{ap₂, refl}
use Rattle.plcx_meaning.specs.Layout.{Cold}
use Rattle.plcx_meaning.specs.Run.{Again}
use Rattle.plcx_eval.specs.Listening.{told_behind, lenders}
use Rattle.plcx_eval.specs.Watching.{listened_machine, unwatched}
use Rattle.plcx_eval.proofs.Listened.{listens}
use Rattle.plcx_eval.proofs.watching.WatchedSide.cold.Goals as goal

pub returns-clause-meaning : goal.returns-clause-meaning
returns-clause-meaning g c = λ h stands. listens g.W.Watch.told c.args.self.now _ 0 (Again Cold) h stands (c.cold.ensures.meaning (unwatched h) stands.side) refl

pub returns-clause-machine : goal.returns-clause-machine
returns-clause-machine g c = ap₂ (listened_machine (told_behind g.W.Watch.told) (lenders c.args.self.now)) c.cold.ensures.project c.cold.ensures.program
