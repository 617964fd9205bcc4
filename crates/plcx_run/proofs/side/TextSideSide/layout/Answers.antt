use Rattle.plcx_run.proofs.Sided.{laid_for}
use Rattle.plcx_run.proofs.side.TextSideSide.layout.Goals as goal

pub returns-clause-meaning : goal.returns-clause-meaning
returns-clause-meaning c = (laid_for c.one_agreement.ensures c.args.self.now).leaves.leaves
