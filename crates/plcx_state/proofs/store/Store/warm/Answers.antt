use Rattle.plcx_state.proofs.Meaning.{warm_as}
use Rattle.plcx_state.proofs.store.Store.warm.Goals as goal

pub returns-clause-meaning : goal.returns-clause-meaning
returns-clause-meaning c = warm_as _ _ c.restart.ensures
