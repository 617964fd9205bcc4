use Rattle.plcx_state.proofs.Meaning.{cold_as}
use Rattle.plcx_state.proofs.store.Store.cold.Goals as goal

pub returns-clause-meaning : goal.returns-clause-meaning
returns-clause-meaning c = cold_as _ _ c.restart.ensures
