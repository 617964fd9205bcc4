use Rattle.plcx_state.proofs.Storing.{store_long}
use Rattle.plcx_text_stored.proofs.Leaves.{agrees_from}
use Rattle.plcx_text_stored.proofs.laws.store_shows.Goals as goal

pub returns : goal.returns
returns c = λ unit p l laid g s stored of a. agrees_from g.store unit p l laid s.values (store_long l s stored of) a.store
