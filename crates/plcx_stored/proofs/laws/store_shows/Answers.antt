use Rattle.plcx_state.proofs.Storing.{store_long}
use Rattle.plcx_stored.proofs.Leaves.{agrees_from}
use Rattle.plcx_stored.proofs.laws.store_shows.Goals as goal

pub returns : goal.returns
returns c = λ project p l laid d s stored of a. agrees_from d.store project p l laid s.values (store_long l s stored of) a.store
