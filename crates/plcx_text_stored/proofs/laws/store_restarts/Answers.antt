use Rattle.std.proofs.Common.{refl}
use Rattle.plcx_meaning.specs.Execute.{scope_of}
use Rattle.plcx_meaning.specs.Layout as layout
use Rattle.plcx_state.specs.Stores.{restarted, is_warm}
use Rattle.plcx_state.specs.Meanings.{RestartsAs}
use Rattle.plcx_state.proofs.Storing.{store_long}
use Rattle.plcx_state.proofs.Meaning.{restarts_as}
use Rattle.plcx_text_stored.proofs.Leaves.{holds_from, agrees_from}
use Rattle.plcx_text_stored.proofs.laws.store_restarts.Goals as goal

pub returns : goal.returns
unfolding RestartsAs
returns c = λ unit p l laid r g s stored of a.
    let scope = scope_of unit p in
    let new = restarted (is_warm r) s in
    record {
      store = holds_from (layout.restarted scope r g.store) unit p l laid new.values
          (restarts_as r s new refl l scope g.store of laid.leaves (agrees_from g.store unit p l laid s.values (store_long l s stored of) a.store));
    }
