use Rattle.std.proofs.Common.{refl}
use Rattle.plcx_meaning.specs.Execute.{scope_of}
use Rattle.plcx_meaning.specs.Layout.{begun}
use Rattle.plcx_state.specs.Retains.{kept_at}
use Rattle.plcx_state.specs.Stores.{opened}
use Rattle.plcx_state.specs.Meanings.{OpensAs}
use Rattle.plcx_state.proofs.Meaning.{opens_as}
use Rattle.plcx_text_stored.proofs.Leaves.{holds_from}
use Rattle.plcx_text_stored.proofs.laws.store_opens.Goals as goal

pub returns : goal.returns
unfolding OpensAs
returns c = λ unit p l laid is kept of. record {
  store = holds_from (begun (scope_of unit p) (kept_at l.leaves kept)) unit p l laid (opened l kept).values (opens_as l is kept of (opened l kept) refl (scope_of unit p) laid.leaves);
}
