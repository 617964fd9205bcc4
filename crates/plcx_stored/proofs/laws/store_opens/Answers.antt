use Rattle.std.proofs.Common.{refl, arith}
use Rattle.std.proofs.lemmas.List.{length-map}
use Rattle.plcx_meaning.specs.Evaluate.{scope_of}
use Rattle.plcx_meaning.specs.Layout.{begun}
use Rattle.plcx_state.specs.Retains.{kept_at}
use Rattle.plcx_state.specs.Stores.{opened, default_for}
use Rattle.plcx_state.specs.Meanings.{OpensAs}
use Rattle.plcx_state.proofs.Pairing.{long}
use Rattle.plcx_state.proofs.Meaning.{opens_as}
use Rattle.plcx_numbered.specs.Numbers.{cells, depth}
use Rattle.plcx_stored.proofs.Leaves.{holds_from}
use Rattle.plcx_stored.proofs.Memories.{defaults_zero}
use Rattle.plcx_stored.proofs.laws.store_opens.Goals as goal

pub returns : goal.returns
unfolding OpensAs
returns c = λ project p l laid is kept of. record {
  store = holds_from (begun (scope_of project p) (kept_at l.leaves kept)) project p l laid (opened l kept).values (opens_as l is kept of (opened l kept) refl (scope_of project p) laid.leaves);
  memories = record {
    long = (let e = long _ l.memories (cells depth project p) laid.retained in let f = length-map l.memories default_for in omega arith);
    each = λ i k at. defaults_zero l.memories i;
  };
}
