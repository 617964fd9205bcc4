use Rattle.std.proofs.Common.{◌≡◌, refl, sym, subst, arith, List}
use Rattle.plcx_meaning.specs.Evaluate.{scope_of, restarted_memories}
use Rattle.plcx_meaning.specs.Layout as layout
use Rattle.plcx_state.specs.declared.store.Start.{Start}
use Rattle.plcx_state.specs.Stores.{restarted, is_warm, all_again, IsStoreOf}
use Rattle.plcx_state.specs.Meanings.{RestartsAs}
use Rattle.plcx_state.proofs.Pairing.{long}
use Rattle.plcx_state.proofs.Storing.{store_long, restarted_stored}
use Rattle.plcx_state.proofs.Meaning.{restarts_as}
use Rattle.plcx_steps.specs.Numbered.{number_at}
use Rattle.plcx_numbered.specs.Numbers.{cells, depth}
use Rattle.plcx_stored.proofs.Leaves.{holds_from, agrees_from}
use Rattle.plcx_stored.proofs.Memories.{again_at}
use Rattle.plcx_stored.proofs.Types.{memories_long}
use Rattle.plcx_stored.proofs.laws.store_restarts.Goals as goal

pub returns : goal.returns
unfolding RestartsAs
returns c = λ project p l laid r d s stored of a.
    let scope = scope_of project p in
    let new = restarted (is_warm r) s in
    let again : IsStoreOf l new = record { leaves = of.leaves; memories = of.memories } in
    record {
      store = holds_from (layout.restarted scope r d.store) project p l laid new.values
          (restarts_as r s new refl l scope d.store of laid.leaves (agrees_from d.store project p l laid s.values (store_long l s stored of) a.store));
      memories = record {
        long = (let e = long _ l.memories (cells depth project p) laid.retained in let f = memories_long l new (restarted_stored (is_warm r) s stored) again in omega arith);
        each = λ i k at. subst (λ (starts : List Start). restarted_memories scope r d.memories k.0 k.1 ≡ number_at (all_again (is_warm r) starts s.memories) i) (sym of.memories)
            (again_at scope r d.memories l.memories (cells depth project p) s.memories laid.retained (memories_long l s stored of) i k at (a.memories.each i k at));
      };
    }
