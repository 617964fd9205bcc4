-- For sides that keep their values in a store: each value has its leaf's type.
use Rattle.std.proofs.Common.{◌∷◌, ◌∙◌, List, [], subst}
use Rattle.plcx_types.specs.Lists.{Each}
use Rattle.plcx_types.specs.Value.{Value}
use Rattle.plcx_state.specs.declared.layout.Leaf.{Leaf}
use Rattle.plcx_state.specs.declared.store.Start.{Start}
use Rattle.plcx_state.specs.Layouts.{Laid, IsLaid, BeginsTyped}
use Rattle.plcx_state.specs.Retains.{Pairwise}
use Rattle.plcx_state.specs.Stores.{Stored, IsStored, IsStoreOf, StaysTyped, starts_of}
use Rattle.plcx_scan.specs.Sides.{HasTypeOf}

starts_typed : (leaves : List Leaf) (values : List Value) → Each BeginsTyped leaves → Pairwise StaysTyped (starts_of leaves) values → Pairwise HasTypeOf leaves values
starts_typed [] [] h k = tt
starts_typed [] (v ∷ vs) h k = absurd k
starts_typed (leaf ∷ leaves) [] h k = absurd k
starts_typed (leaf ∷ leaves) (v ∷ vs) h k = (k.0 ∙ h.0, starts_typed leaves vs h.1 k.1)

pub store_typed : (l : Laid) (s : Stored) → IsLaid l → IsStored s → IsStoreOf l s → Pairwise HasTypeOf l.leaves s.values
store_typed l s laid stored of = starts_typed l.leaves s.values laid.typed (subst (λ (starts : List Start). Pairwise StaysTyped starts s.values) of.leaves stored.values)
