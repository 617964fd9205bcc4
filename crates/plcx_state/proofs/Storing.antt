-- Stores keep their types.
use Rattle.std.proofs.Common.{◌≡◌, ◌∷◌, ◌∙◌, ℕ, Bool, true, false, List, [], Option, Some, None, set, length, refl, sym, ap}
use Rattle.std.specs.Prelude.{◌&&◌, if◌then◌else◌}
use Rattle.std.proofs.lemmas.List.{length-map}
use Rattle.plcx_types.specs.Lists.{Each}
use Rattle.plcx_types.specs.Value.{Value}
use Rattle.plcx_state.specs.declared.layout.Leaf.{Leaf}
use Rattle.plcx_state.specs.declared.layout.Memory.{Memory}
use Rattle.plcx_state.specs.declared.store.Start.{Start}
use Rattle.plcx_state.specs.Layouts.{Laid, IsLaid, BeginsTyped}
use Rattle.plcx_state.specs.Retains.{Pairwise, each_with, Suits, IsRetainedOf}
use Rattle.plcx_state.specs.Stores.{Stored, stored, IsStored, IsStoreOf, HasValue, StaysTyped, start_of, starts_of, memory_starts_of, all_defaults, begun, opened, again, restarted}
use Rattle.plcx_state.proofs.Pairing.{long, pair_at, pairs_set}

-- a value of the type that stood there
typed_set : (starts : List Start) (values : List Value) (i : ℕ) (v : Value) → Pairwise StaysTyped starts values → HasValue values i v.ty → Pairwise StaysTyped starts (set values i v)
typed_set starts values i v h has =
    pairs_set StaysTyped starts values h i v (λ start there. sym has.typed ∙ pair_at StaysTyped starts values h i start has.value there has.is)

pub value_set : (s : Stored) (i : ℕ) (v : Value) → IsStored s → HasValue s.values i v.ty → IsStored (stored (set s.values i v) s.memories s.starts s.memory_starts)
value_set s i v h has = record { values = typed_set s.starts s.values i v h.values has; memories = h.memories }

pub memory_set : (s : Stored) (i : ℕ) (v : Value) → IsStored s → HasValue s.memories i v.ty → IsStored (stored s.values (set s.memories i v) s.starts s.memory_starts)
memory_set s i v h has = record { values = h.values; memories = typed_set s.memory_starts s.memories i v h.memories has }

again_typed : (keeps : Bool) (start : Start) (v : Value) → StaysTyped start v → StaysTyped start (again keeps start v)
again_typed keeps start v h = by (keeps && start.retained)
  where
    by : (b : Bool) → StaysTyped start (if b then v else start.initial)
    by true = h
    by false = refl

all_again_typed : (keeps : Bool) (starts : List Start) (values : List Value) → Pairwise StaysTyped starts values → Pairwise StaysTyped starts (each_with (again keeps) starts values)
all_again_typed keeps [] [] h = tt
all_again_typed keeps [] (v ∷ values) h = absurd h
all_again_typed keeps (start ∷ starts) [] h = absurd h
all_again_typed keeps (start ∷ starts) (v ∷ values) h = (again_typed keeps start v h.0, all_again_typed keeps starts values h.1)

pub restarted_stored : (keeps : Bool) (s : Stored) → IsStored s → IsStored (restarted keeps s)
restarted_stored keeps s h = record { values = all_again_typed keeps s.starts s.values h.values; memories = all_again_typed keeps s.memory_starts s.memories h.memories }

begun_typed : (leaves : List Leaf) (kept : List (Option Value)) → Each BeginsTyped leaves → Pairwise Suits leaves kept → Pairwise StaysTyped (starts_of leaves) (each_with begun leaves kept)
begun_typed [] [] t h = tt
begun_typed [] (k ∷ kept) t h = absurd h
begun_typed (l ∷ leaves) [] t h = absurd h
begun_typed (l ∷ leaves) (k ∷ kept) t h = (by k h.0, begun_typed leaves kept t.1 h.1)
  where
    by : (o : Option Value) → Suits l o → StaysTyped (start_of l) (begun l o)
    by None s = refl
    by (Some v) s = s.1 ∙ sym t.0

defaults_typed : (memories : List Memory) → Pairwise StaysTyped (memory_starts_of memories) (all_defaults memories)
defaults_typed [] = tt
defaults_typed (m ∷ memories) = (refl, defaults_typed memories)

pub opened_stored : (l : Laid) (kept : List (Option Value)) → IsLaid l → IsRetainedOf l.leaves kept → IsStored (opened l kept)
opened_stored l kept laid of = record { values = begun_typed l.leaves kept laid.typed of.suits; memories = defaults_typed l.memories }

pub kept_long : (leaves : List Leaf) (kept : List (Option Value)) → IsRetainedOf leaves kept → length leaves ≡ length kept
kept_long leaves kept of = long Suits leaves kept of.suits

pub opened_of : (l : Laid) (kept : List (Option Value)) → IsStoreOf l (opened l kept)
opened_of l kept = record { leaves = refl; memories = refl }

-- a store has a value for each leaf of its layout
pub store_long : (l : Laid) (s : Stored) → IsStored s → IsStoreOf l s → length l.leaves ≡ length s.values
store_long l s h of = sym (length-map l.leaves start_of) ∙ ap length (sym of.leaves) ∙ long StaysTyped s.starts s.values h.values
