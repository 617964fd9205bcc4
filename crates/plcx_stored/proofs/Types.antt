-- The types of what a store holds.
use Rattle.std.proofs.Common.{◌≡◌, ◌∷◌, ◌∙◌, List, [], map, length, refl, sym, ap, ap₂, subst}
use Rattle.std.proofs.lemmas.List.{length-map}
use Rattle.plcx_types.specs.declared.ty.Ty.{Ty}
use Rattle.plcx_types.specs.Value.{Value}
use Rattle.plcx_meaning.specs.Diagram.{Pou, Project}
use Rattle.plcx_meaning.specs.Layout.{variables_of}
use Rattle.plcx_meaning.specs.Layout.{Leaf as Meant}
use Rattle.plcx_state.specs.declared.layout.Leaf.{Leaf}
use Rattle.plcx_state.specs.declared.layout.Memory.{Memory}
use Rattle.plcx_state.specs.declared.store.Start.{Start}
use Rattle.plcx_state.specs.Layouts.{Laid, IsLaid, all_meant}
use Rattle.plcx_state.specs.Retains.{Pairwise}
use Rattle.plcx_state.specs.Stores.{Stored, IsStored, IsStoreOf, StaysTyped, memory_start, memory_starts_of}
use Rattle.plcx_state.proofs.Pairing.{long}
use Rattle.plcx_scan.specs.Sides.{HasTypeOf}
use Rattle.plcx_scan.proofs.Stored.{store_typed}
use Rattle.plcx_numbered.specs.Numbers.{Place, places_of, depth, cell_types}
use Rattle.plcx_numbered.proofs.Laid.{types_are}
use Rattle.plcx_stored.specs.LaidFor.{IsLaidFor}

abbrev pub types : List Value → List Ty
types values = map (λ (v : Value). v.ty) values

leaf_types : (leaves : List Leaf) (values : List Value) → Pairwise HasTypeOf leaves values → types values ≡ map (λ (m : Meant). m.ty) (all_meant leaves)
leaf_types [] [] h = refl
leaf_types [] (v ∷ vs) h = absurd h
leaf_types (l ∷ ls) [] h = absurd h
leaf_types (l ∷ ls) (v ∷ vs) h = ap₂ (λ t ts. t ∷ ts) h.0 (leaf_types ls vs h.1)

memory_types : (memories : List Memory) (values : List Value) → Pairwise StaysTyped (memory_starts_of memories) values → types values ≡ map (λ (m : Memory). m.ty) memories
memory_types [] [] h = refl
memory_types [] (v ∷ vs) h = absurd h
memory_types (m ∷ ms) [] h = absurd h
memory_types (m ∷ ms) (v ∷ vs) h = ap₂ (λ t ts. t ∷ ts) h.0 (memory_types ms vs h.1)

memories_stored : (l : Laid) (s : Stored) → IsStored s → IsStoreOf l s → Pairwise StaysTyped (memory_starts_of l.memories) s.memories
memories_stored l s stored of = subst (λ (starts : List Start). Pairwise StaysTyped starts s.memories) of.memories stored.memories

-- a store has a value for each memory of its layout
pub memories_long : (l : Laid) (s : Stored) → IsStored s → IsStoreOf l s → length l.memories ≡ length s.memories
memories_long l s stored of = sym (length-map l.memories memory_start) ∙ long StaysTyped (memory_starts_of l.memories) s.memories (memories_stored l s stored of)

module _ (project : Project) (p : Pou) (l : Laid) (laid : IsLaidFor project p l) (s : Stored) (stored : IsStored s) (of : IsStoreOf l s) where
  pub values_typed : IsLaid l → types s.values ≡ map (λ (x : Place). x.1) (places_of project (variables_of p.lists))
  values_typed is = leaf_types l.leaves s.values (store_typed l s is stored of) ∙ ap (map (λ (m : Meant). m.ty)) laid.leaves.leaves ∙ types_are project p

  pub memories_typed : types s.memories ≡ cell_types depth project p
  memories_typed = memory_types l.memories s.memories (memories_stored l s stored of) ∙ laid.types
