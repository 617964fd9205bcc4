-- The types of what a store holds.
use Rattle.std.proofs.Common.{◌≡◌, ◌∷◌, ◌∙◌, List, [], map, length, refl, sym, ap, ap₂, subst, arith}
use Rattle.std.proofs.lemmas.List.{nil_from_length}
use Rattle.plcx_types.specs.declared.ty.Ty.{Ty}
use Rattle.plcx_types.specs.Value.{Value}
use Rattle.plcx_meaning.specs.Execute.{scope_of}
use Rattle.plcx_meaning.specs.Layout.{variables_of}
use Rattle.plcx_meaning.specs.Layout.{Leaf as Meant}
use Rattle.plcx_meaning.specs.Tree.{PouText}
use Rattle.plcx_state.specs.declared.layout.Leaf.{Leaf}
use Rattle.plcx_state.specs.declared.layout.Memory.{Memory}
use Rattle.plcx_state.specs.Layouts.{Laid, IsLaid, all_meant}
use Rattle.plcx_state.specs.Retains.{Pairwise}
use Rattle.plcx_state.specs.Stores.{Stored, IsStored, IsStoreOf}
use Rattle.plcx_scan.specs.Sides.{HasTypeOf}
use Rattle.plcx_scan.proofs.Stored.{store_typed}
use Rattle.plcx_numbered.specs.Numbers.{Place}
use Rattle.plcx_stored.proofs.Types.{types, memories_long}
use Rattle.plcx_text_numbered.specs.Numbers.{places_of}
use Rattle.plcx_text_stored.specs.LaidFor.{IsLaidFor}
use Rattle.plcx_text_stored.proofs.Leaves.{by_number}

leaf_types : (leaves : List Leaf) (values : List Value) → Pairwise HasTypeOf leaves values → types values ≡ map (λ (m : Meant). m.ty) (all_meant leaves)
leaf_types [] [] h = refl
leaf_types [] (v ∷ vs) h = absurd h
leaf_types (l ∷ ls) [] h = absurd h
leaf_types (l ∷ ls) (v ∷ vs) h = ap₂ (λ (t : Ty) ts. t ∷ ts) h.0 (leaf_types ls vs h.1)

module _ (unit : List PouText) (p : PouText) (l : Laid) (laid : IsLaidFor unit p l) (s : Stored) (stored : IsStored s) (of : IsStoreOf l s) where
  pub values_typed : IsLaid l → types s.values ≡ map (λ (x : Place). x.1) (places_of unit (variables_of p.blocks))
  values_typed is = leaf_types l.leaves s.values (store_typed l s is stored of) ∙ ap (map (λ (m : Meant). m.ty)) laid.leaves.leaves ∙ by_number (λ x. x.1) (scope_of unit p)

  -- a text remembers nothing but leaves
  pub nothing_else : s.memories ≡ []
  nothing_else = nil_from_length s.memories (sym (memories_long l s stored of) ∙ ap (λ (ms : List Memory). length ms) laid.memories)
