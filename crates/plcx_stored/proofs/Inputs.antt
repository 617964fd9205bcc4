-- Inputs are set at the numbers of their leaves, and put at their paths.
use Rattle.std.proofs.Common.{◌≡◌, ◌∷◌, ◌∙◌, ℕ, zero, suc, ℤ, List, [], Some, map, refl, sym, ap, subst}
use Rattle.std.specs.Prelude.{slice_get}
use Rattle.std.specs.Option.{option_map}
use Rattle.std.proofs.lemmas.Option.{slice_get-map}
use Rattle.plcx_types.specs.Lists.{Each}
use Rattle.plcx_types.specs.Value.{Value}
use Rattle.plcx_meaning.specs.Base.{Path, same_path}
use Rattle.plcx_meaning.specs.Run.{put_inputs}
use Rattle.plcx_state.specs.declared.layout.Leaf.{Leaf}
use Rattle.plcx_state.specs.Layouts.{Laid, IsLaid, meant_path}
use Rattle.plcx_state.specs.Retains.{Pairwise}
use Rattle.plcx_state.specs.Stores.{Stored, IsStored, IsStoreOf, HasValue}
use Rattle.plcx_scan.specs.declared.event.Input.{Input}
use Rattle.plcx_scan.specs.Events.{path_of, IsInput, meant_input}
use Rattle.plcx_scan.specs.Sides.{HasTypeOf}
use Rattle.plcx_scan.proofs.Stored.{store_typed}
use Rattle.plcx_numbered.specs.Agreeing.{Holds, AreApart, plain_path}
use Rattle.plcx_numbered.proofs.Apart.{apart_of}
use Rattle.plcx_numbered.proofs.Holding.{holds_set}
use Rattle.plcx_numbered.proofs.Keys.{paths_decide}
use Rattle.plcx_stored.specs.Between.{with_inputs}
use Rattle.plcx_stored.proofs.Leaves.{paths_of, paths_meant}

-- what stands opposite an item
opposite : {A B : Type 0} (R : A → B → Type 0) (xs : List A) (ys : List B) → Pairwise R xs ys → (i : ℕ) (x : A) → slice_get xs i ≡ Some x → (y : B) × (slice_get ys i ≡ Some y) × R x y
opposite R [] ys h i x at = absurd (cc)
opposite R (z ∷ xs) [] h i x at = absurd h
opposite R (z ∷ xs) (y ∷ ys) h zero x at = let e : z ≡ x = cc in (y, refl, subst (λ w. R w y) e h.0)
opposite R (z ∷ xs) (y ∷ ys) h (suc i) x at = opposite R xs ys h.1 i x at

-- the leaf of an input has a value of the input's type
pub input_fits : (l : Laid) (s : Stored) → IsLaid l → IsStored s → IsStoreOf l s → (input : Input) → IsInput l.leaves input → HasValue s.values input.leaf input.value.ty
input_fits l s laid stored of input is =
    let o = opposite HasTypeOf l.leaves s.values (store_typed l s laid stored of) input.leaf is.leaf is.there in
    record { value = o.0; is = o.1; typed = o.2 ∙ sym is.typed }

module _ (l : Laid) (laid : IsLaid l) where
  apart : AreApart (paths_of l.leaves)
  apart = subst (λ ps. AreApart ps) (paths_meant l.leaves) (apart_of _ laid.layout.apart)

  one_stored : (input : Input) → IsInput l.leaves input → (f : Path → ℤ) (values : List Value) → Holds plain_path (paths_of l.leaves) f values
      → Holds plain_path (paths_of l.leaves) (put_inputs (meant_input l.leaves input ∷ []) f) (with_inputs (input ∷ []) values)
  one_stored input is f values h =
      let path : Leaf → Path = λ leaf. meant_path leaf.path in
      holds_set plain_path same_path paths_decide (paths_of l.leaves) apart f values input.leaf (path_of (slice_get l.leaves input.leaf)) input.value.n input.value
      (slice_get-map path l.leaves input.leaf ∙ ap (option_map path) is.there ∙ ap (λ o. Some (path_of o)) (sym is.there)) refl h

  pub all_stored : (inputs : List Input) → Each (IsInput l.leaves) inputs → (f : Path → ℤ) (values : List Value) → Holds plain_path (paths_of l.leaves) f values
      → Holds plain_path (paths_of l.leaves) (put_inputs (map (meant_input l.leaves) inputs) f) (with_inputs inputs values)
  all_stored [] are f values h = h
  all_stored (input ∷ inputs) are f values h = all_stored inputs are.1 (put_inputs (meant_input l.leaves input ∷ []) f) (with_inputs (input ∷ []) values) (one_stored input are.0 f values h)
