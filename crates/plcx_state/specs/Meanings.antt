-- What stores, retained states and restarts by number are in the words of the meaning, where paths have numbers.
use Rattle.std.specs.Prelude.{◌≡◌, ℕ, ℤ, List, Option, Some, length, slice_get, slice_set}
use Rattle.plcx_types.specs.Range.{InRange}
use Rattle.plcx_types.specs.Value.{Value}
use Rattle.plcx_meaning.specs.Base.{Path, put}
use Rattle.plcx_meaning.specs.Layout.{Scope, layout, Restart, begun, restarted, IsRetainedState}
use Rattle.plcx_state.specs.declared.layout.Leaf.{Leaf}
use Rattle.plcx_state.specs.Layouts.{Laid, all_meant, meant_path}
use Rattle.plcx_state.specs.Retains.{Pairwise, each_with, numbers, at, kept_at, kept_of, Agrees, IsRetainedOf}
use Rattle.plcx_state.specs.Lines.{StandsForRetained, retained_lines}
use Rattle.plcx_state.specs.Stores.{Stored, IsStoreOf}

-- the layout is that of the program: its leaves are those of the meaning
pub record IsLayoutOf (c : Scope) (l : Laid) : Type 0 where
  pub leaves : all_meant l.leaves ≡ layout c

-- the store begins as the meaning does from this retained state
unfoldable pub OpensAs : Laid → List (Option Value) → Stored → Type 0
OpensAs l kept s = (c : Scope) → IsLayoutOf c l → Agrees l.leaves (begun c (kept_at l.leaves kept)) (numbers s.values)

-- a restart does to the store what it does in the meaning
unfoldable pub RestartsAs : Restart → Stored → Stored → Type 0
RestartsAs r old new = (l : Laid) (c : Scope) (store : Path → ℤ) → IsStoreOf l old → IsLayoutOf c l
    → Agrees l.leaves store (numbers old.values) → Agrees l.leaves (restarted c r store) (numbers new.values)

-- numbers agree with the store that has them at their paths
unfoldable pub AgreesAt : Laid → Type 0
AgreesAt l = (ns : List ℤ) → length l.leaves ≡ length ns → Agrees l.leaves (at l.leaves ns) ns

-- a number that is set is put at the path of its leaf, and changes no other
unfoldable pub SetsAs : Laid → Type 0
SetsAs l = (store : Path → ℤ) (ns : List ℤ) (number : ℕ) (leaf : Leaf) (n : ℤ) → slice_get l.leaves number ≡ Some leaf
    → Agrees l.leaves store ns → Agrees l.leaves (put store (meant_path leaf.path) n) (slice_set ns number n)

-- a retained state is one of the meaning
unfoldable pub KeepsAs : Laid → Type 0
KeepsAs l = (kept : List (Option Value)) → IsRetainedOf l.leaves kept → IsRetainedState (all_meant l.leaves) (kept_at l.leaves kept)

-- a value of the leaf's type
abbrev pub IsTypedFor : Leaf → Value → Type 0
IsTypedFor leaf v = (v.ty ≡ leaf.ty) × InRange v.ty v.n

-- values by number as a retained state
abbrev pub kept_values : List Leaf → List Value → List (Option Value)
kept_values leaves values = each_with (λ (leaf : Leaf) (v : Value). kept_of leaf (Some v)) leaves values

-- what is printed of values is read as these
unfoldable pub IsReadAgain : Laid → Type 0
IsReadAgain l = (values : List Value) → Pairwise IsTypedFor l.leaves values → StandsForRetained l.leaves (retained_lines l.leaves values) (kept_values l.leaves values)
