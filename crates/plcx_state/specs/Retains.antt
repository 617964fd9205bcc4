-- Values by the numbers of leaves, and retained states.
use Rattle.std.specs.Prelude.{◌≡◌, ℕ, ℤ, pos, true, false, List, [], ◌∷◌, Option, Some, None, map, slice_get, if◌then◌else◌}
use Rattle.plcx_types.specs.declared.ty.Ty.{Ty}
use Rattle.plcx_types.specs.Range.{InRange}
use Rattle.plcx_types.specs.Value.{Value}
use Rattle.plcx_meaning.specs.Base.{Path, same_path}
use Rattle.plcx_state.specs.declared.layout.Leaf.{Leaf}
use Rattle.plcx_state.specs.Layouts.{meant_path, is_kept}

-- R holds of each item of one list and the item of the other that has its number; both are equally long
abbrev pub Pairwise : {A B : Type 0} → (A → B → Type 0) → List A → List B → Type 0
Pairwise R [] [] = Unit {0}
Pairwise R [] (y ∷ ys) = ⊥
Pairwise R (x ∷ xs) [] = ⊥
Pairwise R (x ∷ xs) (y ∷ ys) = R x y × Pairwise R xs ys

-- what comes of each item of one list and the item of the other that has its number
abbrev pub each_with : {A B C : Type 0} → (A → B → C) → List A → List B → List C
each_with f [] ys = []
each_with f (x ∷ xs) [] = []
each_with f (x ∷ xs) (y ∷ ys) = f x y ∷ each_with f xs ys

-- the numbers of values
abbrev pub numbers : List Value → List ℤ
numbers values = map (λ (v : Value). v.n) values

-- the number at a path, where numbers go by leaves; 0 where there is no leaf
abbrev pub at : List Leaf → List ℤ → Path → ℤ
at [] ns p = pos 0
at (leaf ∷ leaves) [] p = pos 0
at (leaf ∷ leaves) (n ∷ ns) p = if same_path p (meant_path leaf.path) then n else at leaves ns p

-- at each leaf's path a store has the number that the leaf has by its number
pub record Agrees (leaves : List Leaf) (store : Path → ℤ) (ns : List ℤ) : Type 0 where
  pub agrees : Pairwise (λ (leaf : Leaf) n. store (meant_path leaf.path) ≡ n) leaves ns

-- what a retained state has for a leaf: a value of its type where its value is part of it, and else nothing
abbrev pub Suits : Leaf → Option Value → Type 0
Suits leaf None = is_kept leaf ≡ false
Suits leaf (Some v) = (is_kept leaf ≡ true) × (v.ty ≡ leaf.ty) × InRange v.ty v.n

-- a retained state of a layout with these leaves
pub record IsRetainedOf (leaves : List Leaf) (kept : List (Option Value)) : Type 0 where
  pub suits : Pairwise Suits leaves kept

-- the number of a value, where there is one
abbrev pub number_of : Option Value → ℤ
number_of None = pos 0
number_of (Some v) = v.n

-- a retained state as a store
abbrev pub kept_at : List Leaf → List (Option Value) → Path → ℤ
kept_at leaves kept = at leaves (map number_of kept)

-- a retained state has a value of this type for the leaf of this number
pub record HasKept (kept : List (Option Value)) (leaf : ℕ) (t : Ty) : Type 0 where
  pub value : Value
  pub is : slice_get kept leaf ≡ Some (Some value)
  pub typed : value.ty ≡ t

-- a value, or else the initial one, where the leaf's value is part of a retained state
abbrev pub kept_of : Leaf → Option Value → Option Value
kept_of leaf None = if is_kept leaf then Some leaf.initial else None
kept_of leaf (Some v) = if is_kept leaf then Some v else None

-- and of all leaves, in order
abbrev pub all_kept : List Leaf → List (Option Value) → List (Option Value)
all_kept leaves values = each_with kept_of leaves values

-- the initial values, as a retained state
abbrev pub initially_kept : List Leaf → List (Option Value)
initially_kept leaves = map (λ (leaf : Leaf). kept_of leaf None) leaves
