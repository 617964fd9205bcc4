-- The layout of a program: its leaves and its memories, each by its number, and what they are in the words of the meaning.
use Rattle.std.specs.Prelude.{◌≡◌, ◌<◌, ◌^◌, ◌++◌, ℕ, Bool, true, false, ◌&&◌, ◌||◌, List, [], ◌∷◌, Option, map, reverse, length, codes}
use Rattle.std.specs.List.{position, flat_map}
use Rattle.plcx_types.specs.Lists.{Each}
use Rattle.plcx_meaning.specs.Base.{Path, same_path, is_declared}
use Rattle.plcx_meaning.specs.Layout.{path_of, is_outside, IsLayout}
use Rattle.plcx_meaning.specs.Layout.{Leaf as Meant}
use Rattle.plcx_state.specs.declared.layout.Leaf.{Leaf}
use Rattle.plcx_state.specs.declared.layout.Memory.{Memory}

-- a path in the words of the meaning: its names without case, the innermost first
abbrev pub meant_path : List (List ℕ) → Path
meant_path names = path_of (reverse names)

-- a leaf in the words of the meaning
abbrev pub meant : Leaf → Meant
meant leaf = record {
  path = meant_path leaf.path;
  spelled = reverse leaf.path;
  ty = leaf.ty;
  initial = leaf.initial.n;
  retained = leaf.retained;
  settable = leaf.settable;
  shown = leaf.shown;
}

-- and all leaves, in order
abbrev pub all_meant : List Leaf → List Meant
all_meant leaves = map meant leaves

-- the leaves of a program, and what its elements remember
pub record Laid : Type 0 where
  pub leaves : List Leaf
  pub memories : List Memory

-- the leaves and memories in order
abbrev pub laid : List Leaf → List Memory → Laid
laid leaves memories = record { leaves = leaves; memories = memories }

-- there is no name
abbrev pub is_nameless : List (List ℕ) → Bool
is_nameless [] = true
is_nameless (name ∷ names) = false

-- a path has a name
abbrev pub HasName : Leaf → Type 0
HasName leaf = is_nameless leaf.path ≡ false

-- what is settable or shown is the program's own, and no variable of the compiler's
abbrev pub LiesOutside : Leaf → Type 0
LiesOutside leaf = (leaf.settable || leaf.shown) ≡ true → is_outside (meant_path leaf.path) ≡ true

-- an initial value is of the leaf's type
abbrev pub BeginsTyped : Leaf → Type 0
BeginsTyped leaf = leaf.initial.ty ≡ leaf.ty

-- paths have names and are distinct, initial values are of their types, and there are not too many to be numbered
pub record IsLaid (l : Laid) : Type 0 where
  pub named : Each HasName l.leaves
  pub layout : IsLayout (all_meant l.leaves)
  pub typed : Each BeginsTyped l.leaves
  pub outside : Each LiesOutside l.leaves
  pub few_leaves : length l.leaves < 2 ^ 32
  pub few_memories : length l.memories < 2 ^ 32

-- the leaf has this path, which is that of the meaning
abbrev pub is_at : Path → Leaf → Bool
is_at p leaf = same_path p (meant_path leaf.path)

-- the number of the leaf at a path
unfoldable pub leaf_at : Path → List Leaf → Option ℕ
leaf_at p leaves = position (is_at p) leaves

-- the leaf is retained, and its value is part of a retained state: no name on its path is the compiler's own
abbrev pub is_kept : Leaf → Bool
is_kept leaf = leaf.retained && is_declared (meant_path leaf.path)

-- names with points between them
abbrev pub dotted : List (List ℕ) → List ℕ
dotted [] = []
dotted (name ∷ names) = name ++ flat_map (λ other. codes "." ++ other) names
