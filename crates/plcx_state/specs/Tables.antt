-- Serves proofs: what a table of the paths of leaves tells.
use Rattle.std.specs.Prelude.{◌≡◌, ℕ, Bool, true, List, Vec, Option, Some, None, map, if◌then◌else◌}
use Rattle.std.specs.declared.alloc.Global.{Global}
use Rattle.std.specs.Map.{lookup}
use Rattle.std.specs.List.{position_from, list_all}
use Rattle.std.specs.Str.{bytes_eq}
use Rattle.plcx_types.specs.Name.{in_lower_case, is_next_byte}
use Rattle.plcx_types.specs.Lists.{Each}
use Rattle.plcx_meaning.specs.Layout.{all_apart}
use Rattle.plcx_meaning.specs.Layout.{Leaf as Meant}
use Rattle.plcx_state.specs.declared.layout.Leaf.{Leaf}
use Rattle.plcx_state.specs.Layouts.{dotted, HasName, all_meant}

-- the number that a text has in the table
abbrev pub number_at : List ℕ → List (Vec ℕ Global × ℕ) → Option ℕ
number_at text entries = lookup (λ k. bytes_eq text k.items) entries

-- the path of a leaf in print and in lower case
abbrev pub path_text : Leaf → List ℕ
path_text leaf = in_lower_case (dotted leaf.path)

-- the leaf's path is printed so
abbrev pub is_printed : List ℕ → Leaf → Bool
is_printed text leaf = bytes_eq text (path_text leaf)

-- the number of the first leaf whose path is printed so
unfoldable pub printed_at : List ℕ → List Leaf → Option ℕ
printed_at text leaves = position_from (is_printed text) 0 leaves

-- a name has letters, digits and `_` alone
abbrev pub IsPlain : List ℕ → Type 0
IsPlain name = list_all is_next_byte name ≡ true

-- and so has each name on the leaf's path
abbrev pub HasPlainNames : Leaf → Type 0
HasPlainNames leaf = Each IsPlain leaf.path

-- what a table of leaves rests on: paths are distinct, have names, and are plain
pub record IsTold (leaves : List Leaf) : Type 0 where
  pub apart : all_apart (map (λ (leaf : Meant). leaf.path) (all_meant leaves)) ≡ true
  pub named : Each HasName leaves
  pub plain : Each HasPlainNames leaves

-- the number of each text
abbrev pub Tells : List Leaf → List (Vec ℕ Global × ℕ) → Type 0
Tells leaves entries = (text : List ℕ) → number_at text entries ≡ printed_at text leaves

-- what was found, or else another
abbrev pub found_or : Option ℕ → Option ℕ → Option ℕ
found_or None other = other
found_or (Some x) other = Some x

-- a number, where it counts
abbrev pub number_if : Bool → ℕ → Option ℕ
number_if b number = if b then Some number else None
