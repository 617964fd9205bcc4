-- Retained lines: what a file of them stands for, the first of its lines that is wrong, and how a store is printed.
use Rattle.std.specs.Prelude.{◌≡◌, ◌<◌, ◌+◌, ◌++◌, ℕ, true, List, [], ◌∷◌, Option, Some, None, map, take, length, codes, slice_get, if◌then◌else◌}
use Rattle.bstr.specs.Text.{lines_of, without_terminator}
use Rattle.plcx_types.specs.Name.{in_lower_case}
use Rattle.plcx_types.specs.Literal.{StandsForValue}
use Rattle.plcx_types.specs.Printed.{printed}
use Rattle.plcx_types.specs.Value.{Value}
use Rattle.plcx_meaning.specs.Base.{Path, same_path}
use Rattle.plcx_meaning.specs.Layout.{all_apart}
use Rattle.plcx_state.specs.declared.layout.Leaf.{Leaf}
use Rattle.plcx_state.specs.Layouts.{meant_path, is_kept, dotted}
use Rattle.plcx_state.specs.Retains.{Pairwise, kept_of}

-- what a line says: the value of the leaf at a path
pub record Said : Type 0 where
  pub path : Path
  pub value : Value

-- `retain,PATH,LITERAL`: the path is that of a leaf of a retained state, in any case, and the literal one of the leaf's type
pub record IsLine (leaves : List Leaf) (line : List ℕ) (said : Said) : Type 0 where
  pub leaf : Leaf
  pub number : ℕ
  pub there : slice_get leaves number ≡ Some leaf
  pub kept : is_kept leaf ≡ true
  pub path : List ℕ
  pub literal : List ℕ
  pub line_is : line ≡ codes "retain," ++ (path ++ (codes "," ++ literal))
  pub path_is : in_lower_case path ≡ in_lower_case (dotted leaf.path)
  pub same : said.path ≡ meant_path leaf.path
  pub stands : StandsForValue leaf.ty literal said.value

-- lines that say so much, one after another; no path comes twice
pub record AreLines (leaves : List Leaf) (lines : List (List ℕ)) (saids : List Said) : Type 0 where
  pub each : Pairwise (IsLine leaves) lines saids
  pub apart : all_apart (map (λ (said : Said). said.path) saids) ≡ true

-- the value that is said of a path
abbrev pub said_at : List Said → Path → Option Value
said_at [] p = None
said_at (said ∷ saids) p = if same_path p said.path then Some said.value else said_at saids p

-- the retained state: the values that are said, and else the initial ones
abbrev pub kept_by : List Leaf → List Said → List (Option Value)
kept_by leaves saids = map (λ (leaf : Leaf). kept_of leaf (said_at saids (meant_path leaf.path))) leaves

-- the lines of a file; LF or CR LF ends a line, or the end of the file
abbrev pub file_lines : List ℕ → List (List ℕ)
file_lines bytes = map without_terminator (lines_of bytes)

-- a file stands for a retained state
pub record StandsForRetained (leaves : List Leaf) (bytes : List ℕ) (kept : List (Option Value)) : Type 0 where
  pub saids : List Said
  pub lines : AreLines leaves (file_lines bytes) saids
  pub kept_is : kept ≡ kept_by leaves saids

-- the lines before it are lines, and no longer with it
pub record IsFirstWrong (leaves : List Leaf) (lines : List (List ℕ)) (place : ℕ) : Type 0 where
  pub there : place < length lines
  pub saids : List Said
  pub before : AreLines leaves (take place lines) saids
  pub wrong : (more : List Said) → AreLines leaves (take (place + 1) lines) more → ⊥

-- a leaf with its value as a line
abbrev pub retained_line : Leaf → Value → List ℕ
retained_line leaf v = codes "retain," ++ (dotted leaf.path ++ (codes "," ++ (printed v ++ codes "\n")))

-- where the leaf's value is part of a retained state
abbrev pub line_if_kept : Leaf → Value → List ℕ
line_if_kept leaf v = if is_kept leaf then retained_line leaf v else []

-- the retained lines, in the order of the layout
abbrev pub retained_lines : List Leaf → List Value → List ℕ
retained_lines [] vs = []
retained_lines (leaf ∷ leaves) [] = []
retained_lines (leaf ∷ leaves) (v ∷ vs) = line_if_kept leaf v ++ retained_lines leaves vs
