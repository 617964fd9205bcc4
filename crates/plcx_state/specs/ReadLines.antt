-- Serves proofs: what the reader of retained lines answers.
use Rattle.std.specs.Prelude.{◌≡◌, ◌+◌, ℕ, Bool, List, Option, Some, None, map, take, drop, codes, slice_get, slice_set, length, ◌==◌, true, false, if◌then◌else◌}
use Rattle.std.specs.List.{position, filter_map}
use Rattle.std.specs.Str.{bytes_eq}
use Rattle.std.specs.Option.{option_map, option_and_then}
use Rattle.plcx_types.specs.Name.{in_lower_case}
use Rattle.plcx_types.specs.ReadLiteral.{value_of}
use Rattle.plcx_types.specs.Value.{Value}
use Rattle.plcx_state.specs.declared.layout.Leaf.{Leaf}
use Rattle.plcx_state.specs.declared.lines.Reading.{Reading}
use Rattle.plcx_state.specs.Layouts.{meant_path, is_kept}
use Rattle.plcx_state.specs.Lines.{Said, AreLines, said_at}
use Rattle.plcx_state.specs.Tables.{printed_at}

-- the path and the literal of a line
pub record Parts : Type 0 where
  pub path : List ℕ
  pub literal : List ℕ

abbrev pub parts : List ℕ → List ℕ → Parts
parts path literal = record { path = path; literal = literal }

-- what stands on both sides of a comma at this place
abbrev pub parts_at : List ℕ → ℕ → Parts
parts_at text comma = parts (take comma text) (drop (comma + 1) text)

-- what stands before the first comma, and what behind it
unfoldable pub split : List ℕ → Option Parts
split text = option_map (parts_at text) (position (λ b. b == 44) text)

-- what stands behind a word at the front
abbrev pub behind_word : List ℕ → List ℕ → Option (List ℕ)
behind_word word text = if bytes_eq (take (length word) text) word then Some (drop (length word) text) else None

-- what stands behind `retain,`
unfoldable pub line_parts : List ℕ → Option Parts
line_parts line = option_and_then split (behind_word (codes "retain,") line)

-- a value for the leaf of this number
abbrev pub reading : ℕ → Value → Reading
reading leaf v = record { leaf = leaf; value = v }

-- a literal for the leaf
abbrev pub read_literal_for : List ℕ → ℕ → Leaf → Option Reading
read_literal_for literal number leaf = if is_kept leaf then option_map (reading number) (value_of leaf.ty literal) else None

-- a literal for the leaf of this number
abbrev pub read_number : List Leaf → List ℕ → ℕ → Option Reading
read_number leaves literal number = option_and_then (read_literal_for literal number) (slice_get leaves number)

-- a path and a literal
abbrev pub read_parts : List Leaf → Parts → Option Reading
read_parts leaves p = option_and_then (read_number leaves p.literal) (printed_at (in_lower_case p.path) leaves)

-- a line
unfoldable pub read_line : List Leaf → List ℕ → Option Reading
read_line leaves line = option_and_then (read_parts leaves) (line_parts line)

-- nothing is said yet of the leaf
abbrev pub is_free : Option (Option Value) → Bool
is_free None = false
is_free (Some None) = true
is_free (Some (Some v)) = false

-- the values that are said, with one more; nothing where the line says none, or one of a leaf of which another is said
abbrev pub noted : List (Option Value) → Option Reading → Option (List (Option Value))
noted draft None = None
noted draft (Some r) = if is_free (slice_get draft r.leaf) then Some (slice_set draft r.leaf (Some r.value)) else None

-- the value of the leaf of this number, as a line says it
abbrev pub said_of : List Leaf → Reading → Option Said
said_of leaves r = option_map (λ (leaf : Leaf). record { path = meant_path leaf.path; value = r.value }) (slice_get leaves r.leaf)

-- what a line says
abbrev pub line_said : List Leaf → List ℕ → Option Said
line_said leaves line = option_and_then (said_of leaves) (read_line leaves line)

-- what lines say
abbrev pub lines_said : List Leaf → List (List ℕ) → List Said
lines_said leaves lines = filter_map (line_said leaves) lines

-- the values that are said, by the numbers of leaves
abbrev pub drafted : List Leaf → List Said → List (Option Value)
drafted leaves saids = map (λ (leaf : Leaf). said_at saids (meant_path leaf.path)) leaves

-- lines that say something, and the values that they say
pub record Goes (leaves : List Leaf) (lines : List (List ℕ)) (draft : List (Option Value)) : Type 0 where
  pub lines_are : AreLines leaves lines (lines_said leaves lines)
  pub draft_is : draft ≡ drafted leaves (lines_said leaves lines)
