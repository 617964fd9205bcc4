-- Serves proofs: the program of a run, among the POUs of the file.
use Rattle.std.specs.Prelude.{ℕ, Bool, ◌&&◌, List, Option, Some, None, filter, find, length, nat_eq, if◌then◌else◌}
use Rattle.std.specs.Str.{bytes_eq}
use Rattle.plcx_types.specs.Name.{in_lower_case}
use Rattle.plcx_meaning.specs.Tree as tree
use Rattle.plcx_model.specs.declared.project.Pou.{Pou}
use Rattle.plcx_view.specs.Declared.{kind_of_pou}

-- the POU is a program
unfoldable pub is_program : Pou → Bool
is_program p = tree.is_program (kind_of_pou p.kind)

-- and has this name, whatever the case of its letters
abbrev pub is_program_named : List ℕ → Pou → Bool
is_program_named name p = is_program p && bytes_eq (in_lower_case p.name) (in_lower_case name)

-- how many are programs
abbrev pub count : List Pou → ℕ
count pous = length (filter is_program pous)

-- the program of a run: that of the name, or where none is named the only one
abbrev pub chosen : Option (List ℕ) → List Pou → Option Pou
chosen (Some name) pous = find (is_program_named name) pous
chosen None pous = if nat_eq (count pous) 1 then find is_program pous else None
