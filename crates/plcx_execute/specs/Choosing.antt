-- Serves proofs: the program of a run, among the POUs as they are read.
use Rattle.std.specs.Prelude.{◌≡◌, ℕ, Bool, ◌&&◌, List, Option, Some, None, filter, find, length, nat_eq, if◌then◌else◌}
use Rattle.std.specs.Str.{bytes_eq}
use Rattle.plcx_types.specs.Name.{in_lower_case}
use Rattle.plcx_meaning.specs.Execute.{program_named}
use Rattle.plcx_meaning.specs.Tree as tree
use Rattle.plcx_st.specs.declared.tree.PouText.{PouText}
use Rattle.plcx_st.specs.Meant.{kind_meant}
use Rattle.plcx_traced.specs.Programs.{IsChosen}
use Rattle.plcx_execute.specs.Programs.{programs_of}

-- the POU is a program
unfoldable pub is_program : PouText → Bool
is_program p = tree.is_program (kind_meant p.kind)

-- and has this name, whatever the case of its letters
abbrev pub is_program_named : List ℕ → PouText → Bool
is_program_named name p = is_program p && bytes_eq (in_lower_case p.name.name) (in_lower_case name)

-- how many are programs
abbrev pub count : List PouText → ℕ
count pous = length (filter is_program pous)

-- the program of a run: that of the name, or where none is named the only one
abbrev pub chosen : Option (List ℕ) → List PouText → Option PouText
chosen (Some name) pous = find (is_program_named name) pous
chosen None pous = if nat_eq (count pous) 1 then find is_program pous else None

-- the name is that of a program of the unit, which is the one that a run is of
pub record NamesProgram (unit : List tree.PouText) (program : Option (List ℕ)) (name : List ℕ) : Type 0 where
  pub pou : tree.PouText
  pub is : IsChosen (programs_of unit) program pou
  pub named : program_named name unit ≡ Some pou
