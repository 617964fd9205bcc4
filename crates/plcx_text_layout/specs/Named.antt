-- Serves proofs: the program of a name by the POUs as they are read.
use Rattle.std.specs.Prelude.{ℕ, Bool, ◌&&◌, List}
use Rattle.std.specs.Str.{bytes_eq}
use Rattle.plcx_types.specs.Name.{in_lower_case}
use Rattle.plcx_meaning.specs.Tree.{is_program}
use Rattle.plcx_st.specs.declared.tree.PouText.{PouText}
use Rattle.plcx_st.specs.Meant.{kind_meant}

-- the POU is a program of this name, whatever the case of its letters
abbrev pub is_program_named : List ℕ → PouText → Bool
is_program_named name p = is_program (kind_meant p.kind) && bytes_eq (in_lower_case p.name.name) (in_lower_case name)
