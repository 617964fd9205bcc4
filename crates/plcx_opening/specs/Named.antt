-- Serves proofs: the program of a name by the POUs of the file.
use Rattle.std.specs.Prelude.{ℕ, Bool, ◌&&◌, List}
use Rattle.std.specs.Str.{bytes_eq}
use Rattle.plcx_types.specs.Name.{in_lower_case}
use Rattle.plcx_meaning.specs.Tree.{is_program}
use Rattle.plcx_model.specs.declared.project.Pou.{Pou}
use Rattle.plcx_view.specs.Declared.{kind_of_pou}

-- the POU is a program of this name, whatever the case of its letters
abbrev pub is_program_named : List ℕ → Pou → Bool
is_program_named name p = is_program (kind_of_pou p.kind) && bytes_eq (in_lower_case p.name) (in_lower_case name)
