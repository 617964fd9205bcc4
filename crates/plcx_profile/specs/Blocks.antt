-- The function blocks of a file, by their names.
use Rattle.std.specs.Prelude.{ℕ, Bool, true, false, ◌&&◌, List, Option}
use Rattle.std.specs.List.{position_from}
use Rattle.std.specs.Str.{bytes_eq}
use Rattle.plcx_types.specs.Name.{in_lower_case}
use Rattle.plcx_model.specs.declared.project.PouKind.{PouKind}
use Rattle.plcx_model.specs.declared.project.PouKind.TheVariants.{Program, FunctionBlock}
use Rattle.plcx_draft.specs.declared.draft.DraftPou.{DraftPou}

-- a POU of this kind is a function block
abbrev pub is_block : PouKind → Bool
is_block Program = false
is_block FunctionBlock = true

-- a function block of that name, which is given in lower case
abbrev pub is_block_named : List ℕ → DraftPou → Bool
is_block_named name p = is_block p.kind && bytes_eq name (in_lower_case p.name)

-- the place of the function block of that name, which is given in lower case
unfoldable pub block_named : List DraftPou → List ℕ → Option ℕ
block_named pous name = position_from (is_block_named name) 0 pous
