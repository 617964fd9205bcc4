-- Serves proofs: drafts whose names are identifiers.
use Rattle.std.specs.Prelude.{Bool, ◌&&◌}
use Rattle.std.specs.List.{list_all}
use Rattle.plcx_types.specs.Name.{is_identifier}
use Rattle.plcx_draft.specs.declared.draft.DraftVariable.{DraftVariable}
use Rattle.plcx_draft.specs.declared.draft.DraftList.{DraftList}
use Rattle.plcx_draft.specs.declared.draft.DraftPou.{DraftPou}

-- a variable with an identifier
abbrev pub is_fine : DraftVariable → Bool
is_fine v = is_identifier v.name

-- a list of such variables
abbrev pub is_fine_list : DraftList → Bool
is_fine_list list = list_all is_fine list.variables

-- a POU with an identifier, and such lists
abbrev pub is_fine_pou : DraftPou → Bool
is_fine_pou p = is_identifier p.name && list_all is_fine_list p.lists
