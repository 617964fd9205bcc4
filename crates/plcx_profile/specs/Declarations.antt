-- What a file declares, in document order: its POUs, each before its variables.
use Rattle.std.specs.Prelude.{ℕ, List, ◌∷◌, map}
use Rattle.std.specs.List.{flat_map}
use Rattle.plcx_draft.specs.declared.draft.DraftVariable.{DraftVariable}
use Rattle.plcx_draft.specs.declared.draft.DraftList.{DraftList}
use Rattle.plcx_draft.specs.declared.draft.DraftPou.{DraftPou}
use Rattle.plcx_draft.specs.declared.draft.Draft.{Draft}

-- a POU, or a variable in its list
pub data Declared : Type 0 where
  OfPou : DraftPou → Declared
  OfVariable : DraftList → DraftVariable → Declared

-- the variables of a list
abbrev pub in_list : DraftList → List Declared
in_list list = map (λ (v : DraftVariable). OfVariable list v) list.variables

-- a POU and its variables
abbrev pub in_pou : DraftPou → List Declared
in_pou p = OfPou p ∷ flat_map in_list p.lists

-- all that a draft declares
unfoldable pub declared_in : Draft → List Declared
declared_in draft = flat_map in_pou draft.pous

-- the byte where its element begins
abbrev pub start_of : Declared → ℕ
start_of (OfPou p) = p.start
start_of (OfVariable list v) = v.start

-- the name that is declared
abbrev pub name_of : Declared → List ℕ
name_of (OfPou p) = p.name
name_of (OfVariable list v) = v.name
