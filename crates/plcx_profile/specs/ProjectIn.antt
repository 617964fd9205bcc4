-- The project that a file stands for, and when it does.
use Rattle.std.specs.Prelude.{ℕ, List, map, Option, Some, None}
use Rattle.plcx_types.specs.Value.{Value}
use Rattle.plcx_types.specs.declared.ty.Ty.TheVariants as ty
use Rattle.plcx_model.specs.declared.project.VarTy.{VarTy}
use Rattle.plcx_model.specs.declared.project.VarTy.TheVariants as var
use Rattle.plcx_model.specs.declared.project.Variable.{Variable}
use Rattle.plcx_model.specs.declared.project.VarList.{VarList}
use Rattle.plcx_model.specs.declared.project.Pou.{Pou}
use Rattle.plcx_model.specs.declared.project.Project.{Project}
use Rattle.plcx_draft.specs.BodyIn.{nonempty}
use Rattle.plcx_draft.specs.declared.draft.DraftType.{DraftType}
use Rattle.plcx_draft.specs.declared.draft.DraftType.TheVariants.{Plain}
use Rattle.plcx_draft.specs.declared.draft.DraftVariable.{DraftVariable}
use Rattle.plcx_draft.specs.declared.draft.DraftList.{DraftList}
use Rattle.plcx_draft.specs.declared.draft.DraftPou.{DraftPou}
use Rattle.plcx_draft.specs.declared.draft.Draft.{Draft}
use Rattle.plcx_profile.specs.Types.{type_meant}
use Rattle.plcx_types.specs.ReadLiteral.{value_of}

-- where no type is meant, any will do
abbrev pub type_or : Option VarTy → VarTy
type_or None = var.Plain ty.Bool
type_or (Some t) = t

-- an initial value of an elementary type
abbrev pub initial_as : DraftType → Option (List ℕ) → Option Value
initial_as (Plain t) (Some text) = value_of t text
initial_as _ text = None

-- a variable of the project
unfoldable pub variable_of : List DraftPou → DraftVariable → Variable
variable_of pous v = record { name = v.name; address = nonempty v.address; ty = type_or (type_meant pous v.ty); initial = initial_as v.ty v.initial }

-- a list of the project
unfoldable pub list_of : List DraftPou → DraftList → VarList
list_of pous list = record { class = list.class; constant = list.constant; retain = list.retain; variables = map (variable_of pous) list.variables }

-- a POU of the project
unfoldable pub pou_of : List DraftPou → DraftPou → Pou
pou_of pous p = record { name = p.name; kind = p.kind; lists = map (list_of pous) p.lists; body = p.body }

-- the project of a draft
unfoldable pub settled : Draft → Project
settled draft = record { pous = map (pou_of draft.pous) draft.pous }
