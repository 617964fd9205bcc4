-- Initial values that are of their variables' types.
use Rattle.std.specs.Prelude.{List}
use Rattle.plcx_types.specs.Lists.{Each}
use Rattle.plcx_model.specs.declared.project.Variable.{Variable}
use Rattle.plcx_model.specs.declared.project.VarList.{VarList}
use Rattle.plcx_model.specs.declared.project.Pou.{Pou}
use Rattle.plcx_model.specs.Sound.{InitialSuits}

-- the initial value of a variable is of its type
abbrev pub Suits : Variable → Type 0
Suits v = InitialSuits v.ty v.initial

-- so are those of a list
abbrev pub ListSuits : VarList → Type 0
ListSuits list = Each Suits list.variables

-- and those of all POUs
abbrev pub PousSuit : List Pou → Type 0
PousSuit pous = Each (λ (p : Pou). Each ListSuits p.lists) pous
