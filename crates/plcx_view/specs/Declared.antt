-- The lists of a POU, as a diagram has them.
use Rattle.std.specs.Prelude.{ℕ, Bool, true, false, List, [], Some, None, map, slice_get}
use Rattle.plcx_types.specs.TypeName.{type_name}
use Rattle.plcx_std.specs.Kind.{kind_name}
use Rattle.plcx_meaning.specs.Tree as tree
use Rattle.plcx_model.specs.declared.project.PouKind.{PouKind}
use Rattle.plcx_model.specs.declared.project.PouKind.TheVariants as pou
use Rattle.plcx_model.specs.declared.project.ListClass.{ListClass}
use Rattle.plcx_model.specs.declared.project.ListClass.TheVariants as class
use Rattle.plcx_model.specs.declared.project.VarTy.{VarTy}
use Rattle.plcx_model.specs.declared.project.VarTy.TheVariants.{Plain, Std, Block}
use Rattle.plcx_model.specs.declared.project.Variable.{Variable}
use Rattle.plcx_model.specs.declared.project.VarList.{VarList}
use Rattle.plcx_model.specs.declared.project.Pou.{Pou}

-- what a POU is
abbrev pub kind_of_pou : PouKind → tree.PouKind
kind_of_pou pou.Program = tree.Program
kind_of_pou pou.FunctionBlock = tree.FunctionBlock

-- what the variables of a list are
abbrev pub class_of : ListClass → tree.Class
class_of class.Local = tree.Local
class_of class.Input = tree.Input
class_of class.Output = tree.Output
class_of class.InOut = tree.InOut

-- a list that is both is constant
abbrev pub mark_by : (constant retain : Bool) → tree.Mark
mark_by true retain = tree.Constant
mark_by false true = tree.Retain
mark_by false false = tree.Plain

-- the mark of a list
abbrev pub mark_of : VarList → tree.Mark
mark_of list = mark_by list.constant list.retain

-- the name of the POU at a place
abbrev pub name_at : List Pou → ℕ → List ℕ
name_at pous place = elim (slice_get pous place) [ Some q ↦ q.name | None ↦ [] ]

-- a type as its name is spelled: an elementary type and a standard block in capitals, a function block as its POU declares it
abbrev pub spelled_type : List Pou → VarTy → List ℕ
spelled_type pous (Plain t) = type_name t
spelled_type pous (Std k) = kind_name k
spelled_type pous (Block place) = name_at pous place

-- a variable with its address and its initial value
abbrev pub declaration_of : List Pou → Variable → tree.Declaration
declaration_of pous v = record { name = v.name; address = v.address; ty = spelled_type pous v.ty; initial = v.initial }

-- a list of variables
abbrev pub list_of : List Pou → VarList → tree.Block
list_of pous list = record { class = class_of list.class; mark = mark_of list; declarations = map (declaration_of pous) list.variables }

-- the lists of a POU, in the order of the file
abbrev pub lists_of : List Pou → Pou → List tree.Block
lists_of pous p = map (list_of pous) p.lists
