-- What a POU declares, and what a name leads to in it.
use Rattle.std.specs.Prelude.{ℕ, Bool, not, ◌&&◌, List, map, Option, Some, None, is_some, nat_eq}
use Rattle.std.specs.List.{find, flat_map}
use Rattle.plcx_types.specs.declared.ty.Ty.{Ty}
use Rattle.plcx_std.specs.declared.kind.StdKind.{StdKind}
use Rattle.plcx_std.specs.declared.kind.StdKind.TheVariants as kind
use Rattle.plcx_model.specs.declared.project.ListClass.{ListClass}
use Rattle.plcx_model.specs.declared.project.ListClass.TheVariants.{Local, Input, Output, InOut}
use Rattle.plcx_model.specs.declared.project.VarTy.{VarTy}
use Rattle.plcx_model.specs.declared.project.VarTy.TheVariants.{Plain, Std, Block}
use Rattle.plcx_model.specs.declared.project.Variable.{Variable}
use Rattle.plcx_model.specs.declared.project.VarList.{VarList}
use Rattle.plcx_model.specs.declared.project.Pou.{Pou}
use Rattle.plcx_rules.specs.Texts.{same_name}

-- a variable, with what its list says of it
pub record Declaration : Type 0 where
  pub class : ListClass
  pub constant : Bool
  pub variable : Variable

-- the variables of a list
abbrev pub declared_in : VarList → List Declaration
declared_in list = map (λ (v : Variable). let d : Declaration = record { class = list.class; constant = list.constant; variable = v } in d) list.variables

-- the variables of a POU, in the order of the file
abbrev pub declarations_of : Pou → List Declaration
declarations_of p = flat_map declared_in p.lists

-- a declaration is of that name
abbrev pub is_of_name : List ℕ → Declaration → Bool
is_of_name name d = same_name name d.variable.name

-- what a name leads to in a POU
unfoldable pub declaration_named : Pou → List ℕ → Option Declaration
declaration_named p name = find (is_of_name name) (declarations_of p)

-- the type, where it is elementary
abbrev pub plain_type : VarTy → Option Ty
plain_type (Plain t) = Some t
plain_type (Std k) = None
plain_type (Block place) = None

-- where a class stands among the classes
abbrev pub class_place : ListClass → ℕ
class_place Local = 0
class_place Input = 1
class_place Output = 2
class_place InOut = 3

-- both are one class
abbrev pub same_class : ListClass → ListClass → Bool
same_class c d = nat_eq (class_place c) (class_place d)

-- a variable can be written: it is of an elementary type, no constant and no input
abbrev pub can_be_written : Declaration → Bool
can_be_written d = is_some (plain_type d.variable.ty) && not d.constant && not (same_class d.class Input)

-- where a standard block stands among them
abbrev pub kind_place : StdKind → ℕ
kind_place kind.Ton = 0
kind_place kind.Tof = 1
kind_place kind.Tp = 2
kind_place kind.Ctu = 3
kind_place kind.Ctd = 4
kind_place kind.Ctud = 5
kind_place kind.Sr = 6
kind_place kind.Rs = 7
kind_place kind.RTrig = 8
kind_place kind.FTrig = 9

-- both are one standard block
abbrev pub same_kind : StdKind → StdKind → Bool
same_kind k j = nat_eq (kind_place k) (kind_place j)
