-- The draft that a file stands for, whether it breaks a rule or not: first children and attributes of a name, and nothing where there are none.
use Rattle.std.specs.Prelude.{ℕ, Bool, true, false, not, ◌&&◌, List, [], Option, Some, None, codes, option_map, option_and_then, if◌then◌else◌}
use Rattle.std.specs.Str.{bytes_eq}
use Rattle.plcx_types.specs.Name.{in_upper_case}
use Rattle.plcx_types.specs.TypeName.{type_named}
use Rattle.plcx_types.specs.declared.ty.Ty.{Ty}
use Rattle.plcx_model.specs.declared.project.PouKind.{PouKind}
use Rattle.plcx_model.specs.declared.project.PouKind.TheVariants.{Program, FunctionBlock}
use Rattle.plcx_model.specs.declared.project.ListClass.{ListClass}
use Rattle.plcx_model.specs.declared.project.ListClass.TheVariants.{Local, Input, Output, InOut}
use Rattle.plcx_table.specs.Constructs.{attribute_of}
use Rattle.plcx_table.specs.Walk.{start_of}
use Rattle.plcx_xml.specs.Look.{name_of}
use Rattle.plcx_xml.specs.declared.tree.Element.{Element}
use Rattle.plcx_draft.specs.declared.draft.DraftType.{DraftType}
use Rattle.plcx_draft.specs.declared.draft.DraftType.TheVariants.{Plain, Derived}
use Rattle.plcx_draft.specs.declared.draft.DraftVariable.{DraftVariable}
use Rattle.plcx_draft.specs.declared.draft.DraftList.{DraftList}
use Rattle.plcx_draft.specs.declared.draft.DraftPou.{DraftPou}
use Rattle.plcx_draft.specs.declared.draft.Draft.{Draft}
use Rattle.plcx_draft.specs.Parts.{parts_of, parts_in, first_part, first_child}
use Rattle.plcx_draft.specs.BodyIn.{is_marked, body_in}

-- an elementary type
abbrev pub plain_type : Option Ty → Option DraftType
plain_type None = None
plain_type (Some t) = Some (Plain t)

-- the type that an element names
unfoldable pub type_of : Element → Option DraftType
type_of e = if bytes_eq (name_of e) (codes "derived") then Some (Derived (attribute_of (codes "name") e)) else plain_type (type_named (name_of e))

-- a type, or one without a name where there is none
abbrev pub type_or : Option DraftType → DraftType
type_or None = Derived []
type_or (Some t) = t

-- the type of a variable
unfoldable pub type_in : Element → DraftType
type_in e = type_or (option_and_then (first_part type_of) (first_child (codes "type") e))

-- the value of an element, if it is there
abbrev pub value_at : Option Element → Option (List ℕ)
value_at None = None
value_at (Some e) = Some (attribute_of (codes "value") e)

-- the text of the initial value
unfoldable pub initial_in : Element → Option (List ℕ)
initial_in e = value_at (option_and_then (first_child (codes "simpleValue")) (first_child (codes "initialValue") e))

-- a variable, if the element is one
unfoldable pub variable_in : Element → Option DraftVariable
variable_in e = if bytes_eq (name_of e) (codes "variable") then Some (record {
  name = attribute_of (codes "name") e;
  address = in_upper_case (attribute_of (codes "address") e);
  ty = type_in e;
  initial = initial_in e;
  start = start_of e;
}) else None

-- the class of a list, by the list's name
unfoldable pub class_named : List ℕ → Option ListClass
class_named name = if bytes_eq name (codes "localVars") then Some Local else (if bytes_eq name (codes "inputVars") then Some Input
    else (if bytes_eq name (codes "outputVars") then Some Output else (if bytes_eq name (codes "inOutVars") then Some InOut else None)))

-- the marks of in-outs are ignored
abbrev pub takes_marks : ListClass → Bool
takes_marks InOut = false
takes_marks _ = true

-- the marks of in-outs are ignored, and a list that is marked as constant isn't retained
abbrev pub list_of : Element → ListClass → DraftList
list_of e class = record {
  class = class;
  constant = takes_marks class && is_marked (codes "constant") e;
  retain = takes_marks class && not (is_marked (codes "constant") e) && is_marked (codes "retain") e;
  variables = parts_of variable_in e;
}

-- a list of variables, if the element is one
unfoldable pub list_in : Element → Option DraftList
list_in e = option_map (list_of e) (class_named (name_of e))

-- a program, or else a function block
abbrev pub kind_of : List ℕ → PouKind
kind_of text = if bytes_eq text (codes "program") then Program else FunctionBlock

-- a POU, if the element is one
unfoldable pub pou_in : Element → Option DraftPou
pou_in e = if bytes_eq (name_of e) (codes "pou") then Some (record {
  name = attribute_of (codes "name") e;
  kind = kind_of (attribute_of (codes "pouType") e);
  lists = parts_in list_in (first_child (codes "interface") e);
  body = body_in e;
  start = start_of e;
}) else None

-- the draft of a file
unfoldable pub draft_in : Element → Draft
draft_in root = record { pous = parts_in pou_in (option_and_then (first_child (codes "pous")) (first_child (codes "types") root)) }
