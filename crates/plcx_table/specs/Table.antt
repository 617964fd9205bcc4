-- The table of the format: which children and attributes an element has that is read.
use Rattle.std.specs.Prelude.{ℕ, Bool, true, false, List, [], ◌∷◌, ◌++◌, codes}
use Rattle.plcx_table.specs.declared.row.Row.{Row}
use Rattle.plcx_table.specs.declared.row.Row.TheVariants.{Project, Types, DataTypes, Pous, Program, FunctionBlock, Function, Contents, ProgramInterface, BlockInterface, VariableList, OutsideList, Variable, OneType, Derived, InitialValue, SimpleValue, Body, Diagram, Comment, Vendor, Block, InputPins, InOutPins, OutputPins, InputPin, InOutPin, OutputPin, PointIn, PointOut, RailPoint, Connection, RailConnection, InVariable, OutVariable, Contact, Coil, Connector, Continuation, Label, Jump, Return, LeftRail, RightRail, Position, TextAlone, Bare}
use Rattle.plcx_table.specs.declared.row.Seat.{Seat}
use Rattle.plcx_table.specs.declared.row.Seat.TheVariants.{First, Second, Third, Fourth}
use Rattle.plcx_table.specs.declared.row.Often.{Often}
use Rattle.plcx_table.specs.declared.row.Often.TheVariants.{Any, AtMostOnce, Once}
use Rattle.plcx_table.specs.declared.row.Fate.{Fate}
use Rattle.plcx_table.specs.declared.row.Fate.TheVariants.{Read, Refused, Skipped}
use Rattle.plcx_table.specs.declared.row.Form.{Form}
use Rattle.plcx_table.specs.declared.row.Form.TheVariants.{Whole, Coordinate, Boolean, Edge, Storage, PouType, Namespace, Address, Nonempty}
use Rattle.plcx_table.specs.declared.row.Form.TheVariants as form

-- a child is meant wherever it has its name, only where an attribute has a value, or only where it has text that isn't blank
pub data When : Type 0 where
  Always : When
  Has : List ℕ → List ℕ → When
  HasText : When

-- a child: its name, where it is meant, how often it stands, and what becomes of it
pub record Child : Type 0 where
  pub name : List ℕ
  pub when : When
  pub often : Often
  pub fate : Fate

-- an attribute: its name, whether it has to stand, and the form of its value
pub record Field : Type 0 where
  pub name : List ℕ
  pub required : Bool
  pub form : Form

-- a child that stands as often as it likes
abbrev pub any : List ℕ → Fate → Child
any name fate = record { name = name; when = Always; often = Any; fate = fate }

-- a child that stands at most once; children that share a seat stand once among them
abbrev pub maybe : Seat → List ℕ → Fate → Child
maybe seat name fate = record { name = name; when = Always; often = AtMostOnce seat; fate = fate }

-- a child that has to stand, once
abbrev pub once : Seat → List ℕ → Fate → Child
once seat name fate = record { name = name; when = Always; often = Once seat; fate = fate }

-- a child of a name that is meant only there
abbrev pub where_meant : When → Child → Child
where_meant when c = record c { when = when }

-- an attribute that has to stand
abbrev pub needed : List ℕ → Form → Field
needed name form = record { name = name; required = true; form = form }

-- an attribute that may be absent
abbrev pub optional : List ℕ → Form → Field
optional name form = record { name = name; required = false; form = form }

-- the children that an element may have, by what it is read as; the first that fits counts
abbrev pub children : Row → List Child
children Project =
    maybe First (codes "fileHeader") (Skipped Bare)
    ∷ maybe Second (codes "contentHeader") (Skipped Bare)
    ∷ once Third (codes "types") (Read Types)
    ∷ maybe Fourth (codes "instances") (Skipped Bare)
    ∷ []
children Types =
    maybe First (codes "dataTypes") (Read DataTypes)
    ∷ once Second (codes "pous") (Read Pous)
    ∷ []
children DataTypes =
    any (codes "dataType") (Refused Bare)
    ∷ []
children Pous =
    where_meant (Has (codes "pouType") (codes "function")) (any (codes "pou") (Refused Function))
    ∷ where_meant (Has (codes "pouType") (codes "program")) (any (codes "pou") (Read Program))
    ∷ any (codes "pou") (Read FunctionBlock)
    ∷ []
children Program =
    maybe First (codes "interface") (Read ProgramInterface)
    ∷ once Second (codes "body") (Read Body)
    ∷ maybe Third (codes "actions") (Read Contents)
    ∷ maybe Fourth (codes "transitions") (Read Contents)
    ∷ []
children FunctionBlock =
    maybe First (codes "interface") (Read BlockInterface)
    ∷ once Second (codes "body") (Read Body)
    ∷ maybe Third (codes "actions") (Read Contents)
    ∷ maybe Fourth (codes "transitions") (Read Contents)
    ∷ []
children ProgramInterface =
    any (codes "localVars") (Read VariableList)
    ∷ any (codes "inputVars") (Read VariableList)
    ∷ any (codes "outputVars") (Read VariableList)
    ∷ any (codes "inOutVars") (Read OutsideList)
    ∷ any (codes "tempVars") (Read OutsideList)
    ∷ any (codes "externalVars") (Read OutsideList)
    ∷ any (codes "globalVars") (Read OutsideList)
    ∷ any (codes "accessVars") (Read OutsideList)
    ∷ maybe First (codes "returnType") (Refused Bare)
    ∷ []
children BlockInterface =
    any (codes "localVars") (Read VariableList)
    ∷ any (codes "inputVars") (Read VariableList)
    ∷ any (codes "outputVars") (Read VariableList)
    ∷ any (codes "inOutVars") (Read VariableList)
    ∷ any (codes "tempVars") (Read OutsideList)
    ∷ any (codes "externalVars") (Read OutsideList)
    ∷ any (codes "globalVars") (Read OutsideList)
    ∷ any (codes "accessVars") (Read OutsideList)
    ∷ maybe First (codes "returnType") (Refused Bare)
    ∷ []
children VariableList =
    any (codes "variable") (Read Variable)
    ∷ []
children OutsideList =
    any (codes "variable") (Refused Variable)
    ∷ []
children Variable =
    once First (codes "type") (Read OneType)
    ∷ maybe Second (codes "initialValue") (Read InitialValue)
    ∷ []
children OneType =
    once First (codes "BOOL") (Read Bare)
    ∷ once First (codes "INT") (Read Bare)
    ∷ once First (codes "DINT") (Read Bare)
    ∷ once First (codes "TIME") (Read Bare)
    ∷ once First (codes "derived") (Read Derived)
    ∷ once First (codes "WORD") (Read Bare)
    ∷ once First (codes "BYTE") (Read Bare)
    ∷ once First (codes "SINT") (Read Bare)
    ∷ once First (codes "LINT") (Read Bare)
    ∷ once First (codes "USINT") (Read Bare)
    ∷ once First (codes "UINT") (Read Bare)
    ∷ once First (codes "UDINT") (Read Bare)
    ∷ once First (codes "ULINT") (Read Bare)
    ∷ once First (codes "DWORD") (Read Bare)
    ∷ once First (codes "LWORD") (Read Bare)
    ∷ once First (codes "REAL") (Refused Bare)
    ∷ once First (codes "LREAL") (Refused Bare)
    ∷ once First (codes "LTIME") (Refused Bare)
    ∷ once First (codes "DATE") (Refused Bare)
    ∷ once First (codes "DT") (Refused Bare)
    ∷ once First (codes "TOD") (Refused Bare)
    ∷ once First (codes "STRING") (Refused Bare)
    ∷ once First (codes "WSTRING") (Refused Bare)
    ∷ once First (codes "string") (Refused Bare)
    ∷ once First (codes "wstring") (Refused Bare)
    ∷ once First (codes "array") (Refused Bare)
    ∷ once First (codes "struct") (Refused Bare)
    ∷ once First (codes "enum") (Refused Bare)
    ∷ once First (codes "subrangeSigned") (Refused Bare)
    ∷ once First (codes "subrangeUnsigned") (Refused Bare)
    ∷ once First (codes "pointer") (Refused Bare)
    ∷ []
children InitialValue =
    once First (codes "simpleValue") (Read SimpleValue)
    ∷ once First (codes "arrayValue") (Refused Bare)
    ∷ once First (codes "structValue") (Refused Bare)
    ∷ []
children Body =
    once First (codes "FBD") (Read Diagram)
    ∷ once First (codes "LD") (Read Diagram)
    ∷ once First (codes "IL") (Refused Bare)
    ∷ once First (codes "ST") (Refused Bare)
    ∷ once First (codes "SFC") (Refused Bare)
    ∷ []
children Diagram =
    any (codes "block") (Read Block)
    ∷ any (codes "inVariable") (Read InVariable)
    ∷ any (codes "outVariable") (Read OutVariable)
    ∷ any (codes "contact") (Read Contact)
    ∷ any (codes "coil") (Read Coil)
    ∷ any (codes "connector") (Read Connector)
    ∷ any (codes "continuation") (Read Continuation)
    ∷ any (codes "label") (Read Label)
    ∷ any (codes "jump") (Read Jump)
    ∷ any (codes "return") (Read Return)
    ∷ any (codes "leftPowerRail") (Read LeftRail)
    ∷ any (codes "rightPowerRail") (Read RightRail)
    ∷ any (codes "comment") (Skipped Comment)
    ∷ any (codes "vendorElement") (Skipped Vendor)
    ∷ any (codes "error") (Refused Bare)
    ∷ any (codes "actionBlock") (Refused Bare)
    ∷ any (codes "inOutVariable") (Refused Bare)
    ∷ any (codes "step") (Refused Bare)
    ∷ any (codes "macroStep") (Refused Bare)
    ∷ any (codes "jumpStep") (Refused Bare)
    ∷ any (codes "transition") (Refused Bare)
    ∷ any (codes "selectionDivergence") (Refused Bare)
    ∷ any (codes "selectionConvergence") (Refused Bare)
    ∷ any (codes "simultaneousDivergence") (Refused Bare)
    ∷ any (codes "simultaneousConvergence") (Refused Bare)
    ∷ []
children Block =
    maybe First (codes "position") (Read Position)
    ∷ maybe Second (codes "inputVariables") (Read InputPins)
    ∷ maybe Third (codes "inOutVariables") (Read InOutPins)
    ∷ maybe Fourth (codes "outputVariables") (Read OutputPins)
    ∷ []
children InputPins =
    any (codes "variable") (Read InputPin)
    ∷ []
children InOutPins =
    any (codes "variable") (Read InOutPin)
    ∷ []
children OutputPins =
    any (codes "variable") (Read OutputPin)
    ∷ []
children InputPin =
    maybe First (codes "connectionPointIn") (Read PointIn)
    ∷ []
children InOutPin =
    maybe First (codes "connectionPointIn") (Read PointIn)
    ∷ maybe Second (codes "connectionPointOut") (Read PointOut)
    ∷ []
children OutputPin =
    maybe First (codes "connectionPointOut") (Read PointOut)
    ∷ []
children PointIn =
    maybe First (codes "relPosition") (Skipped Bare)
    ∷ any (codes "connection") (Read Connection)
    ∷ where_meant HasText (maybe Second (codes "expression") (Refused Bare))
    ∷ maybe Second (codes "expression") (Read TextAlone)
    ∷ []
children PointOut =
    maybe First (codes "relPosition") (Skipped Bare)
    ∷ where_meant HasText (maybe Second (codes "expression") (Refused Bare))
    ∷ maybe Second (codes "expression") (Read TextAlone)
    ∷ []
children RailPoint =
    maybe First (codes "relPosition") (Skipped Bare)
    ∷ any (codes "connection") (Read RailConnection)
    ∷ where_meant HasText (maybe Second (codes "expression") (Refused Bare))
    ∷ maybe Second (codes "expression") (Read TextAlone)
    ∷ []
children Connection =
    any (codes "position") (Skipped Bare)
    ∷ []
children RailConnection =
    any (codes "position") (Skipped Bare)
    ∷ []
children InVariable =
    maybe First (codes "position") (Read Position)
    ∷ maybe Second (codes "connectionPointOut") (Read PointOut)
    ∷ once Third (codes "expression") (Read TextAlone)
    ∷ []
children OutVariable =
    maybe First (codes "position") (Read Position)
    ∷ maybe Second (codes "connectionPointIn") (Read PointIn)
    ∷ once Third (codes "expression") (Read TextAlone)
    ∷ []
children Contact =
    maybe First (codes "position") (Read Position)
    ∷ maybe Second (codes "connectionPointIn") (Read PointIn)
    ∷ maybe Third (codes "connectionPointOut") (Read PointOut)
    ∷ once Fourth (codes "variable") (Read TextAlone)
    ∷ []
children Coil =
    maybe First (codes "position") (Read Position)
    ∷ maybe Second (codes "connectionPointIn") (Read PointIn)
    ∷ maybe Third (codes "connectionPointOut") (Read PointOut)
    ∷ once Fourth (codes "variable") (Read TextAlone)
    ∷ []
children Connector =
    maybe First (codes "position") (Read Position)
    ∷ maybe Second (codes "connectionPointIn") (Read PointIn)
    ∷ []
children Continuation =
    maybe First (codes "position") (Read Position)
    ∷ maybe Second (codes "connectionPointOut") (Read PointOut)
    ∷ []
children Label =
    maybe First (codes "position") (Read Position)
    ∷ []
children Jump =
    maybe First (codes "position") (Read Position)
    ∷ maybe Second (codes "connectionPointIn") (Read PointIn)
    ∷ []
children Return =
    maybe First (codes "position") (Read Position)
    ∷ maybe Second (codes "connectionPointIn") (Read PointIn)
    ∷ []
children LeftRail =
    maybe First (codes "position") (Read Position)
    ∷ any (codes "connectionPointOut") (Read PointOut)
    ∷ []
children RightRail =
    maybe First (codes "position") (Read Position)
    ∷ any (codes "connectionPointIn") (Read RailPoint)
    ∷ []
children _ = []

-- an element's number, and the order that it is given
abbrev pub placing : List Field
placing = needed (codes "localId") Whole ∷ optional (codes "executionOrderId") Whole ∷ []

-- the modifiers of elements and pins
abbrev pub modifiers : List Field
modifiers = optional (codes "negated") Boolean ∷ optional (codes "edge") Edge ∷ optional (codes "storage") Storage ∷ []

-- the attributes of an element that are read
abbrev pub attributes : Row → List Field
attributes Project = needed (codes "xmlns") Namespace ∷ []
attributes Program = needed (codes "name") form.Text ∷ needed (codes "pouType") PouType ∷ []
attributes FunctionBlock = needed (codes "name") form.Text ∷ needed (codes "pouType") PouType ∷ []
attributes Function = needed (codes "name") form.Text ∷ needed (codes "pouType") PouType ∷ []
attributes VariableList = optional (codes "constant") Boolean ∷ optional (codes "retain") Boolean ∷ []
attributes OutsideList = optional (codes "constant") Boolean ∷ optional (codes "retain") Boolean ∷ []
attributes Variable = needed (codes "name") form.Text ∷ optional (codes "address") Address ∷ []
attributes Derived = needed (codes "name") form.Text ∷ []
attributes SimpleValue = needed (codes "value") form.Text ∷ []
attributes Comment = needed (codes "localId") Whole ∷ []
attributes Vendor = needed (codes "localId") Whole ∷ []
attributes Block = needed (codes "localId") Whole ∷ needed (codes "typeName") form.Text ∷ optional (codes "instanceName") form.Text ∷ optional (codes "executionOrderId") Whole ∷ []
attributes InputPin = needed (codes "formalParameter") form.Text ∷ modifiers
attributes InOutPin = needed (codes "formalParameter") form.Text ∷ modifiers
attributes OutputPin = needed (codes "formalParameter") form.Text ∷ modifiers
attributes Connection = needed (codes "refLocalId") Whole ∷ optional (codes "formalParameter") form.Text ∷ []
attributes RailConnection = needed (codes "refLocalId") Whole ∷ optional (codes "formalParameter") form.Text ∷ []
attributes InVariable = placing ++ modifiers
attributes OutVariable = placing ++ modifiers
attributes Contact = placing ++ modifiers
attributes Coil = placing ++ modifiers
attributes Connector = placing ++ (needed (codes "name") Nonempty ∷ [])
attributes Continuation = placing ++ (needed (codes "name") Nonempty ∷ [])
attributes Label = placing ++ (needed (codes "label") Nonempty ∷ [])
attributes Jump = placing ++ (needed (codes "label") Nonempty ∷ [])
attributes Return = placing
attributes LeftRail = placing
attributes RightRail = placing
attributes Position = needed (codes "x") Coordinate ∷ needed (codes "y") Coordinate ∷ []
attributes _ = []

-- text alone stands in it
abbrev pub holds_text : Row → Bool
holds_text TextAlone = true
holds_text _ = false
