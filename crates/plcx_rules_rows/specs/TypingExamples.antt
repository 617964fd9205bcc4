-- For each rule from 34 to 36 a project that breaks it beside one that doesn't, and the fine points.
use Rattle.std.specs.Prelude.{◌≡◌, ℕ, Bool, true, false, List, [], ◌∷◌, codes}
use Rattle.plcx_types.specs.declared.ty.Ty.{Ty}
use Rattle.plcx_types.specs.declared.ty.Ty.TheVariants as ty
use Rattle.plcx_model.specs.declared.body.Kind.TheVariants as kind
use Rattle.plcx_model.specs.declared.body.BodyElement.{BodyElement}
use Rattle.plcx_model.specs.declared.body.PinIn.{PinIn}
use Rattle.plcx_model.specs.declared.project.ListClass.TheVariants as class
use Rattle.plcx_model.specs.declared.project.PouKind.TheVariants.{Program}
use Rattle.plcx_model.specs.declared.project.VarTy.TheVariants as var
use Rattle.plcx_model.specs.declared.project.VarList.{VarList}
use Rattle.plcx_model.specs.declared.project.Pou.{Pou}
use Rattle.plcx_model.specs.declared.project.Project.{Project}
use Rattle.plcx_rules.specs.Sources.{sources_in}
use Rattle.plcx_rules.specs.Types.{Sheet, AtPin, HasType}
use Rattle.plcx_rules.specs.Forms.{sheet_of}
use Rattle.plcx_rules.specs.Pieces.{variable, boolean, integer, listed, pou, negated, element, to, reads, writes, contact, coil, pin, output, function}

-- ---- words

-- the variables of Main: A and B of BOOL, N of INT, S of SINT, W of WORD and T of TIME
abbrev pub main_lists : List VarList
main_lists = listed class.Local (boolean (codes "A") ∷ boolean (codes "B") ∷ integer (codes "N") ∷ variable (codes "S") (var.Plain ty.Sint)
    ∷ variable (codes "W") (var.Plain ty.Word) ∷ variable (codes "T") (var.Plain ty.Time) ∷ []) ∷ []

-- the program Main by its body
abbrev pub main : (ladder : Bool) → List BodyElement → Pou
main ladder elements = pou Program (codes "Main") main_lists ladder elements

-- a project whose Main is a function block diagram
abbrev pub functions : List BodyElement → Project
functions elements = record { pous = main false elements ∷ [] }

-- a project whose Main is a ladder diagram
abbrev pub ladder : List BodyElement → Project
ladder elements = record { pous = main true elements ∷ [] }

-- a function with OUT and two inputs
abbrev pub of_two : ℕ → List ℕ → PinIn → PinIn → BodyElement
of_two id name first second = function id name (first ∷ second ∷ []) (output (codes "OUT") ∷ [])

-- an input of this name, from an element
abbrev pub input : List ℕ → ℕ → PinIn
input name from = pin name (to (from ∷ []))

-- an input that is negated
abbrev pub inverted : PinIn → PinIn
inverted p = record p { mods = negated }

-- ADD of two elements
abbrev pub adds : ℕ → ℕ → ℕ → BodyElement
adds id from other = of_two id (codes "ADD") (input (codes "IN1") from) (input (codes "IN2") other)

-- SHL of an element, by as many bits as another says
abbrev pub shifts : ℕ → ℕ → ℕ → BodyElement
shifts id from by = of_two id (codes "SHL") (input (codes "IN") from) (input (codes "N") by)

-- a connector, from an element
abbrev pub connector : ℕ → List ℕ → ℕ → BodyElement
connector id name from = element id (kind.Connector name (to (from ∷ [])))

-- an input pin has a type, and no other
pub record HasOnly (s : Sheet) (i : ℕ) (t : Ty) : Type 0 where
  pub has : HasType s (AtPin i) t
  pub only : (u : Ty) → HasType s (AtPin i) u → u ≡ t

-- ---- no type

-- untyped literals alone give a group no type
abbrev pub literals_alone : Project
literals_alone = functions (reads 1 (codes "1") ∷ adds 2 1 1 ∷ writes 3 (codes "N") (to (2 ∷ [])) ∷ [])

-- a variable beside one does
abbrev pub literal_beside_a_variable : Project
literal_beside_a_variable = functions (reads 1 (codes "1") ∷ reads 2 (codes "N") ∷ adds 3 1 2 ∷ writes 4 (codes "N") (to (3 ∷ [])) ∷ [])

-- a typed literal does too
abbrev pub literal_beside_a_typed_one : Project
literal_beside_a_typed_one = functions (reads 1 (codes "1") ∷ reads 2 (codes "INT#1") ∷ adds 3 1 2 ∷ writes 4 (codes "N") (to (3 ∷ [])) ∷ [])

-- a function that reads what it gives, and nothing else that has a type
abbrev pub its_own_result_alone : Project
its_own_result_alone = functions (reads 1 (codes "1") ∷ adds 2 1 2 ∷ [])

-- one that reads what it gives, beside a variable
abbrev pub its_own_result_and_a_variable : Project
its_own_result_and_a_variable = functions (reads 1 (codes "N") ∷ adds 2 1 2 ∷ [])

-- a connector of an untyped literal
abbrev pub connector_of_a_literal : Project
connector_of_a_literal = functions (reads 1 (codes "1") ∷ connector 2 (codes "W") 1 ∷ [])

-- a type comes by a connector and a continuation, and by a function behind them
abbrev pub connector_of_a_variable : Project
connector_of_a_variable = functions (
    reads 1 (codes "N")
    ∷ connector 2 (codes "W") 1
    ∷ element 3 (kind.Continuation (codes "W"))
    ∷ adds 4 3 3
    ∷ writes 5 (codes "N") (to (4 ∷ []))
    ∷ [])

-- a group without a type is told first, though types disagree before it
abbrev pub no_type_told_first : Project
no_type_told_first = functions (reads 1 (codes "INT#1") ∷ writes 2 (codes "S") (to (1 ∷ [])) ∷ reads 3 (codes "1") ∷ adds 4 3 3 ∷ [])

-- ---- types that disagree

-- a value of another type than the variable that it is stored to
abbrev pub another_type : Project
another_type = functions (reads 1 (codes "INT#1") ∷ writes 2 (codes "S") (to (1 ∷ [])) ∷ [])

-- one of its type
abbrev pub the_same_type : Project
the_same_type = functions (reads 1 (codes "SINT#1") ∷ writes 2 (codes "S") (to (1 ∷ [])) ∷ [])

-- a number at a negated pin
abbrev pub number_at_a_negated_pin : Project
number_at_a_negated_pin = functions (reads 1 (codes "N") ∷ of_two 2 (codes "ADD") (inverted (input (codes "IN1") 1)) (input (codes "IN2") 1) ∷ [])

-- a boolean value there
abbrev pub boolean_at_a_negated_pin : Project
boolean_at_a_negated_pin = functions (reads 1 (codes "A") ∷ of_two 2 (codes "AND") (inverted (input (codes "IN1") 1)) (input (codes "IN2") 1) ∷ [])

-- two types come to a group
abbrev pub two_types_in_a_group : Project
two_types_in_a_group = functions (reads 1 (codes "N") ∷ reads 2 (codes "S") ∷ adds 3 1 2 ∷ writes 4 (codes "N") (to (3 ∷ [])) ∷ [])

-- one comes
abbrev pub one_type_in_a_group : Project
one_type_in_a_group = functions (reads 1 (codes "N") ∷ reads 2 (codes "N") ∷ adds 3 1 2 ∷ writes 4 (codes "N") (to (3 ∷ [])) ∷ [])

-- what the group gives has both types: who takes it disagrees as well, and is told where it stands first
abbrev pub two_types_behind_their_consumer : Project
two_types_behind_their_consumer = functions (writes 4 (codes "N") (to (3 ∷ [])) ∷ reads 1 (codes "N") ∷ reads 2 (codes "S") ∷ adds 3 1 2 ∷ [])

-- a sum of booleans
abbrev pub sum_of_booleans : Project
sum_of_booleans = functions (reads 1 (codes "A") ∷ reads 2 (codes "B") ∷ adds 3 1 2 ∷ [])

-- a sum of times
abbrev pub sum_of_times : Project
sum_of_times = functions (reads 1 (codes "T") ∷ adds 2 1 1 ∷ writes 3 (codes "T") (to (2 ∷ [])) ∷ [])

-- as many bits as a boolean value says
abbrev pub shifted_by_a_boolean : Project
shifted_by_a_boolean = functions (reads 1 (codes "W") ∷ reads 2 (codes "A") ∷ shifts 3 1 2 ∷ [])

-- as a variable of SINT says
abbrev pub shifted_by_a_number : Project
shifted_by_a_number = functions (reads 1 (codes "W") ∷ reads 2 (codes "S") ∷ shifts 3 1 2 ∷ [])

-- an untyped literal as a time
abbrev pub literal_as_a_time : Project
literal_as_a_time = functions (reads 1 (codes "5") ∷ writes 2 (codes "T") (to (1 ∷ [])) ∷ [])

-- a literal of TIME
abbrev pub time_as_a_time : Project
time_as_a_time = functions (reads 1 (codes "T#5s") ∷ writes 2 (codes "T") (to (1 ∷ [])) ∷ [])

-- two numbers at a pin of a ladder
abbrev pub two_numbers_at_a_pin : Project
two_numbers_at_a_pin = ladder (reads 1 (codes "N") ∷ writes 2 (codes "N") (to (1 ∷ 1 ∷ [])) ∷ [])

-- two boolean values
abbrev pub two_booleans_at_a_pin : Project
two_booleans_at_a_pin = ladder (reads 1 (codes "A") ∷ coil 2 (codes "B") (to (1 ∷ 1 ∷ [])) ∷ [])

-- a number that is negated
abbrev pub number_negated : Project
number_negated = functions (element 1 (kind.In (codes "N") negated) ∷ writes 2 (codes "N") (to (1 ∷ [])) ∷ [])

-- a boolean value that is
abbrev pub boolean_negated : Project
boolean_negated = functions (element 1 (kind.In (codes "A") negated) ∷ writes 2 (codes "B") (to (1 ∷ [])) ∷ [])

-- an untyped literal that is negated, as a number
abbrev pub literal_negated : Project
literal_negated = functions (element 1 (kind.In (codes "1") negated) ∷ writes 2 (codes "N") (to (1 ∷ [])) ∷ [])

-- as a boolean value
abbrev pub literal_negated_as_a_boolean : Project
literal_negated_as_a_boolean = functions (element 1 (kind.In (codes "1") negated) ∷ writes 2 (codes "B") (to (1 ∷ [])) ∷ [])

-- a contact of a number
abbrev pub contact_of_a_number : Project
contact_of_a_number = ladder (element 1 kind.LeftRail ∷ contact 2 (codes "N") (to (1 ∷ [])) ∷ [])

-- one of a boolean value
abbrev pub contact_of_a_boolean : Project
contact_of_a_boolean = ladder (element 1 kind.LeftRail ∷ contact 2 (codes "A") (to (1 ∷ [])) ∷ [])

-- ---- untyped literals that are out of range

-- out of the range of the variable that it is stored to
abbrev pub literal_out_of_range : Project
literal_out_of_range = functions (reads 1 (codes "200") ∷ writes 2 (codes "S") (to (1 ∷ [])) ∷ [])

-- within it
abbrev pub literal_in_range : Project
literal_in_range = functions (reads 1 (codes "100") ∷ writes 2 (codes "S") (to (1 ∷ [])) ∷ [])

-- within one of two
abbrev pub literal_in_one_range_of_two : Project
literal_in_one_range_of_two = functions (reads 1 (codes "200") ∷ writes 2 (codes "N") (to (1 ∷ [])) ∷ writes 3 (codes "S") (to (1 ∷ [])) ∷ [])

-- out of the range of a group
abbrev pub literal_out_of_range_of_a_group : Project
literal_out_of_range_of_a_group = functions (reads 1 (codes "N") ∷ reads 2 (codes "40000") ∷ adds 3 1 2 ∷ [])

-- within it
abbrev pub literal_in_range_of_a_group : Project
literal_in_range_of_a_group = functions (reads 1 (codes "N") ∷ reads 2 (codes "30000") ∷ adds 3 1 2 ∷ [])

-- ---- an untyped literal at an input that has a type of its own

-- as many bits as an untyped literal says
abbrev pub shifted_by : List ℕ → List BodyElement
shifted_by literal = reads 1 (codes "W") ∷ reads 2 literal ∷ shifts 3 1 2 ∷ []

abbrev pub shifted_by_a_literal : Project
shifted_by_a_literal = functions (shifted_by (codes "2147483647"))

-- out of the range of DINT
abbrev pub shifted_by_a_large_literal : Project
shifted_by_a_large_literal = functions (shifted_by (codes "2147483648"))

-- what the types of the first go by: pin 0 is IN, and pin 1 is N
abbrev pub shifted_sheet : Sheet
shifted_sheet = let body = shifted_by (codes "2147483647") in sheet_of shifted_by_a_literal.pous (main false body) (sources_in body)
