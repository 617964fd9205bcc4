-- For each rule from 20 to 33 a project that breaks it beside one that doesn't, and the fine points.
use Rattle.std.specs.Prelude.{true, false, List, [], ◌∷◌, ◌++◌, Some, None, codes}
use Rattle.plcx_model.specs.declared.body.Kind.TheVariants as kind
use Rattle.plcx_model.specs.declared.project.PouKind.TheVariants.{Program, FunctionBlock}
use Rattle.plcx_model.specs.declared.project.Pou.{Pou}
use Rattle.plcx_model.specs.declared.source.Source.{Source}
use Rattle.plcx_rules.specs.Sources.{source}
use Rattle.plcx_rules.specs.Pieces.{pou, inc, main_lists, functions, ladder, negated, rising, set, element, to, to_output, reads, writes, contact, pin, output, block, function, timer, call}

-- ---- references and outputs

-- two elements of one localId
abbrev pub one_id_twice : List Pou
one_id_twice = functions (reads 7 (codes "A") ∷ reads 7 (codes "B") ∷ [])

-- localIds are told apart by bodies
abbrev pub one_id_in_two_bodies : List Pou
one_id_in_two_bodies = pou Program (codes "Main") main_lists false (reads 7 (codes "A") ∷ []) ∷ pou FunctionBlock (codes "Inc") inc.lists false (reads 7 (codes "D") ∷ []) ∷ []

-- a comment and a rail have localIds like others
abbrev pub id_of_a_comment : List Pou
id_of_a_comment = ladder (element 1 kind.Skipped ∷ element 1 kind.LeftRail ∷ [])

-- a connection to no element
abbrev pub unknown_reference : List Pou
unknown_reference = functions (reads 1 (codes "A") ∷ writes 2 (codes "B") (to (9 ∷ [])) ∷ [])

-- a connection to an element, of which the variable may be read and written
abbrev pub known_reference : List Pou
known_reference = functions (reads 1 (codes "A") ∷ writes 2 (codes "B") (to (1 ∷ [])) ∷ [])

-- a right rail is a consumer too
abbrev pub unknown_reference_at_a_rail : List Pou
unknown_reference_at_a_rail = ladder (element 1 kind.LeftRail ∷ element 2 (kind.RightRail (to (1 ∷ 9 ∷ []))) ∷ [])

-- a producer of two outputs that is named with none of them
abbrev pub output_of_two : List Pou
output_of_two = functions (
    reads 1 (codes "A")
    ∷ writes 2 (codes "B") (to (3 ∷ []))
    ∷ timer 3 [] (output (codes "Q") ∷ output (codes "ET") ∷ [])
    ∷ [])

-- one that is named with one of them, in any case
abbrev pub output_named : List Pou
output_named = functions (writes 2 (codes "B") (to_output 3 (codes "q")) ∷ timer 3 [] (output (codes "Q") ∷ output (codes "ET") ∷ []) ∷ [])

-- an output that is not listed
abbrev pub output_not_listed : List Pou
output_not_listed = functions (writes 2 (codes "B") (to_output 3 (codes "ET")) ∷ timer 3 [] (output (codes "Q") ∷ []) ∷ [])

-- a connector's output is for continuations alone
abbrev pub output_of_a_connector : List Pou
output_of_a_connector = functions (reads 1 (codes "A") ∷ element 2 (kind.Connector (codes "W") (to (1 ∷ []))) ∷ writes 3 (codes "B") (to (2 ∷ [])) ∷ [])

-- a continuation of it
abbrev pub output_of_a_continuation : List Pou
output_of_a_continuation = functions (
    reads 1 (codes "A")
    ∷ element 2 (kind.Connector (codes "W") (to (1 ∷ [])))
    ∷ element 4 (kind.Continuation (codes "w"))
    ∷ writes 3 (codes "B") (to (4 ∷ []))
    ∷ [])

-- a function's one result under another name, named as OUT
abbrev pub result_of_another_name : List Pou
result_of_another_name = functions (
    reads 1 (codes "N")
    ∷ function 2 (codes "ADD") (pin (codes "IN1") (to (1 ∷ [])) ∷ pin (codes "IN2") (to (1 ∷ [])) ∷ []) (output (codes "Out1") ∷ output (codes "ENO") ∷ [])
    ∷ writes 3 (codes "N") (to_output 2 (codes "OUT"))
    ∷ [])

-- one without a name, beside ENO
abbrev pub result_of_no_name : List Pou
result_of_no_name = functions (
    reads 1 (codes "N")
    ∷ function 2 (codes "ADD") (pin (codes "IN1") (to (1 ∷ [])) ∷ pin (codes "IN2") (to (1 ∷ [])) ∷ []) (output (codes "ENO") ∷ output [] ∷ [])
    ∷ writes 3 (codes "N") (to_output 2 (codes "out"))
    ∷ [])

-- ENO is an output like others where a name is wanted
abbrev pub result_and_eno : List Pou
result_and_eno = functions (
    reads 1 (codes "N")
    ∷ function 2 (codes "ADD") (pin (codes "IN1") (to (1 ∷ [])) ∷ pin (codes "IN2") (to (1 ∷ [])) ∷ []) (output (codes "OUT") ∷ output (codes "ENO") ∷ [])
    ∷ writes 3 (codes "N") (to (2 ∷ []))
    ∷ [])

-- an unknown block has the outputs that it lists
abbrev pub output_of_an_unknown_block : List Pou
output_of_an_unknown_block = functions (block 3 (codes "Foo") None [] [] (output (codes "X") ∷ []) ∷ writes 2 (codes "B") (to_output 3 (codes "X")) ∷ [])

-- and none of another name
abbrev pub unknown_output_of_an_unknown_block : List Pou
unknown_output_of_an_unknown_block = functions (block 3 (codes "Foo") None [] [] (output (codes "X") ∷ []) ∷ writes 2 (codes "B") (to_output 3 (codes "OUT")) ∷ [])

-- an in-out gives no output
abbrev pub in_out_as_output : List Pou
in_out_as_output = functions (reads 1 (codes "N") ∷ call 2 (to (1 ∷ [])) ∷ writes 3 (codes "N") (to_output 2 (codes "V")) ∷ [])

-- ---- connections at pins

-- two connections at a pin of a function block diagram
abbrev pub two_sources : List Pou
two_sources = functions (reads 1 (codes "A") ∷ reads 3 (codes "B") ∷ writes 2 (codes "B") (to (1 ∷ 3 ∷ [])) ∷ [])

-- and of a ladder diagram
abbrev pub two_sources_in_a_ladder : List Pou
two_sources_in_a_ladder = ladder (reads 1 (codes "A") ∷ reads 3 (codes "B") ∷ writes 2 (codes "B") (to (1 ∷ 3 ∷ [])) ∷ [])

-- a target without a source
abbrev pub no_source : List Pou
no_source = functions (writes 2 (codes "B") [] ∷ [])

-- a right rail, an EN and an input of a standard block may be without one
abbrev pub rail_without_source : List Pou
rail_without_source = ladder (element 2 (kind.RightRail []) ∷ timer 3 (pin (codes "EN") [] ∷ pin (codes "IN") [] ∷ []) [] ∷ [])

-- an input of a function that is unconnected, also an unknown one
abbrev pub input_of_a_function : List Pou
input_of_a_function = functions (reads 1 (codes "N") ∷ function 2 (codes "ADD") (pin (codes "IN1") (to (1 ∷ [])) ∷ pin (codes "IN9") [] ∷ []) [] ∷ [])

-- its EN may be unconnected
abbrev pub enable_of_a_function : List Pou
enable_of_a_function = functions (reads 1 (codes "N") ∷ function 2 (codes "ABS") (pin (codes "EN") [] ∷ pin (codes "IN") (to (1 ∷ [])) ∷ []) [] ∷ [])

-- an in-out has one source, in a ladder too
abbrev pub in_out_of_two : List Pou
in_out_of_two = ladder (reads 1 (codes "N") ∷ reads 3 (codes "N") ∷ call 2 (to (1 ∷ 3 ∷ [])) ∷ [])

-- and has it here
abbrev pub in_out_of_one : List Pou
in_out_of_one = ladder (reads 1 (codes "N") ∷ call 2 (to (1 ∷ [])) ∷ [])

-- an unconnected in-out is told before it is an unknown one
abbrev pub in_out_of_a_timer : List Pou
in_out_of_a_timer = ladder (block 2 (codes "TON") (Some (codes "T1")) [] (pin (codes "IN") [] ∷ []) [] ∷ [])

-- ---- blocks and instances

-- a block of no known type
abbrev pub unknown_block : List Pou
unknown_block = functions (block 3 (codes "Foo") (Some (codes "T1")) [] [] [] ∷ [])

-- a standard block, in any case
abbrev pub known_block : List Pou
known_block = functions (block 3 (codes "ton") (Some (codes "t1")) [] [] [] ∷ [])

-- a program is no block
abbrev pub program_as_a_block : List Pou
program_as_a_block = functions (block 3 (codes "Main") (Some (codes "T1")) [] [] [] ∷ [])

-- there is no conversion from a type to itself
abbrev pub conversion_to_itself : List Pou
conversion_to_itself = functions (block 3 (codes "INT_TO_INT") None [] [] [] ∷ [])

-- an instance of another type
abbrev pub instance_of_another_type : List Pou
instance_of_another_type = functions (block 3 (codes "TON") (Some (codes "K")) [] [] [] ∷ [])

-- an instance is missing
abbrev pub no_instance : List Pou
no_instance = functions (block 3 (codes "TON") None [] [] [] ∷ [])

-- a function has none
abbrev pub instance_of_a_function : List Pou
instance_of_a_function = functions (reads 1 (codes "N") ∷ block 3 (codes "ABS") (Some (codes "T1")) (pin (codes "IN") (to (1 ∷ [])) ∷ []) [] [] ∷ [])

-- and none here
abbrev pub no_instance_of_a_function : List Pou
no_instance_of_a_function = functions (reads 1 (codes "N") ∷ function 3 (codes "ABS") (pin (codes "IN") (to (1 ∷ [])) ∷ []) [] ∷ [])

-- ---- formal parameters

-- a gap in the inputs
abbrev pub gap_in_the_inputs : List Pou
gap_in_the_inputs = functions (
    reads 1 (codes "N")
    ∷ function 2 (codes "ADD") (pin (codes "IN1") (to (1 ∷ [])) ∷ pin (codes "IN3") (to (1 ∷ [])) ∷ []) []
    ∷ [])

-- inputs in any order and case
abbrev pub no_gap_in_the_inputs : List Pou
no_gap_in_the_inputs = functions (
    reads 1 (codes "N")
    ∷ function 2 (codes "add") (pin (codes "in2") (to (1 ∷ [])) ∷ pin (codes "IN3") (to (1 ∷ [])) ∷ pin (codes "IN1") (to (1 ∷ [])) ∷ []) []
    ∷ [])

-- an extensible function has two inputs
abbrev pub one_input_of_two : List Pou
one_input_of_two = functions (reads 1 (codes "N") ∷ function 2 (codes "ADD") (pin (codes "IN1") (to (1 ∷ [])) ∷ []) [] ∷ [])

-- a number of an input has no leading zero
abbrev pub leading_zero : List Pou
leading_zero = functions (
    reads 1 (codes "N")
    ∷ function 2 (codes "ADD") (pin (codes "IN1") (to (1 ∷ [])) ∷ pin (codes "IN02") (to (1 ∷ [])) ∷ []) []
    ∷ [])

-- a multiplexer has a selector
abbrev pub selector_missing : List Pou
selector_missing = functions (
    reads 1 (codes "N")
    ∷ function 2 (codes "MUX") (pin (codes "IN0") (to (1 ∷ [])) ∷ pin (codes "IN1") (to (1 ∷ [])) ∷ pin (codes "IN2") (to (1 ∷ [])) ∷ []) []
    ∷ [])

-- and two others
abbrev pub selector_given : List Pou
selector_given = functions (
    reads 1 (codes "N")
    ∷ function 2 (codes "MUX") (pin (codes "IN1") (to (1 ∷ [])) ∷ pin (codes "K") (to (1 ∷ [])) ∷ pin (codes "IN0") (to (1 ∷ [])) ∷ []) []
    ∷ [])

-- two connected ENs
abbrev pub two_enables : List Pou
two_enables = functions (reads 1 (codes "A") ∷ timer 2 (pin (codes "EN") (to (1 ∷ [])) ∷ pin (codes "EN") (to (1 ∷ [])) ∷ []) [] ∷ [])

-- an unconnected EN counts as absent
abbrev pub two_enables_of_which_one_counts : List Pou
two_enables_of_which_one_counts = functions (
    reads 1 (codes "A")
    ∷ timer 2 (pin (codes "EN") [] ∷ pin (codes "en") (to (1 ∷ [])) ∷ pin (codes "EN") [] ∷ []) []
    ∷ [])

-- EN is no output
abbrev pub enable_as_output : List Pou
enable_as_output = functions (timer 2 [] (output (codes "EN") ∷ []) ∷ [])

-- ENO is one
abbrev pub enable_output : List Pou
enable_output = functions (timer 2 [] (output (codes "ENO") ∷ output (codes "q") ∷ []) ∷ [])

-- what a block keeps inside is no pin
abbrev pub hidden_leaf : List Pou
hidden_leaf = functions (reads 1 (codes "A") ∷ timer 2 (pin (codes "RUN") (to (1 ∷ [])) ∷ []) [] ∷ [])

-- a function has one result
abbrev pub second_result : List Pou
second_result = functions (
    reads 1 (codes "N")
    ∷ function 2 (codes "ABS") (pin (codes "IN") (to (1 ∷ [])) ∷ []) (output (codes "OUT") ∷ output (codes "X") ∷ [])
    ∷ [])

-- a second one without a name is doubled
abbrev pub two_results_of_no_name : List Pou
two_results_of_no_name = functions (
    reads 1 (codes "N")
    ∷ function 2 (codes "ABS") (pin (codes "IN") (to (1 ∷ [])) ∷ []) (output [] ∷ output [] ∷ [])
    ∷ [])

-- one result of any name, and ENO
abbrev pub result_listed : List Pou
result_listed = functions (
    reads 1 (codes "N")
    ∷ function 2 (codes "ABS") (pin (codes "IN") (to (1 ∷ [])) ∷ []) (output (codes "X") ∷ output (codes "eno") ∷ [])
    ∷ [])

-- an in-out is missing
abbrev pub in_out_missing : List Pou
in_out_missing = functions (block 2 (codes "Inc") (Some (codes "K")) [] [] [] ∷ [])

-- an in-out is doubled
abbrev pub in_out_twice : List Pou
in_out_twice = functions (
    reads 1 (codes "N")
    ∷ block 2 (codes "Inc") (Some (codes "K")) [] (pin (codes "V") (to (1 ∷ [])) ∷ pin (codes "v") (to (1 ∷ [])) ∷ []) []
    ∷ [])

-- an in-out is no input
abbrev pub in_out_as_input : List Pou
in_out_as_input = functions (
    reads 1 (codes "N")
    ∷ block 2 (codes "Inc") (Some (codes "K")) (pin (codes "V") (to (1 ∷ [])) ∷ []) (pin (codes "V") (to (1 ∷ [])) ∷ []) []
    ∷ [])

-- a local variable is no pin
abbrev pub local_as_a_pin : List Pou
local_as_a_pin = functions (
    reads 1 (codes "N")
    ∷ block 2 (codes "Inc") (Some (codes "K")) (pin (codes "L") (to (1 ∷ [])) ∷ []) (pin (codes "V") (to (1 ∷ [])) ∷ []) []
    ∷ [])

-- pins in any case
abbrev pub pins_of_a_block : List Pou
pins_of_a_block = functions (
    reads 1 (codes "N")
    ∷ block 2 (codes "Inc") (Some (codes "K")) (pin (codes "d") (to (1 ∷ [])) ∷ []) (pin (codes "V") (to (1 ∷ [])) ∷ []) (output (codes "q") ∷ [])
    ∷ [])

-- ---- expressions and targets

-- an output of an instance, in any case, with white space around it
abbrev pub output_of_an_instance : List Pou
output_of_an_instance = functions (reads 1 (codes " t1.q ") ∷ [])

-- an input of an instance
abbrev pub input_of_an_instance : List Pou
input_of_an_instance = functions (reads 1 (codes "T1.IN") ∷ [])

-- ENO is none of its outputs
abbrev pub enable_output_of_an_instance : List Pou
enable_output_of_an_instance = functions (reads 1 (codes "T1.ENO") ∷ [])

-- an instance is no value
abbrev pub instance_as_a_value : List Pou
instance_as_a_value = functions (reads 1 (codes "T1") ∷ [])

-- an unknown variable
abbrev pub unknown_variable : List Pou
unknown_variable = functions (reads 1 (codes "Z") ∷ [])

-- a literal
abbrev pub literal_of_a_type : List Pou
literal_of_a_type = functions (reads 1 (codes "SINT#100") ∷ [])

-- a typed literal outside its type is none
abbrev pub literal_outside_its_type : List Pou
literal_outside_its_type = functions (reads 1 (codes "SINT#200") ∷ [])

-- a member has no white space in it
abbrev pub spaces_in_a_member : List Pou
spaces_in_a_member = functions (reads 1 (codes "T1 .Q") ∷ [])

-- a contact holds no literal
abbrev pub literal_at_a_contact : List Pou
literal_at_a_contact = ladder (element 1 kind.LeftRail ∷ contact 2 (codes "TRUE") (to (1 ∷ [])) ∷ [])

-- it may hold an output of an instance
abbrev pub output_at_a_contact : List Pou
output_at_a_contact = ladder (element 1 kind.LeftRail ∷ contact 2 (codes "T1.Q") (to (1 ∷ [])) ∷ [])

-- an output of an unknown instance at a target
abbrev pub output_of_no_instance : List Pou
output_of_no_instance = functions (reads 1 (codes "A") ∷ writes 2 (codes "T2.Q") (to (1 ∷ [])) ∷ [])

-- one of a known instance
abbrev pub output_as_a_target : List Pou
output_as_a_target = functions (reads 1 (codes "A") ∷ writes 2 (codes "T1.Q") (to (1 ∷ [])) ∷ [])

-- what is no literal at a target
abbrev pub bad_literal_as_a_target : List Pou
bad_literal_as_a_target = functions (reads 1 (codes "A") ∷ writes 2 (codes "SINT#200") (to (1 ∷ [])) ∷ [])

-- a literal there
abbrev pub literal_as_a_target : List Pou
literal_as_a_target = functions (reads 1 (codes "A") ∷ writes 2 (codes "SINT#100") (to (1 ∷ [])) ∷ [])

-- an input
abbrev pub input_as_a_target : List Pou
input_as_a_target = functions (reads 1 (codes "A") ∷ writes 2 (codes "I") (to (1 ∷ [])) ∷ [])

-- a constant
abbrev pub constant_as_a_target : List Pou
constant_as_a_target = functions (reads 1 (codes "A") ∷ writes 2 (codes "C") (to (1 ∷ [])) ∷ [])

-- an instance
abbrev pub instance_as_a_target : List Pou
instance_as_a_target = functions (reads 1 (codes "A") ∷ writes 2 (codes "T1") (to (1 ∷ [])) ∷ [])

-- an output of the program can be written
abbrev pub output_variable_as_a_target : List Pou
output_variable_as_a_target = functions (reads 1 (codes "A") ∷ writes 2 (codes "O") (to (1 ∷ [])) ∷ [])

-- and an in-out too
abbrev pub in_out_as_a_target : List Pou
in_out_as_a_target = functions [] ++ pou FunctionBlock (codes "Two") inc.lists false (reads 1 (codes "D") ∷ writes 2 (codes "V") (to (1 ∷ [])) ∷ []) ∷ []

-- the source of an in-out holds a variable
abbrev pub in_out_of_a_literal : List Pou
in_out_of_a_literal = functions (reads 1 (codes "INT#1") ∷ call 2 (to (1 ∷ [])) ∷ [])

-- which can be written
abbrev pub in_out_of_a_constant : List Pou
in_out_of_a_constant = functions (reads 1 (codes "C") ∷ call 2 (to (1 ∷ [])) ∷ [])

-- and is an inVariable
abbrev pub in_out_of_a_function : List Pou
in_out_of_a_function = functions (
    reads 1 (codes "N")
    ∷ call 2 (to (3 ∷ []))
    ∷ function 3 (codes "ABS") (pin (codes "IN") (to (1 ∷ [])) ∷ []) (output [] ∷ [])
    ∷ [])

-- ---- connectors and labels

-- a connector is doubled, whatever the case
abbrev pub connector_twice : List Pou
connector_twice = functions (
    reads 1 (codes "A")
    ∷ element 2 (kind.Connector (codes "W") (to (1 ∷ [])))
    ∷ element 3 (kind.Connector (codes "w") (to (1 ∷ [])))
    ∷ [])

-- names are not trimmed
abbrev pub connectors_of_two_names : List Pou
connectors_of_two_names = functions (
    reads 1 (codes "A")
    ∷ element 2 (kind.Connector (codes "W") (to (1 ∷ [])))
    ∷ element 3 (kind.Connector (codes "w ") (to (1 ∷ [])))
    ∷ [])

-- a continuation has no connector
abbrev pub continuation_of_nothing : List Pou
continuation_of_nothing = functions (element 2 (kind.Continuation (codes "W")) ∷ [])

-- the connector may stand behind
abbrev pub continuation_before_its_connector : List Pou
continuation_before_its_connector = functions (
    element 2 (kind.Continuation (codes "W"))
    ∷ reads 1 (codes "A")
    ∷ element 3 (kind.Connector (codes "W") (to (1 ∷ [])))
    ∷ [])

-- a label is doubled
abbrev pub label_twice : List Pou
label_twice = functions (reads 1 (codes "A") ∷ element 2 (kind.Label (codes "W")) ∷ element 3 (kind.Label (codes "w")) ∷ [])

-- labels and connectors are told apart
abbrev pub label_and_connector : List Pou
label_and_connector = functions (reads 1 (codes "A") ∷ element 2 (kind.Label (codes "W")) ∷ element 3 (kind.Connector (codes "W") (to (1 ∷ []))) ∷ [])

-- a jump has no label
abbrev pub jump_to_nothing : List Pou
jump_to_nothing = functions (reads 1 (codes "A") ∷ element 2 (kind.Jump (codes "W") (to (1 ∷ []))) ∷ [])

-- its label may stand behind
abbrev pub jump_to_a_label : List Pou
jump_to_a_label = functions (reads 1 (codes "A") ∷ element 2 (kind.Jump (codes "w") (to (1 ∷ []))) ∷ element 3 (kind.Label (codes "W")) ∷ [])

-- ---- modifiers, and elements of ladders

-- a contact is negated or has an edge
abbrev pub contact_negated_at_an_edge : List Pou
contact_negated_at_an_edge = ladder (element 1 kind.LeftRail ∷ element 2 (kind.Contact (to (1 ∷ [])) (codes "A") (record rising { negated = true })) ∷ [])

-- one of them
abbrev pub contact_at_an_edge : List Pou
contact_at_an_edge = ladder (element 1 kind.LeftRail ∷ element 2 (kind.Contact (to (1 ∷ [])) (codes "A") rising) ∷ [])

-- it stores nothing
abbrev pub contact_that_stores : List Pou
contact_that_stores = ladder (element 1 kind.LeftRail ∷ element 2 (kind.Contact (to (1 ∷ [])) (codes "A") set) ∷ [])

-- a coil has one modifier
abbrev pub coil_negated_and_set : List Pou
coil_negated_and_set = ladder (element 1 kind.LeftRail ∷ element 2 (kind.Coil (to (1 ∷ [])) (codes "A") (record set { negated = true })) ∷ [])

-- one of them
abbrev pub coil_at_an_edge : List Pou
coil_at_an_edge = ladder (element 1 kind.LeftRail ∷ element 2 (kind.Coil (to (1 ∷ [])) (codes "A") rising) ∷ [])

-- an outVariable has no edge
abbrev pub target_at_an_edge : List Pou
target_at_an_edge = functions (reads 1 (codes "A") ∷ element 2 (kind.Out (to (1 ∷ [])) (codes "B") rising) ∷ [])

-- it may set
abbrev pub target_that_sets : List Pou
target_that_sets = functions (reads 1 (codes "A") ∷ element 2 (kind.Out (to (1 ∷ [])) (codes "B") set) ∷ [])

-- an inVariable has no edge
abbrev pub value_at_an_edge : List Pou
value_at_an_edge = functions (element 1 (kind.In (codes "A") rising) ∷ [])

-- it may be negated
abbrev pub value_negated : List Pou
value_negated = functions (element 1 (kind.In (codes "A") negated) ∷ [])

-- a pin stores nothing
abbrev pub pin_that_stores : List Pou
pin_that_stores = functions (timer 2 [] (record { formal = codes "Q"; mods = set } ∷ []) ∷ [])

-- an unconnected EN counts as absent
abbrev pub absent_enable_that_stores : List Pou
absent_enable_that_stores = functions (timer 2 (record { formal = codes "EN"; mods = set; input = [] } ∷ []) [] ∷ [])

-- an in-out has no modifiers
abbrev pub in_out_negated : List Pou
in_out_negated = functions (
    reads 1 (codes "N")
    ∷ block 2 (codes "Inc") (Some (codes "K")) [] (record { formal = codes "V"; mods = negated; input = to (1 ∷ []) } ∷ []) []
    ∷ [])

-- nor has its source, and the block is named
abbrev pub in_out_of_a_negated_value : List Pou
in_out_of_a_negated_value = functions (element 1 (kind.In (codes "N") negated) ∷ call 2 (to (1 ∷ [])) ∷ [])

-- an inVariable that is wrong by itself is named before
abbrev pub in_out_of_a_value_at_an_edge : List Pou
in_out_of_a_value_at_an_edge = functions (element 1 (kind.In (codes "N") rising) ∷ call 2 (to (1 ∷ [])) ∷ [])

-- or behind, as they stand
abbrev pub in_out_before_a_value_at_an_edge : List Pou
in_out_before_a_value_at_an_edge = functions (call 2 (to (1 ∷ [])) ∷ element 1 (kind.In (codes "N") rising) ∷ [])

-- a contact in a function block diagram
abbrev pub contact_in_a_function_diagram : List Pou
contact_in_a_function_diagram = functions (reads 1 (codes "A") ∷ contact 2 (codes "B") (to (1 ∷ [])) ∷ [])

-- and in a ladder diagram
abbrev pub contact_in_a_ladder : List Pou
contact_in_a_ladder = ladder (reads 1 (codes "A") ∷ contact 2 (codes "B") (to (1 ∷ [])) ∷ [])

-- a right rail with two connections breaks the earlier rule
abbrev pub rails_before_modifiers : List Pou
rails_before_modifiers = functions (reads 1 (codes "A") ∷ element 2 (kind.RightRail (to (1 ∷ 1 ∷ []))) ∷ [])

-- the rule that is tested first is told, though another is broken before it
abbrev pub later_pou_first : List Pou
later_pou_first = functions (writes 2 (codes "B") (to (9 ∷ [])) ∷ []) ++ pou Program (codes "Next") main_lists false (reads 7 (codes "A") ∷ reads 7 (codes "A") ∷ []) ∷ []

-- ---- sources

-- a ladder with an unconnected EN, an in-out behind an input, a continuation, two sources at a pin, and a named output
abbrev pub wired : List Pou
wired = ladder (
    reads 1 (codes "A")
    ∷ element 2 (kind.Connector (codes "W") (to (1 ∷ [])))
    ∷ element 3 (kind.Continuation (codes "w"))
    ∷ block 4 (codes "Inc") (Some (codes "K")) (pin (codes "EN") [] ∷ pin (codes "D") (to (5 ∷ [])) ∷ []) (pin (codes "V") (to (5 ∷ [])) ∷ []) []
    ∷ reads 5 (codes "N")
    ∷ timer 6 (pin (codes "IN") (to (1 ∷ 3 ∷ [])) ∷ []) (output (codes "Q") ∷ output (codes "ET") ∷ [])
    ∷ writes 7 (codes "B") (to_output 6 (codes "et"))
    ∷ [])

-- the sources of each input pin: of the connector, the continuation, EN, D, V, IN and the outVariable
abbrev pub wired_sources : List (List (List Source))
wired_sources = (
    (source 0 0 ∷ []) ∷ (source 1 0 ∷ []) ∷ [] ∷ (source 4 0 ∷ []) ∷ (source 4 0 ∷ []) ∷ (source 0 0 ∷ source 2 0 ∷ []) ∷ (source 5 1 ∷ []) ∷ [])
    ∷ [] ∷ []

-- connections to nothing have no source, and a continuation without its connector has none either
abbrev pub loose : List Pou
loose = functions (element 1 (kind.Continuation (codes "W")) ∷ writes 2 (codes "B") (to (9 ∷ 2 ∷ 1 ∷ [])) ∷ [])

-- the continuation alone is one
abbrev pub loose_sources : List (List (List Source))
loose_sources = ([] ∷ (source 0 0 ∷ []) ∷ []) ∷ [] ∷ []
