-- Texts that break conditions, and the fine points of them. Above each stands the text; its first byte has the place 0.
use Rattle.std.specs.Prelude.{pos, List, [], ◌∷◌, codes}
use Rattle.plcx_types.specs.declared.ty.Ty.TheVariants as ty
use Rattle.plcx_meaning.specs.Tree.{Program, FunctionBlock, Local, Input, InOut, Temp, Plain, Constant, Retain, Plus, Times}
use Rattle.plcx_conditions.specs.Placed.{Number, Name, Member, Apply, Not, Binary, expressions, Assign, Call, If, Case, statements, arms, Pou}
use Rattle.plcx_conditions.specs.Pieces.{word, literal, argument, labelled, of_type, with_initial, block, pou}

-- A doubled POU name stands for its first declaration, here a program, which is no type.
--     PROGRAM F END_PROGRAM FUNCTION_BLOCK f END_FUNCTION_BLOCK PROGRAM M VAR K : F; END_VAR END_PROGRAM
abbrev pub doubled_block : List Pou
doubled_block =
    pou Program (word (codes "F") 8) [] []
    ∷ pou FunctionBlock (word (codes "f") 37) [] []
    ∷ pou Program (word (codes "M") 66) (block Local Plain (of_type (word (codes "K") 72) (word (codes "F") 76) ∷ []) ∷ []) []
    ∷ []

-- The name of a standard block stands for that block, also where a POU bears it.
--     FUNCTION_BLOCK TON END_FUNCTION_BLOCK PROGRAM M VAR T : TON; END_VAR T(IN := TRUE); END_PROGRAM
abbrev pub name_of_a_timer : List Pou
name_of_a_timer =
    pou FunctionBlock (word (codes "TON") 15) [] []
    ∷ pou Program (word (codes "M") 46) (block Local Plain (of_type (word (codes "T") 52) (word (codes "TON") 56) ∷ []) ∷ [])
    (Call (word (codes "T") 69) (argument (word (codes "IN") 71) (Number (literal ty.Bool (pos 1) 77)) ∷ []) ∷ [])
    ∷ []

-- A program is no type.
--     PROGRAM M VAR K : M; END_VAR END_PROGRAM
abbrev pub program_as_a_type : List Pou
program_as_a_type =
    pou Program (word (codes "M") 8) (block Local Plain (of_type (word (codes "K") 14) (word (codes "M") 18) ∷ []) ∷ []) []
    ∷ []

-- A doubled variable stands for its first declaration, of BOOL, and the second is to blame.
--     PROGRAM M VAR A : BOOL; a : INT; END_VAR A := TRUE; END_PROGRAM
abbrev pub doubled_variable : List Pou
doubled_variable =
    pou Program (word (codes "M") 8) (block Local Plain (of_type (word (codes "A") 14) (word (codes "BOOL") 18)
    ∷ of_type (word (codes "a") 24) (word (codes "INT") 28) ∷ []) ∷ []) (Assign (word (codes "A") 41) (Number (literal ty.Bool (pos 1) 46))
    ∷ [])
    ∷ []

-- An instance is no value.
--     PROGRAM M VAR T : TON; X : BOOL; END_VAR X := T; END_PROGRAM
abbrev pub instance_as_a_value : List Pou
instance_as_a_value =
    pou Program (word (codes "M") 8) (block Local Plain (of_type (word (codes "T") 14) (word (codes "TON") 18)
    ∷ of_type (word (codes "X") 23) (word (codes "BOOL") 27) ∷ []) ∷ []) (Assign (word (codes "X") 41) (Name (word (codes "T") 46)) ∷ [])
    ∷ []

-- A variable of an elementary type is neither called nor has members.
--     PROGRAM M VAR X : BOOL; END_VAR X := X.Q; X(); END_PROGRAM
abbrev pub no_instance : List Pou
no_instance =
    pou Program (word (codes "M") 8) (block Local Plain (of_type (word (codes "X") 14) (word (codes "BOOL") 18) ∷ []) ∷ [])
    (Assign (word (codes "X") 32) (Member (word (codes "X") 37) (word (codes "Q") 39)) ∷ Call (word (codes "X") 42) [] ∷ [])
    ∷ []

-- Only outputs of an instance can be read.
--     PROGRAM M VAR T : TON; X : BOOL; END_VAR X := T.IN; X := T.RUN; END_PROGRAM
abbrev pub input_as_a_member : List Pou
input_as_a_member =
    pou Program (word (codes "M") 8) (block Local Plain (of_type (word (codes "T") 14) (word (codes "TON") 18)
    ∷ of_type (word (codes "X") 23) (word (codes "BOOL") 27) ∷ []) ∷ [])
    (Assign (word (codes "X") 41) (Member (word (codes "T") 46) (word (codes "IN") 48))
    ∷ Assign (word (codes "X") 52) (Member (word (codes "T") 57) (word (codes "RUN") 59)) ∷ [])
    ∷ []

-- Of a variable of an unknown type nothing more is said.
--     PROGRAM M VAR K : Q; X : INT; END_VAR K(V := X, W := X); X := K.V; X := K + X; END_PROGRAM
abbrev pub unknown_type : List Pou
unknown_type =
    pou Program (word (codes "M") 8) (block Local Plain (of_type (word (codes "K") 14) (word (codes "Q") 18)
    ∷ of_type (word (codes "X") 21) (word (codes "INT") 25) ∷ []) ∷ []) (Call (word (codes "K") 38)
    (argument (word (codes "V") 40) (Name (word (codes "X") 45)) ∷ argument (word (codes "W") 48) (Name (word (codes "X") 53)) ∷ [])
    ∷ Assign (word (codes "X") 57) (Member (word (codes "K") 62) (word (codes "V") 64))
    ∷ Assign (word (codes "X") 67) (Binary Plus (Name (word (codes "K") 72)) (Name (word (codes "X") 76))) ∷ [])
    ∷ []

-- Types of arguments are tested where all are known, their number always.
--     PROGRAM M VAR X : INT; END_VAR X := MAX(X, Y, TRUE); X := ABS(Y, X); END_PROGRAM
abbrev pub unknown_argument : List Pou
unknown_argument =
    pou Program (word (codes "M") 8) (block Local Plain (of_type (word (codes "X") 14) (word (codes "INT") 18) ∷ []) ∷ [])
    (Assign (word (codes "X") 31) (Apply (word (codes "MAX") 36) (expressions (Name (word (codes "X") 40) ∷ Name (word (codes "Y") 43)
    ∷ Number (literal ty.Bool (pos 1) 46) ∷ [])))
    ∷ Assign (word (codes "X") 53) (Apply (word (codes "ABS") 58) (expressions (Name (word (codes "Y") 62) ∷ Name (word (codes "X") 65) ∷ [])))
    ∷ [])
    ∷ []

-- A function that is written by an operator is unknown as a call.
--     PROGRAM M VAR X : INT; END_VAR X := ADD(X, TRUE); END_PROGRAM
abbrev pub operator_by_name : List Pou
operator_by_name =
    pou Program (word (codes "M") 8) (block Local Plain (of_type (word (codes "X") 14) (word (codes "INT") 18) ∷ []) ∷ [])
    (Assign (word (codes "X") 31) (Apply (word (codes "ADD") 36) (expressions (Name (word (codes "X") 40) ∷ Number (literal ty.Bool (pos 1) 43)
    ∷ []))) ∷ [])
    ∷ []

-- The place of an expression is its first token that is no bracket.
--     PROGRAM M VAR X : INT; Y : DINT; END_VAR X := (((X) + Y)) * X; IF NOT (X) THEN END_IF; END_PROGRAM
abbrev pub brackets : List Pou
brackets =
    pou Program (word (codes "M") 8) (block Local Plain (of_type (word (codes "X") 14) (word (codes "INT") 18)
    ∷ of_type (word (codes "Y") 23) (word (codes "DINT") 27) ∷ []) ∷ [])
    (Assign (word (codes "X") 41) (Binary Times (Binary Plus (Name (word (codes "X") 49)) (Name (word (codes "Y") 54))) (Name (word (codes "X") 60)))
    ∷ If (Not 66 (Name (word (codes "X") 71))) (statements []) ∷ [])
    ∷ []

-- An expression that breaks a condition has no type, so that nothing is said of what it goes to.
--     PROGRAM M VAR X : INT; B : BOOL; END_VAR B := X + TRUE; END_PROGRAM
abbrev pub type_is_told_once : List Pou
type_is_told_once =
    pou Program (word (codes "M") 8) (block Local Plain (of_type (word (codes "X") 14) (word (codes "INT") 18)
    ∷ of_type (word (codes "B") 23) (word (codes "BOOL") 27) ∷ []) ∷ [])
    (Assign (word (codes "B") 41) (Binary Plus (Name (word (codes "X") 46)) (Number (literal ty.Bool (pos 1) 50))) ∷ [])
    ∷ []

-- A formal is named twice, also where the instance is unknown.
--     PROGRAM M VAR X : BOOL; T : TON; END_VAR T(IN := X, in := X); U(IN := X, IN := X); END_PROGRAM
abbrev pub formal_twice : List Pou
formal_twice =
    pou Program (word (codes "M") 8) (block Local Plain (of_type (word (codes "X") 14) (word (codes "BOOL") 18)
    ∷ of_type (word (codes "T") 24) (word (codes "TON") 28) ∷ []) ∷ []) (Call (word (codes "T") 41)
    (argument (word (codes "IN") 43) (Name (word (codes "X") 49)) ∷ argument (word (codes "in") 52) (Name (word (codes "X") 58)) ∷ [])
    ∷ Call (word (codes "U") 62) (argument (word (codes "IN") 64) (Name (word (codes "X") 70))
    ∷ argument (word (codes "IN") 73) (Name (word (codes "X") 79)) ∷ []) ∷ [])
    ∷ []

-- A formal that is an output, or hidden, or not there.
--     PROGRAM M VAR X : BOOL; T : TON; END_VAR T(Q := X, RUN := X, X := X); END_PROGRAM
abbrev pub unknown_formal : List Pou
unknown_formal =
    pou Program (word (codes "M") 8) (block Local Plain (of_type (word (codes "X") 14) (word (codes "BOOL") 18)
    ∷ of_type (word (codes "T") 24) (word (codes "TON") 28) ∷ []) ∷ []) (Call (word (codes "T") 41)
    (argument (word (codes "Q") 43) (Name (word (codes "X") 48)) ∷ argument (word (codes "RUN") 51) (Name (word (codes "X") 58))
    ∷ argument (word (codes "X") 61) (Name (word (codes "X") 66)) ∷ []) ∷ [])
    ∷ []

-- An in-out wants the name of a variable of its type that can be stored to and is no temporary.
--     FUNCTION_BLOCK F VAR_IN_OUT V : INT; END_VAR END_FUNCTION_BLOCK PROGRAM M VAR X : INT; D : DINT; K : F; END_VAR VAR_TEMP Y : INT; END_VAR
--     K(V := X); K(V := Y); K(V := X + X); K(V := D); K(V := K); K(); END_PROGRAM
abbrev pub in_outs : List Pou
in_outs =
    pou FunctionBlock (word (codes "F") 15) (block InOut Plain (of_type (word (codes "V") 28) (word (codes "INT") 32) ∷ []) ∷ []) []
    ∷ pou Program (word (codes "M") 72) (block Local Plain (of_type (word (codes "X") 78) (word (codes "INT") 82)
    ∷ of_type (word (codes "D") 87) (word (codes "DINT") 91) ∷ of_type (word (codes "K") 97) (word (codes "F") 101) ∷ [])
    ∷ block Temp Plain (of_type (word (codes "Y") 121) (word (codes "INT") 125) ∷ []) ∷ []) (Call (word (codes "K") 138)
    (argument (word (codes "V") 140) (Name (word (codes "X") 145)) ∷ []) ∷ Call (word (codes "K") 149)
    (argument (word (codes "V") 151) (Name (word (codes "Y") 156)) ∷ []) ∷ Call (word (codes "K") 160)
    (argument (word (codes "V") 162) (Binary Plus (Name (word (codes "X") 167)) (Name (word (codes "X") 171))) ∷ [])
    ∷ Call (word (codes "K") 175) (argument (word (codes "V") 177) (Name (word (codes "D") 182)) ∷ []) ∷ Call (word (codes "K") 186)
    (argument (word (codes "V") 188) (Name (word (codes "K") 193)) ∷ []) ∷ Call (word (codes "K") 197) [] ∷ [])
    ∷ []

-- Two conditions at one place: the name comes first.
--     FUNCTION_BLOCK F VAR_IN_OUT V : INT; END_VAR END_FUNCTION_BLOCK PROGRAM M VAR X : INT; K : F; END_VAR K(V := Y + X); END_PROGRAM
abbrev pub unknown_in_an_in_out : List Pou
unknown_in_an_in_out =
    pou FunctionBlock (word (codes "F") 15) (block InOut Plain (of_type (word (codes "V") 28) (word (codes "INT") 32) ∷ []) ∷ []) []
    ∷ pou Program (word (codes "M") 72) (block Local Plain (of_type (word (codes "X") 78) (word (codes "INT") 82)
    ∷ of_type (word (codes "K") 87) (word (codes "F") 91) ∷ []) ∷ []) (Call (word (codes "K") 102)
    (argument (word (codes "V") 104) (Binary Plus (Name (word (codes "Y") 109)) (Name (word (codes "X") 113))) ∷ []) ∷ [])
    ∷ []

-- A name that is no in-out by its first declaration wants no argument.
--     PROGRAM M VAR K : F; END_VAR K(); END_PROGRAM FUNCTION_BLOCK F VAR V : INT; END_VAR VAR_IN_OUT V : INT; END_VAR END_FUNCTION_BLOCK
abbrev pub doubled_in_out : List Pou
doubled_in_out =
    pou Program (word (codes "M") 8) (block Local Plain (of_type (word (codes "K") 14) (word (codes "F") 18) ∷ []) ∷ []) (Call (word (codes "K") 29) [] ∷ [])
    ∷ pou FunctionBlock (word (codes "F") 61) (block Local Plain (of_type (word (codes "V") 67) (word (codes "INT") 71) ∷ [])
    ∷ block InOut Plain (of_type (word (codes "V") 95) (word (codes "INT") 99) ∷ []) ∷ []) []
    ∷ []

-- A formal of an instance's type takes no value; the variable stands where no instance may.
--     PROGRAM M VAR X : BOOL; K : F; END_VAR K(V := X); END_PROGRAM FUNCTION_BLOCK F VAR_INPUT V : TON; END_VAR END_FUNCTION_BLOCK
abbrev pub instance_as_an_input : List Pou
instance_as_an_input =
    pou Program (word (codes "M") 8) (block Local Plain (of_type (word (codes "X") 14) (word (codes "BOOL") 18)
    ∷ of_type (word (codes "K") 24) (word (codes "F") 28) ∷ []) ∷ []) (Call (word (codes "K") 39)
    (argument (word (codes "V") 41) (Name (word (codes "X") 46)) ∷ []) ∷ [])
    ∷ pou FunctionBlock (word (codes "F") 77) (block Input Plain (of_type (word (codes "V") 89) (word (codes "TON") 93) ∷ []) ∷ []) []
    ∷ []

-- Initial literals: another type, out of range, both at one place, and at an instance.
--     PROGRAM M VAR A : INT := SINT#1; B : SINT := SINT#128; C : INT := SINT#128; T : TON := TRUE; END_VAR END_PROGRAM
abbrev pub initials : List Pou
initials =
    pou Program (word (codes "M") 8) (block Local Plain (with_initial (word (codes "A") 14) (word (codes "INT") 18) (literal ty.Sint (pos 1) 25)
    ∷ with_initial (word (codes "B") 33) (word (codes "SINT") 37) (literal ty.Sint (pos 128) 45)
    ∷ with_initial (word (codes "C") 55) (word (codes "INT") 59) (literal ty.Sint (pos 128) 66)
    ∷ with_initial (word (codes "T") 76) (word (codes "TON") 80) (literal ty.Bool (pos 1) 87) ∷ []) ∷ []) []
    ∷ []

-- Where no instance and no in-out may stand.
--     PROGRAM M VAR_INPUT S : TON; END_VAR VAR CONSTANT T : TON; END_VAR VAR RETAIN U : TON; END_VAR VAR_TEMP W : TON; END_VAR VAR_IN_OUT V : INT; END_VAR END_PROGRAM
abbrev pub standing_places : List Pou
standing_places =
    pou Program (word (codes "M") 8) (block Input Plain (of_type (word (codes "S") 20) (word (codes "TON") 24) ∷ [])
    ∷ block Local Constant (of_type (word (codes "T") 50) (word (codes "TON") 54) ∷ [])
    ∷ block Local Retain (of_type (word (codes "U") 78) (word (codes "TON") 82) ∷ [])
    ∷ block Temp Plain (of_type (word (codes "W") 104) (word (codes "TON") 108) ∷ [])
    ∷ block InOut Plain (of_type (word (codes "V") 132) (word (codes "INT") 136) ∷ []) ∷ []) []
    ∷ []

-- An input, a constant and an instance are no targets.
--     FUNCTION_BLOCK F VAR_INPUT I : INT; END_VAR VAR CONSTANT C : INT; END_VAR VAR T : TON; END_VAR I := INT#1; C := INT#1; T := TRUE; U := TRUE; END_FUNCTION_BLOCK
abbrev pub targets : List Pou
targets =
    pou FunctionBlock (word (codes "F") 15) (block Input Plain (of_type (word (codes "I") 27) (word (codes "INT") 31) ∷ [])
    ∷ block Local Constant (of_type (word (codes "C") 57) (word (codes "INT") 61) ∷ [])
    ∷ block Local Plain (of_type (word (codes "T") 78) (word (codes "TON") 82) ∷ []) ∷ [])
    (Assign (word (codes "I") 95) (Number (literal ty.Int (pos 1) 100)) ∷ Assign (word (codes "C") 107) (Number (literal ty.Int (pos 1) 112))
    ∷ Assign (word (codes "T") 119) (Number (literal ty.Bool (pos 1) 124))
    ∷ Assign (word (codes "U") 130) (Number (literal ty.Bool (pos 1) 135)) ∷ [])
    ∷ []

-- Equal labels and one that is too great.
--     PROGRAM M VAR D : DINT; END_VAR CASE D OF 1: 0: 01: 2147483648: END_CASE; END_PROGRAM
abbrev pub labels : List Pou
labels =
    pou Program (word (codes "M") 8) (block Local Plain (of_type (word (codes "D") 14) (word (codes "DINT") 18) ∷ []) ∷ [])
    (Case (Name (word (codes "D") 37)) (arms (labelled 1 42 ∷ labelled 0 45 ∷ labelled 01 48 ∷ labelled 2147483648 52 ∷ [])) ∷ [])
    ∷ []

-- A chain without an end starts at each instance of the block, in whichever POU.
--     PROGRAM M VAR A : INT; K : F; END_VAR END_PROGRAM FUNCTION_BLOCK F VAR V : F; END_VAR END_FUNCTION_BLOCK
abbrev pub block_in_itself : List Pou
block_in_itself =
    pou Program (word (codes "M") 8) (block Local Plain (of_type (word (codes "A") 14) (word (codes "INT") 18) ∷ of_type (word (codes "K") 23) (word (codes "F") 27) ∷ []) ∷ []) []
    ∷ pou FunctionBlock (word (codes "F") 65) (block Local Plain (of_type (word (codes "V") 71) (word (codes "F") 75) ∷ []) ∷ []) []
    ∷ []

-- A doubled variable counts for chains.
--     FUNCTION_BLOCK F VAR V : INT; V : F; END_VAR END_FUNCTION_BLOCK
abbrev pub doubled_in_a_chain : List Pou
doubled_in_a_chain =
    pou FunctionBlock (word (codes "F") 15) (block Local Plain (of_type (word (codes "V") 21) (word (codes "INT") 25)
    ∷ of_type (word (codes "V") 30) (word (codes "F") 34) ∷ []) ∷ []) []
    ∷ []
