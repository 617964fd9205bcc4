-- A text that is ready, and texts that are not.
use Rattle.std.specs.Prelude.{ℕ, pos, List, [], ◌∷◌, Some, None, codes}
use Rattle.plcx_types.specs.declared.ty.Ty.TheVariants as ty
use Rattle.plcx_funcs.specs.Applied.{value}
use Rattle.plcx_meaning.specs.Tree.{Program, FunctionBlock, Class, Local, Input, Output, InOut, Temp, Plain, Constant, Declaration, Block, Plus, Expression, Number, Name, Member, Apply, Binary, Argument, Statement, Assign, Call, If, Case, PouText, no_statement, expressions, no_arm, arm}

abbrev pub of_type : List ℕ → List ℕ → Declaration
of_type name type = record { name = name; address = None; ty = type; initial = None }

abbrev pub plain : Class → List Declaration → Block
plain class ds = record { class = class; mark = Plain; declarations = ds }

abbrev pub argument : List ℕ → Expression → Argument
argument name e = record { formal = name; value = e }

abbrev pub int : ℕ → Expression
int n = Number (value ty.Int (pos n))

-- a block that counts what stands for its in-out
abbrev pub counting : PouText
counting = record {
  kind = FunctionBlock;
  name = codes "Inc";
  blocks = plain InOut (of_type (codes "V") (codes "INT") ∷ []) ∷ [];
  body = Assign (codes "V") (Binary Plus (Name (codes "V")) (int 1)) ∷ [];
}

-- a program with a truth value, two numbers, an instance of the block and a timer
abbrev pub with_body : List Statement → PouText
with_body body = record {
  kind = Program;
  name = codes "Main";
  blocks =
      plain Local
      (of_type (codes "A") (codes "BOOL")
      ∷ of_type (codes "X") (codes "int")
      ∷ of_type (codes "D") (codes "DINT")
      ∷ of_type (codes "K") (codes "INC")
      ∷ of_type (codes "T1") (codes "TON")
      ∷ [])
      ∷ plain Temp (of_type (codes "Y") (codes "INT") ∷ [])
      ∷ [];
  body = body;
}

abbrev pub unit_with : List Statement → List PouText
unit_with body = counting ∷ with_body body ∷ []

-- names are compared without case
abbrev pub ready_unit : List PouText
ready_unit = unit_with (
    Call (codes "k") (argument (codes "v") (Name (codes "X")) ∷ [])
    ∷ Call (codes "T1") (argument (codes "IN") (Name (codes "A")) ∷ [])
    ∷ Assign (codes "a") (Member (codes "t1") (codes "q"))
    ∷ Assign (codes "Y") (Apply (codes "max") (expressions (Name (codes "X") ∷ int 3 ∷ [])))
    ∷ Case (Name (codes "D")) (arm 0 no_statement (arm 1 no_statement no_arm))
    ∷ [])

-- a call has no argument for the in-out of its block
abbrev pub unbound : List PouText
unbound = unit_with (Call (codes "K") [] ∷ [])

-- the argument of an in-out is no name alone
abbrev pub bound_to_number : List PouText
bound_to_number = unit_with (Call (codes "K") (argument (codes "V") (int 1) ∷ []) ∷ [])

-- or names a temporary
abbrev pub bound_to_temporary : List PouText
bound_to_temporary = unit_with (Call (codes "K") (argument (codes "V") (Name (codes "Y")) ∷ []) ∷ [])

-- a name that is not declared, at the value and at the target
abbrev pub undeclared : List PouText
undeclared = unit_with (Assign (codes "X") (Name (codes "B")) ∷ [])

abbrev pub undeclared_target : List PouText
undeclared_target = unit_with (Assign (codes "B") (Name (codes "X")) ∷ [])

-- a truth value goes to a number
abbrev pub mistyped : List PouText
mistyped = unit_with (Assign (codes "X") (Name (codes "A")) ∷ [])

-- a number is no condition
abbrev pub no_condition : List PouText
no_condition = unit_with (If (Name (codes "X")) no_statement ∷ [])

-- a function of an operator is called by its name
abbrev pub operator_called : List PouText
operator_called = unit_with (Assign (codes "X") (Apply (codes "ADD") (expressions (Name (codes "X") ∷ int 3 ∷ []))) ∷ [])

-- what is read of an instance is an input
abbrev pub input_read : List PouText
input_read = unit_with (Assign (codes "A") (Member (codes "T1") (codes "IN")) ∷ [])

-- two equal labels
abbrev pub equal_labels : List PouText
equal_labels = unit_with (Case (Name (codes "D")) (arm 7 no_statement (arm 7 no_statement no_arm)) ∷ [])

-- a label beyond the numbers of DINT
abbrev pub large_label : List PouText
large_label = unit_with (Case (Name (codes "D")) (arm 2147483648 no_statement no_arm) ∷ [])

-- two arguments for one formal name
abbrev pub formal_twice : List PouText
formal_twice = unit_with (Call (codes "T1") (argument (codes "IN") (Name (codes "A")) ∷ argument (codes "in") (Name (codes "A")) ∷ []) ∷ [])

-- a formal name that is an output
abbrev pub formal_unknown : List PouText
formal_unknown = unit_with (Call (codes "T1") (argument (codes "Q") (Name (codes "A")) ∷ []) ∷ [])

-- a literal outside its type
abbrev pub out_of_range : List PouText
out_of_range = unit_with (Assign (codes "X") (int 32768) ∷ [])

abbrev pub with_blocks : List Block → List PouText
with_blocks blocks = counting ∷ record { kind = Program; name = codes "Main"; blocks = blocks; body = [] } ∷ []

-- a name is declared twice, but for its case
abbrev pub declared_twice : List PouText
declared_twice = with_blocks (plain Local (of_type (codes "A") (codes "BOOL") ∷ []) ∷ plain Output (of_type (codes "a") (codes "INT") ∷ []) ∷ [])

-- a name that the grammar has
abbrev pub listed_name : List PouText
listed_name = with_blocks (plain Local (of_type (codes "Then") (codes "BOOL") ∷ []) ∷ [])

-- an initial value of another type
abbrev pub wrong_initial : List PouText
wrong_initial = with_blocks (plain Local (record { name = codes "X"; address = None; ty = codes "DINT"; initial = Some (value ty.Int (pos 1)) } ∷ []) ∷ [])

-- an instance among the inputs
abbrev pub instance_as_input : List PouText
instance_as_input = with_blocks (plain Input (of_type (codes "K") (codes "Inc") ∷ []) ∷ [])

-- an in-out of a program
abbrev pub program_in_out : List PouText
program_in_out = with_blocks (plain InOut (of_type (codes "V") (codes "INT") ∷ []) ∷ [])

-- a type that nothing bears
abbrev pub unknown_type : List PouText
unknown_type = with_blocks (plain Local (of_type (codes "K") (codes "Dec") ∷ []) ∷ [])

-- an input of a block is no target within it
abbrev pub stored_input : List PouText
stored_input = record { kind = FunctionBlock; name = codes "F"; blocks = plain Input (of_type (codes "V") (codes "INT") ∷ []) ∷ []; body = Assign (codes "V") (int 1) ∷ [] } ∷ []

-- a constant is no target
abbrev pub stored_constant : List PouText
stored_constant = record {
  kind = Program;
  name = codes "Main";
  blocks = record { class = Local; mark = Constant; declarations = of_type (codes "V") (codes "INT") ∷ [] } ∷ [];
  body = Assign (codes "V") (int 1) ∷ [];
} ∷ []

-- a block with an instance of itself
abbrev pub within_itself : PouText
within_itself = record { kind = FunctionBlock; name = codes "F"; blocks = plain Local (of_type (codes "V") (codes "F") ∷ []) ∷ []; body = [] }
