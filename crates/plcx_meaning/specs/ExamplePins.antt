-- Enables, negations, edges and returns.
use Rattle.std.specs.Prelude.{pos, List, [], ◌∷◌, Some, true, codes}
use Rattle.plcx_types.specs.declared.ty.Ty.TheVariants as ty
use Rattle.plcx_funcs.specs.declared.func.Func.TheVariants as func
use Rattle.plcx_meaning.specs.Base.{OutOfTurns}
use Rattle.plcx_meaning.specs.Tree as tree
use Rattle.plcx_meaning.specs.Tree.{Statement, Argument, Assign, If, Name, Member, Not, statements}
use Rattle.plcx_meaning.specs.Run.{Event, TheEnd, TheStop}
use Rattle.plcx_meaning.specs.Diagram.{Rail, Literal, Wire, Stored, Set, Reset, Open, FallingContact, RisingCoil, FallingCoil, Still, Coil, Return, Function, Call, Pou}
use Rattle.plcx_meaning.specs.Traces.{Trace, line, trace_of}
use Rattle.plcx_meaning.specs.Pieces.{variable, instance_of, listed, retained, element, main, block, literal, wire, result, link, reads, writes, contact, coil, where_true, applies, input, output, scan}

-- a block that is called where its EN is TRUE, and whose ENO is negated
abbrev pub next : Pou
next = block (codes "Next")
    (listed tree.Input (variable (codes "D") ty.Int ∷ []) ∷ listed tree.Output (variable (codes "Q") ty.Int ∷ []) ∷ [])
    (reads 1 ty.Int (codes "D") ∷ applies 2 func.Add ty.Int (wire 1) (literal (pos 1)) ∷ writes 3 (codes "Q") ty.Int (result 2) ∷ [])
    ((1 ∷ 2 ∷ 3 ∷ []) ∷ [])

abbrev pub enabled_block : Pou
enabled_block = main
    (listed tree.Local (variable (codes "E") ty.Bool ∷ variable (codes "I") ty.Int ∷ variable (codes "O") ty.Int ∷ variable (codes "N") ty.Bool ∷ [])
    ∷ retained (instance_of (codes "K") (codes "Next") ∷ [])
    ∷ [])
    (reads 1 ty.Bool (codes "E")
    ∷ reads 2 ty.Int (codes "I")
    ∷ element 3 (Call (codes "K") (record { en = Some (link ty.Bool (wire 1)); eno = Some true }) (input (codes "D") ty.Int (wire 2) ∷ []) [] (output (codes "Q") ty.Int ∷ []))
    ∷ writes 4 (codes "O") ty.Int (Wire 3 (codes "Q"))
    ∷ writes 5 (codes "N") ty.Bool (Wire 3 (codes "ENO"))
    ∷ [])
    ((1 ∷ 2 ∷ 3 ∷ 4 ∷ 5 ∷ []) ∷ [])

abbrev pub enabled_block_statements : List Statement
enabled_block_statements =
    Assign (codes "PLCX_W1") (Name (codes "E"))
    ∷ Assign (codes "PLCX_W2") (Name (codes "I"))
    ∷ Assign (codes "PLCX_W3_ENO") (Name (codes "PLCX_W1"))
    ∷ If (Name (codes "PLCX_W3_ENO")) (statements (tree.Call (codes "K") (record { formal = codes "D"; value = Name (codes "PLCX_W2") } ∷ []) ∷ []))
    ∷ Assign (codes "PLCX_W3_Q") (Member (codes "K") (codes "Q"))
    ∷ Assign (codes "PLCX_W3_ENO") (Not (Name (codes "PLCX_W3_ENO")))
    ∷ Assign (codes "O") (Name (codes "PLCX_W3_Q"))
    ∷ Assign (codes "N") (Name (codes "PLCX_W3_ENO"))
    ∷ []

abbrev pub enabled_block_events : List Event
enabled_block_events = scan 0 ((codes "E", pos 1) ∷ (codes "I", pos 4) ∷ []) ∷ scan 0 ((codes "E", pos 0) ∷ (codes "I", pos 9) ∷ []) ∷ []

-- at the end K.D and K.Q
abbrev pub enabled_block_trace : Trace
enabled_block_trace = trace_of (line TheEnd (pos 1 ∷ pos 4 ∷ pos 5 ∷ pos 0 ∷ []) ∷ line TheEnd (pos 0 ∷ pos 9 ∷ pos 5 ∷ pos 1 ∷ []) ∷ []) (pos 4 ∷ pos 5 ∷ [])

-- a function with a negated input, a negated literal and a negated OUT, which turns its default too
abbrev pub negated_pins : Pou
negated_pins = main
    (listed tree.Local (variable (codes "E") ty.Bool ∷ variable (codes "A") ty.Bool ∷ variable (codes "O") ty.Bool ∷ []) ∷ [])
    (reads 1 ty.Bool (codes "E")
    ∷ reads 2 ty.Bool (codes "A")
    ∷ element 3 Still
    ∷ element 4 (Function func.And ty.Bool (where_true (wire 1)) (record (link ty.Bool (wire 2)) { negated = true } ∷ link ty.Bool (Literal true (pos 0)) ∷ []) true)
    ∷ writes 5 (codes "O") ty.Bool (result 4)
    ∷ [])
    ((1 ∷ 2 ∷ 3 ∷ 4 ∷ 5 ∷ []) ∷ [])

abbrev pub negated_pins_events : List Event
negated_pins_events = scan 0 ((codes "E", pos 1) ∷ []) ∷ scan 0 ((codes "A", pos 1) ∷ []) ∷ scan 0 ((codes "E", pos 0) ∷ (codes "A", pos 0) ∷ []) ∷ []

abbrev pub negated_pins_trace : Trace
negated_pins_trace = trace_of (
    line TheEnd (pos 1 ∷ pos 0 ∷ pos 0 ∷ [])
    ∷ line TheEnd (pos 1 ∷ pos 1 ∷ pos 1 ∷ [])
    ∷ line TheEnd (pos 0 ∷ pos 0 ∷ pos 1 ∷ [])
    ∷ []) []

-- a contact at a falling edge, coils at both edges, and one that is set by the first and reset by the other rung
abbrev pub edges : Pou
edges = main
    (listed tree.Local (variable (codes "I") ty.Bool ∷ variable (codes "F") ty.Bool ∷ variable (codes "S") ty.Bool ∷ variable (codes "U") ty.Bool ∷ variable (codes "D") ty.Bool ∷ []) ∷ [])
    (element 1 Still
    ∷ contact 2 FallingContact (codes "I") (link ty.Bool Rail)
    ∷ coil 3 Stored (codes "F") (wire 2)
    ∷ coil 4 Set (codes "S") (wire 2)
    ∷ contact 5 Open (codes "I") (link ty.Bool Rail)
    ∷ element 6 (Coil RisingCoil (codes "U") (link ty.Bool (wire 5)))
    ∷ element 7 (Coil FallingCoil (codes "D") (link ty.Bool (wire 5)))
    ∷ coil 8 Reset (codes "S") (wire 5)
    ∷ [])
    ((2 ∷ 3 ∷ 4 ∷ []) ∷ (5 ∷ 6 ∷ 7 ∷ 8 ∷ []) ∷ [])

abbrev pub edges_events : List Event
edges_events = scan 0 ((codes "I", pos 1) ∷ []) ∷ scan 0 [] ∷ scan 0 ((codes "I", pos 0) ∷ []) ∷ scan 0 [] ∷ scan 0 ((codes "I", pos 1) ∷ []) ∷ []

abbrev pub edges_trace : Trace
edges_trace = trace_of (
    line TheEnd (pos 1 ∷ pos 0 ∷ pos 0 ∷ pos 1 ∷ pos 0 ∷ [])
    ∷ line TheEnd (pos 1 ∷ pos 0 ∷ pos 0 ∷ pos 0 ∷ pos 0 ∷ [])
    ∷ line TheEnd (pos 0 ∷ pos 1 ∷ pos 1 ∷ pos 0 ∷ pos 1 ∷ [])
    ∷ line TheEnd (pos 0 ∷ pos 0 ∷ pos 1 ∷ pos 0 ∷ pos 0 ∷ [])
    ∷ line TheEnd (pos 1 ∷ pos 0 ∷ pos 0 ∷ pos 1 ∷ pos 0 ∷ [])
    ∷ []) []

-- a return costs no turn of the networks that it leaves out
abbrev pub returning : Pou
returning = main
    (listed tree.Local (variable (codes "A") ty.Bool ∷ variable (codes "X") ty.Int ∷ []) ∷ [])
    (reads 1 ty.Bool (codes "A") ∷ element 2 (Return (link ty.Bool (wire 1))) ∷ element 3 Still ∷ writes 4 (codes "X") ty.Int (literal (pos 7)) ∷ [])
    ((1 ∷ 2 ∷ []) ∷ (3 ∷ 4 ∷ []) ∷ [])

abbrev pub returning_events : List Event
returning_events = scan 0 ((codes "A", pos 1) ∷ []) ∷ scan 0 ((codes "A", pos 0) ∷ []) ∷ []

abbrev pub returning_trace : Trace
returning_trace = trace_of (line TheEnd (pos 1 ∷ pos 0 ∷ []) ∷ line (TheStop OutOfTurns) (pos 0 ∷ pos 0 ∷ []) ∷ []) []
