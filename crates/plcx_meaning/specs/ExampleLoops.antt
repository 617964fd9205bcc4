-- Jumps, and the turns that they cost.
use Rattle.std.specs.Prelude.{ℕ, pos, List, [], ◌∷◌, codes}
use Rattle.plcx_types.specs.declared.ty.Ty.TheVariants as ty
use Rattle.plcx_funcs.specs.declared.func.Func.TheVariants as func
use Rattle.plcx_meaning.specs.Base.{OutOfTurns}
use Rattle.plcx_meaning.specs.Tree as tree
use Rattle.plcx_meaning.specs.Tree.{Block, Statement, Assign, Name, Binary, Plus, Less, If, While, Case, statements, arms}
use Rattle.plcx_meaning.specs.Run.{Event, TheEnd, Halted, TheStop}
use Rattle.plcx_meaning.specs.Diagram.{Still, DiagramElement, Pou}
use Rattle.plcx_meaning.specs.Templates.{number, dint}
use Rattle.plcx_meaning.specs.Traces.{Trace, line, trace_of}
use Rattle.plcx_meaning.specs.Pieces.{variable, starting, instance_of, listed, element, main, block, literal, wire, result, where_true, both_by, reads, writes, label, jump, applies, calls, scan}

-- X counts to 5, in three networks
abbrev pub loop_elements : List DiagramElement
loop_elements =
    label 1 (codes "L")
    ∷ reads 2 ty.Int (codes "X")
    ∷ element 3 Still
    ∷ applies 4 func.Add ty.Int (wire 2) (literal (pos 1))
    ∷ writes 5 (codes "X") ty.Int (result 4)
    ∷ reads 6 ty.Int (codes "X")
    ∷ element 7 Still
    ∷ applies 8 func.Lt ty.Int (wire 6) (literal (pos 5))
    ∷ jump 9 (codes "L") (result 8)
    ∷ []

abbrev pub loop_networks : List (List ℕ)
loop_networks = (1 ∷ []) ∷ (2 ∷ 3 ∷ 4 ∷ 5 ∷ []) ∷ (6 ∷ 7 ∷ 8 ∷ 9 ∷ []) ∷ []

abbrev pub loop : Pou
loop = main (listed tree.Local (variable (codes "X") ty.Int ∷ []) ∷ []) loop_elements loop_networks

abbrev pub loop_statements : List Statement
loop_statements =
    Assign (codes "PLCX_N") (dint 0)
    ∷ While (Binary Less (Name (codes "PLCX_N")) (dint 3)) (statements (
    Case (Name (codes "PLCX_N")) (arms (
    (0, Assign (codes "PLCX_N") (dint 1) ∷ [])
    ∷ (
      1,
      Assign (codes "PLCX_W2") (Name (codes "X"))
          ∷ Assign (codes "PLCX_W4_OUT") (Binary Plus (Name (codes "PLCX_W2")) (number ty.Int (pos 1)))
          ∷ Assign (codes "X") (Name (codes "PLCX_W4_OUT"))
          ∷ Assign (codes "PLCX_N") (dint 2)
          ∷ [],
    )
    ∷ (
      2,
      Assign (codes "PLCX_W6") (Name (codes "X"))
          ∷ Assign (codes "PLCX_W8_OUT") (Binary Less (Name (codes "PLCX_W6")) (number ty.Int (pos 5)))
          ∷ Assign (codes "PLCX_W9") (Name (codes "PLCX_W8_OUT"))
          ∷ Assign (codes "PLCX_N") (dint 3)
          ∷ If (Name (codes "PLCX_W9")) (statements (Assign (codes "PLCX_N") (dint 0) ∷ []))
          ∷ [],
    )
    ∷ []))
    ∷ []))
    ∷ []

abbrev pub loop_blocks : List Block
loop_blocks =
    listed tree.Local (variable (codes "X") ty.Int ∷ [])
    ∷ listed tree.Temp
    (variable (codes "PLCX_W2") ty.Int
    ∷ variable (codes "PLCX_W4_OUT") ty.Int
    ∷ variable (codes "PLCX_W6") ty.Int
    ∷ variable (codes "PLCX_W8_OUT") ty.Bool
    ∷ variable (codes "PLCX_W9") ty.Bool
    ∷ variable (codes "PLCX_N") ty.Dint
    ∷ [])
    ∷ []

abbrev pub one_scan : List Event
one_scan = scan 0 [] ∷ []

abbrev pub two_scans : List Event
two_scans = scan 0 [] ∷ scan 0 [] ∷ []

-- five times three turns
abbrev pub loop_trace : Trace
loop_trace = trace_of (line TheEnd (pos 5 ∷ []) ∷ []) []

abbrev pub loop_one_turn_less_trace : Trace
loop_one_turn_less_trace = trace_of (line (TheStop OutOfTurns) (pos 5 ∷ []) ∷ []) []

abbrev pub loop_no_turn_trace : Trace
loop_no_turn_trace = trace_of (line (TheStop OutOfTurns) (pos 0 ∷ []) ∷ []) []

-- two jumps on one condition: the first in the network's order leads to its label
abbrev pub first_jump_decides : Pou
first_jump_decides = main
    (listed tree.Local (starting (codes "A") ty.Bool (pos 1) ∷ variable (codes "X") ty.Int ∷ variable (codes "Y") ty.Int ∷ []) ∷ [])
    (reads 1 ty.Bool (codes "A")
    ∷ jump 2 (codes "L1") (wire 1)
    ∷ jump 3 (codes "L2") (wire 1)
    ∷ label 4 (codes "L1")
    ∷ element 5 Still
    ∷ writes 6 (codes "X") ty.Int (literal (pos 1))
    ∷ label 7 (codes "L2")
    ∷ element 8 Still
    ∷ writes 9 (codes "Y") ty.Int (literal (pos 1))
    ∷ [])
    ((1 ∷ 3 ∷ 2 ∷ []) ∷ (4 ∷ []) ∷ (5 ∷ 6 ∷ []) ∷ (7 ∷ []) ∷ (8 ∷ 9 ∷ []) ∷ [])

abbrev pub first_jump_decides_trace : Trace
first_jump_decides_trace = trace_of (line TheEnd (pos 1 ∷ pos 0 ∷ pos 1 ∷ []) ∷ []) []

-- the loop in a block
abbrev pub loop_block : Pou
loop_block = block (codes "Loop") (listed tree.Local (variable (codes "X") ty.Int ∷ []) ∷ []) loop_elements loop_networks

-- and a program that calls it, and has no other variable
abbrev pub calls_a_loop : Pou
calls_a_loop = main (listed tree.Local (instance_of (codes "K") (codes "Loop") ∷ []) ∷ []) (calls 1 (codes "K") [] [] [] ∷ []) ((1 ∷ []) ∷ [])

abbrev pub calls_a_loop_trace : Trace
calls_a_loop_trace = trace_of (line (TheStop OutOfTurns) [] ∷ line Halted [] ∷ []) []

-- the program's variable is written behind the call: the turns of the block are the scan's
abbrev pub nested_loop : Pou
nested_loop = main
    (listed tree.Local (instance_of (codes "K") (codes "Loop") ∷ variable (codes "Z") ty.Int ∷ []) ∷ [])
    (calls 1 (codes "K") [] [] [] ∷ element 2 Still ∷ writes 3 (codes "Z") ty.Int (literal (pos 1)) ∷ [])
    ((1 ∷ []) ∷ (2 ∷ 3 ∷ []) ∷ [])

abbrev pub nested_loop_trace : Trace
nested_loop_trace = trace_of (line TheEnd (pos 1 ∷ []) ∷ []) []

abbrev pub nested_loop_one_turn_less_trace : Trace
nested_loop_one_turn_less_trace = trace_of (line (TheStop OutOfTurns) (pos 0 ∷ []) ∷ []) []

-- in its second turn a network has a sum that is not applied: OUT is 0, and not what it was in the first
abbrev pub disabled_in_a_loop : Pou
disabled_in_a_loop = main
    (listed tree.Local (variable (codes "X") ty.Int ∷ variable (codes "Y") ty.Int ∷ []) ∷ [])
    (label 1 (codes "L")
    ∷ reads 2 ty.Int (codes "X")
    ∷ applies 3 func.Lt ty.Int (wire 2) (literal (pos 1))
    ∷ element 4 (both_by func.Add ty.Int (where_true (result 3)) (wire 2) (literal (pos 7)))
    ∷ writes 5 (codes "Y") ty.Int (result 4)
    ∷ applies 6 func.Add ty.Int (wire 2) (literal (pos 1))
    ∷ writes 7 (codes "X") ty.Int (result 6)
    ∷ jump 8 (codes "L") (result 3)
    ∷ [])
    ((1 ∷ []) ∷ (2 ∷ 3 ∷ 4 ∷ 5 ∷ 6 ∷ 7 ∷ 8 ∷ []) ∷ [])

abbrev pub disabled_in_a_loop_trace : Trace
disabled_in_a_loop_trace = trace_of (line TheEnd (pos 2 ∷ pos 0 ∷ []) ∷ []) []
