-- Instances of standard blocks and of blocks of the project.
use Rattle.std.specs.Prelude.{pos, List, [], ◌∷◌, true, codes}
use Rattle.plcx_types.specs.declared.fault.Fault.TheVariants as fault
use Rattle.plcx_types.specs.declared.ty.Ty.TheVariants as ty
use Rattle.plcx_funcs.specs.declared.func.Func.TheVariants as func
use Rattle.plcx_meaning.specs.Base.{Faulted}
use Rattle.plcx_meaning.specs.Tree as tree
use Rattle.plcx_meaning.specs.Tree.{Block, Statement, Assign, Name, Binary, And, Not}
use Rattle.plcx_meaning.specs.Layout.{Warm, Cold}
use Rattle.plcx_meaning.specs.Run.{Event, Again, TheEnd, Restarted, TheStop}
use Rattle.plcx_meaning.specs.Diagram.{Rail, Wire, Stored, RisingContact, Still, Pou}
use Rattle.plcx_meaning.specs.Templates.{truth}
use Rattle.plcx_meaning.specs.Traces.{Trace, line, trace_of}
use Rattle.plcx_meaning.specs.Pieces.{variable, starting, instance_of, listed, retained, element, main, block, literal, wire, result, link, reads, writes, contact, coil, applies, calls, input, output, scan}

-- a delay whose preset is a variable
abbrev pub delay : Pou
delay = main
    (listed tree.Local
    (variable (codes "I") ty.Bool
    ∷ starting (codes "P") ty.Time (pos 100)
    ∷ variable (codes "Q") ty.Bool
    ∷ variable (codes "E") ty.Time
    ∷ instance_of (codes "T1") (codes "TON")
    ∷ [])
    ∷ [])
    (reads 1 ty.Bool (codes "I")
    ∷ reads 2 ty.Time (codes "P")
    ∷ calls 3 (codes "T1") (input (codes "IN") ty.Bool (wire 1) ∷ input (codes "PT") ty.Time (wire 2) ∷ []) [] (output (codes "Q") ty.Bool ∷ output (codes "ET") ty.Time ∷ [])
    ∷ writes 4 (codes "Q") ty.Bool (Wire 3 (codes "Q"))
    ∷ writes 5 (codes "E") ty.Time (Wire 3 (codes "ET"))
    ∷ [])
    ((1 ∷ 2 ∷ 3 ∷ 4 ∷ 5 ∷ []) ∷ [])

abbrev pub delay_events : List Event
delay_events =
    scan 0 ((codes "I", pos 1) ∷ [])
    ∷ scan 99 []
    ∷ scan 100 []
    ∷ scan 100 ((codes "I", pos 0) ∷ [])
    ∷ scan 100 ((codes "I", pos 1) ∷ (codes "P", pos 0) ∷ [])
    ∷ []

abbrev pub delay_trace : Trace
delay_trace = trace_of (
    line TheEnd (pos 1 ∷ pos 100 ∷ pos 0 ∷ pos 0 ∷ [])
    ∷ line TheEnd (pos 1 ∷ pos 100 ∷ pos 0 ∷ pos 99 ∷ [])
    ∷ line TheEnd (pos 1 ∷ pos 100 ∷ pos 1 ∷ pos 100 ∷ [])
    ∷ line TheEnd (pos 0 ∷ pos 100 ∷ pos 0 ∷ pos 0 ∷ [])
    ∷ line TheEnd (pos 1 ∷ pos 0 ∷ pos 1 ∷ pos 0 ∷ [])
    ∷ []) []

-- a block with an edge, whose instance is retained
abbrev pub edge_block : Pou
edge_block = block (codes "Edge")
    (listed tree.Input (variable (codes "CLK") ty.Bool ∷ []) ∷ listed tree.Output (variable (codes "P") ty.Bool ∷ []) ∷ [])
    (element 1 Still ∷ contact 2 RisingContact (codes "CLK") (link ty.Bool Rail) ∷ coil 3 Stored (codes "P") (wire 2) ∷ [])
    ((2 ∷ 3 ∷ []) ∷ [])

abbrev pub edge_block_statements : List Statement
edge_block_statements =
    Assign (codes "PLCX_W2") (Binary And (Binary And (truth true) (Name (codes "CLK"))) (Not (Name (codes "PLCX_M2"))))
    ∷ Assign (codes "PLCX_M2") (Name (codes "CLK"))
    ∷ Assign (codes "PLCX_W3") (Name (codes "PLCX_W2"))
    ∷ Assign (codes "P") (Name (codes "PLCX_W3"))
    ∷ []

abbrev pub edge_block_blocks : List Block
edge_block_blocks =
    listed tree.Input (variable (codes "CLK") ty.Bool ∷ [])
    ∷ listed tree.Output (variable (codes "P") ty.Bool ∷ [])
    ∷ listed tree.Local (variable (codes "PLCX_M2") ty.Bool ∷ [])
    ∷ listed tree.Temp (variable (codes "PLCX_W2") ty.Bool ∷ variable (codes "PLCX_W3") ty.Bool ∷ [])
    ∷ []

abbrev pub retained_edge : Pou
retained_edge = main
    (listed tree.Local (variable (codes "I") ty.Bool ∷ variable (codes "O") ty.Bool ∷ []) ∷ retained (instance_of (codes "K") (codes "Edge") ∷ []) ∷ [])
    (reads 1 ty.Bool (codes "I")
    ∷ calls 2 (codes "K") (input (codes "CLK") ty.Bool (wire 1) ∷ []) [] (output (codes "P") ty.Bool ∷ [])
    ∷ writes 3 (codes "O") ty.Bool (Wire 2 (codes "P"))
    ∷ [])
    ((1 ∷ 2 ∷ 3 ∷ []) ∷ [])

abbrev pub retained_edge_events : List Event
retained_edge_events =
    scan 0 ((codes "I", pos 1) ∷ [])
    ∷ scan 0 []
    ∷ Again Warm
    ∷ scan 0 ((codes "I", pos 1) ∷ [])
    ∷ Again Cold
    ∷ scan 0 ((codes "I", pos 1) ∷ [])
    ∷ []

-- at the end K.CLK and K.P
abbrev pub retained_edge_trace : Trace
retained_edge_trace = trace_of (
    line TheEnd (pos 1 ∷ pos 1 ∷ [])
    ∷ line TheEnd (pos 1 ∷ pos 0 ∷ [])
    ∷ line Restarted (pos 0 ∷ pos 0 ∷ [])
    ∷ line TheEnd (pos 1 ∷ pos 0 ∷ [])
    ∷ line Restarted (pos 0 ∷ pos 0 ∷ [])
    ∷ line TheEnd (pos 1 ∷ pos 1 ∷ [])
    ∷ []) (pos 1 ∷ pos 1 ∷ [])

-- one instance that is called twice: the wire of the first call is fixed before the second
abbrev pub two_calls : Pou
two_calls = main
    (listed tree.Local (starting (codes "A") ty.Bool (pos 1) ∷ variable (codes "X") ty.Bool ∷ variable (codes "Y") ty.Bool ∷ instance_of (codes "B1") (codes "SR") ∷ []) ∷ [])
    (reads 1 ty.Bool (codes "A")
    ∷ calls 2 (codes "B1") (input (codes "S1") ty.Bool (wire 1) ∷ []) [] (output (codes "Q1") ty.Bool ∷ [])
    ∷ element 3 Still
    ∷ calls 4 (codes "B1") (input (codes "S1") ty.Bool (literal (pos 0)) ∷ input (codes "R") ty.Bool (wire 1) ∷ []) [] (output (codes "Q1") ty.Bool ∷ [])
    ∷ writes 5 (codes "X") ty.Bool (Wire 2 (codes "Q1"))
    ∷ writes 6 (codes "Y") ty.Bool (Wire 4 (codes "Q1"))
    ∷ [])
    ((1 ∷ 2 ∷ 3 ∷ 4 ∷ 5 ∷ 6 ∷ []) ∷ [])

abbrev pub two_calls_trace : Trace
two_calls_trace = trace_of (line TheEnd (pos 1 ∷ pos 1 ∷ pos 0 ∷ []) ∷ line TheEnd (pos 1 ∷ pos 1 ∷ pos 0 ∷ []) ∷ []) []

-- a block that divides, in a retained instance: what the call stored before the fault stays
abbrev pub division : Pou
division = block (codes "Division")
    (listed tree.Input (variable (codes "D") ty.Int ∷ []) ∷ listed tree.Output (variable (codes "Q") ty.Int ∷ []) ∷ [])
    (reads 1 ty.Int (codes "D") ∷ applies 2 func.Div ty.Int (literal (pos 10)) (wire 1) ∷ writes 3 (codes "Q") ty.Int (result 2) ∷ [])
    ((1 ∷ 2 ∷ 3 ∷ []) ∷ [])

abbrev pub fault_in_a_block : Pou
fault_in_a_block = main
    (listed tree.Local (variable (codes "I") ty.Int ∷ variable (codes "O") ty.Int ∷ []) ∷ retained (instance_of (codes "K") (codes "Division") ∷ []) ∷ [])
    (reads 1 ty.Int (codes "I")
    ∷ calls 2 (codes "K") (input (codes "D") ty.Int (wire 1) ∷ []) [] (output (codes "Q") ty.Int ∷ [])
    ∷ writes 3 (codes "O") ty.Int (Wire 2 (codes "Q"))
    ∷ [])
    ((1 ∷ 2 ∷ 3 ∷ []) ∷ [])

abbrev pub fault_in_a_block_events : List Event
fault_in_a_block_events = scan 0 ((codes "I", pos 2) ∷ []) ∷ scan 0 ((codes "I", pos 0) ∷ []) ∷ []

-- at the end K.D and K.Q
abbrev pub fault_in_a_block_trace : Trace
fault_in_a_block_trace = trace_of (line TheEnd (pos 2 ∷ pos 5 ∷ []) ∷ line (TheStop (Faulted fault.DivByZero)) (pos 0 ∷ pos 5 ∷ []) ∷ []) (pos 0 ∷ pos 5 ∷ [])
