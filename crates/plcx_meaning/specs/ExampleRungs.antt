-- Rungs of contacts and coils, and the order of a document.
use Rattle.std.specs.Prelude.{pos, List, [], ◌∷◌, true, codes}
use Rattle.plcx_types.specs.declared.ty.Ty.TheVariants as ty
use Rattle.plcx_meaning.specs.Tree as tree
use Rattle.plcx_meaning.specs.Tree.{Block, Statement, Assign, Name, Binary, And, Or, Not, PouText}
use Rattle.plcx_meaning.specs.Run.{Event, TheEnd}
use Rattle.plcx_meaning.specs.Diagram.{Rail, Stored, Inverted, Open, Closed, Still, Pou}
use Rattle.plcx_meaning.specs.Templates.{truth, pou_text}
use Rattle.plcx_meaning.specs.Traces.{Trace, line, trace_of}
use Rattle.plcx_meaning.specs.Pieces.{variable, listed, element, main, wire, link, either, reads, writes, contact, coil, scan}

-- a motor that holds itself until it is stopped
abbrev pub motor : Pou
motor = main
    (listed tree.Local (variable (codes "Start") ty.Bool ∷ variable (codes "Stop") ty.Bool ∷ variable (codes "Motor") ty.Bool ∷ []) ∷ [])
    (element 1 Still
    ∷ contact 2 Open (codes "Start") (link ty.Bool Rail)
    ∷ contact 3 Open (codes "Motor") (link ty.Bool Rail)
    ∷ contact 4 Closed (codes "Stop") (either (wire 2) (wire 3))
    ∷ coil 5 Stored (codes "Motor") (wire 4)
    ∷ element 6 Still
    ∷ [])
    ((2 ∷ 3 ∷ 4 ∷ 5 ∷ []) ∷ [])

abbrev pub motor_statements : List Statement
motor_statements =
    Assign (codes "PLCX_W2") (Binary And (truth true) (Name (codes "Start")))
    ∷ Assign (codes "PLCX_W3") (Binary And (truth true) (Name (codes "Motor")))
    ∷ Assign (codes "PLCX_W4") (Binary And (Binary Or (Name (codes "PLCX_W2")) (Name (codes "PLCX_W3"))) (Not (Name (codes "Stop"))))
    ∷ Assign (codes "PLCX_W5") (Name (codes "PLCX_W4"))
    ∷ Assign (codes "Motor") (Name (codes "PLCX_W5"))
    ∷ []

abbrev pub motor_blocks : List Block
motor_blocks =
    listed tree.Local (variable (codes "Start") ty.Bool ∷ variable (codes "Stop") ty.Bool ∷ variable (codes "Motor") ty.Bool ∷ [])
    ∷ listed tree.Temp (variable (codes "PLCX_W2") ty.Bool ∷ variable (codes "PLCX_W3") ty.Bool ∷ variable (codes "PLCX_W4") ty.Bool ∷ variable (codes "PLCX_W5") ty.Bool ∷ [])
    ∷ []

abbrev pub motor_events : List Event
motor_events =
    scan 0 ((codes "Start", pos 1) ∷ (codes "Stop", pos 0) ∷ [])
    ∷ scan 10 ((codes "Start", pos 0) ∷ [])
    ∷ scan 20 ((codes "Stop", pos 1) ∷ [])
    ∷ []

abbrev pub motor_trace : Trace
motor_trace = trace_of (
    line TheEnd (pos 1 ∷ pos 0 ∷ pos 1 ∷ [])
    ∷ line TheEnd (pos 0 ∷ pos 0 ∷ pos 1 ∷ [])
    ∷ line TheEnd (pos 0 ∷ pos 1 ∷ pos 0 ∷ [])
    ∷ []) []

-- a vendor's element stands first, and the networks go by the numbers of their elements: C gets B before B gets A
abbrev pub document_order : Pou
document_order = main
    (listed tree.Local (variable (codes "A") ty.Bool ∷ variable (codes "B") ty.Bool ∷ variable (codes "C") ty.Bool ∷ []) ∷ [])
    (element 10000000001 Still
    ∷ reads 10000000004 ty.Bool (codes "A")
    ∷ writes 10000000005 (codes "B") ty.Bool (wire 10000000004)
    ∷ reads 10000000002 ty.Bool (codes "B")
    ∷ writes 10000000003 (codes "C") ty.Bool (wire 10000000002)
    ∷ [])
    ((10000000002 ∷ 10000000003 ∷ []) ∷ (10000000004 ∷ 10000000005 ∷ []) ∷ [])

abbrev pub document_order_events : List Event
document_order_events = scan 0 ((codes "A", pos 1) ∷ []) ∷ scan 0 [] ∷ []

abbrev pub document_order_trace : Trace
document_order_trace = trace_of (line TheEnd (pos 1 ∷ pos 1 ∷ pos 0 ∷ []) ∷ line TheEnd (pos 1 ∷ pos 1 ∷ pos 1 ∷ []) ∷ []) []

-- a coil writes the variable of a contact, whose wire goes on with what it was before
abbrev pub wire_past_a_write : Pou
wire_past_a_write = main
    (listed tree.Local (variable (codes "A") ty.Bool ∷ variable (codes "B") ty.Bool ∷ []) ∷ [])
    (element 1 Still
    ∷ contact 2 Open (codes "A") (link ty.Bool Rail)
    ∷ coil 3 Inverted (codes "A") (wire 2)
    ∷ coil 4 Stored (codes "B") (wire 2)
    ∷ [])
    ((2 ∷ 3 ∷ 4 ∷ []) ∷ [])

abbrev pub wire_past_a_write_events : List Event
wire_past_a_write_events = scan 0 ((codes "A", pos 1) ∷ []) ∷ scan 0 [] ∷ []

abbrev pub wire_past_a_write_trace : Trace
wire_past_a_write_trace = trace_of (line TheEnd (pos 0 ∷ pos 1 ∷ []) ∷ line TheEnd (pos 1 ∷ pos 0 ∷ []) ∷ []) []

-- a wrong text of it: the variable stands in the place of the wire
abbrev pub variable_for_wire : PouText
variable_for_wire = record (pou_text wire_past_a_write) { body = Assign (codes "A") (Not (Name (codes "A"))) ∷ Assign (codes "B") (Name (codes "A")) ∷ [] }
