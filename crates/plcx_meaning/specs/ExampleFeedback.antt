-- Outputs that feed back.
use Rattle.std.specs.Prelude.{pos, List, [], ◌∷◌, true, codes}
use Rattle.plcx_types.specs.declared.fault.Fault.TheVariants as fault
use Rattle.plcx_types.specs.declared.ty.Ty.TheVariants as ty
use Rattle.plcx_funcs.specs.declared.func.Func.TheVariants as func
use Rattle.plcx_meaning.specs.Base.{Faulted}
use Rattle.plcx_meaning.specs.Tree as tree
use Rattle.plcx_meaning.specs.Tree.{Block, Statement, Assign, Name, Binary, Plus}
use Rattle.plcx_meaning.specs.Layout.{Warm, Cold}
use Rattle.plcx_meaning.specs.Run.{Event, Again, TheEnd, Halted, Restarted, TheStop}
use Rattle.plcx_meaning.specs.Diagram.{Back, Own, In, Still, Pou}
use Rattle.plcx_meaning.specs.Templates.{number}
use Rattle.plcx_meaning.specs.Traces.{Trace, line, trace_of}
use Rattle.plcx_meaning.specs.Pieces.{variable, listed, retained, element, main, literal, wire, result, where_true, always, reads, writes, applies, feeds, scan}

-- a sum that counts the scans
abbrev pub counting : Pou
counting = main
    (listed tree.Local (variable (codes "C") ty.Int ∷ []) ∷ [])
    (element 1 Still
    ∷ feeds 2 func.Add ty.Int always (literal (pos 1)) (Back 2 (codes "OUT"))
    ∷ writes 3 (codes "C") ty.Int (result 2)
    ∷ [])
    ((1 ∷ 2 ∷ 3 ∷ []) ∷ [])

abbrev pub counting_statements : List Statement
counting_statements =
    Assign (codes "PLCX_W2_OUT") (Binary Plus (number ty.Int (pos 1)) (Name (codes "PLCX_F2_OUT")))
    ∷ Assign (codes "PLCX_F2_OUT") (Name (codes "PLCX_W2_OUT"))
    ∷ Assign (codes "C") (Name (codes "PLCX_W2_OUT"))
    ∷ []

abbrev pub counting_blocks : List Block
counting_blocks =
    listed tree.Local (variable (codes "C") ty.Int ∷ [])
    ∷ listed tree.Local (variable (codes "PLCX_F2_OUT") ty.Int ∷ [])
    ∷ listed tree.Temp (variable (codes "PLCX_W2_OUT") ty.Int ∷ [])
    ∷ []

abbrev pub counting_events : List Event
counting_events = scan 0 [] ∷ scan 0 [] ∷ scan 0 [] ∷ Again Cold ∷ scan 0 [] ∷ []

abbrev pub counting_trace : Trace
counting_trace = trace_of (
    line TheEnd (pos 1 ∷ [])
    ∷ line TheEnd (pos 2 ∷ [])
    ∷ line TheEnd (pos 3 ∷ [])
    ∷ line Restarted (pos 0 ∷ [])
    ∷ line TheEnd (pos 1 ∷ [])
    ∷ []) []

-- a sum that leaves its type
abbrev pub saturating : Pou
saturating = main
    (retained (variable (codes "C") ty.Sint ∷ []) ∷ [])
    (element 1 Still
    ∷ feeds 2 func.Add ty.Sint always (literal (pos 100)) (Back 2 (codes "OUT"))
    ∷ writes 3 (codes "C") ty.Sint (result 2)
    ∷ [])
    ((1 ∷ 2 ∷ 3 ∷ []) ∷ [])

abbrev pub saturating_events : List Event
saturating_events = scan 0 [] ∷ scan 0 [] ∷ scan 0 [] ∷ Again Warm ∷ scan 0 [] ∷ []

abbrev pub saturating_trace : Trace
saturating_trace = trace_of (
    line TheEnd (pos 100 ∷ [])
    ∷ line (TheStop (Faulted fault.Range)) (pos 100 ∷ [])
    ∷ line Halted (pos 100 ∷ [])
    ∷ line Restarted (pos 100 ∷ [])
    ∷ line TheEnd (pos 100 ∷ [])
    ∷ []) (pos 100 ∷ [])

-- a latch of two functions; the connection from the AND to the OR alone feeds back
abbrev pub feedback_pair : Pou
feedback_pair = main
    (listed tree.Local (variable (codes "S") ty.Bool ∷ variable (codes "R") ty.Bool ∷ variable (codes "X") ty.Bool ∷ []) ∷ [])
    (reads 1 ty.Bool (codes "S")
    ∷ applies 2 func.Or ty.Bool (wire 1) (Back 3 (codes "OUT"))
    ∷ feeds 3 func.And ty.Bool always (result 2) (wire 4)
    ∷ element 4 (In ty.Bool true (Own (codes "R")))
    ∷ writes 5 (codes "X") ty.Bool (result 3)
    ∷ [])
    ((1 ∷ 2 ∷ 4 ∷ 3 ∷ 5 ∷ []) ∷ [])

abbrev pub feedback_pair_events : List Event
feedback_pair_events = scan 0 ((codes "S", pos 1) ∷ []) ∷ scan 0 ((codes "S", pos 0) ∷ []) ∷ scan 0 ((codes "R", pos 1) ∷ []) ∷ []

abbrev pub feedback_pair_trace : Trace
feedback_pair_trace = trace_of (
    line TheEnd (pos 1 ∷ pos 0 ∷ pos 1 ∷ [])
    ∷ line TheEnd (pos 0 ∷ pos 0 ∷ pos 1 ∷ [])
    ∷ line TheEnd (pos 0 ∷ pos 1 ∷ pos 0 ∷ [])
    ∷ []) []

-- a sum that is not applied where its EN is FALSE: its OUT is 0, and 0 is what feeds back
abbrev pub disabled : Pou
disabled = main
    (listed tree.Local (variable (codes "A") ty.Bool ∷ variable (codes "C") ty.Int ∷ []) ∷ [])
    (reads 1 ty.Bool (codes "A")
    ∷ element 2 Still
    ∷ feeds 3 func.Add ty.Int (where_true (wire 1)) (literal (pos 1)) (Back 3 (codes "OUT"))
    ∷ writes 4 (codes "C") ty.Int (result 3)
    ∷ [])
    ((1 ∷ 2 ∷ 3 ∷ 4 ∷ []) ∷ [])

abbrev pub disabled_events : List Event
disabled_events = scan 0 ((codes "A", pos 1) ∷ []) ∷ scan 0 [] ∷ scan 0 ((codes "A", pos 0) ∷ []) ∷ scan 0 ((codes "A", pos 1) ∷ []) ∷ []

abbrev pub disabled_trace : Trace
disabled_trace = trace_of (
    line TheEnd (pos 1 ∷ pos 1 ∷ [])
    ∷ line TheEnd (pos 1 ∷ pos 2 ∷ [])
    ∷ line TheEnd (pos 0 ∷ pos 0 ∷ [])
    ∷ line TheEnd (pos 1 ∷ pos 1 ∷ [])
    ∷ []) []
