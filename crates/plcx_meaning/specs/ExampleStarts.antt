-- Initial values, a retained state in their place, and how leaves are spelled.
use Rattle.std.specs.Prelude.{ℤ, pos, List, [], ◌∷◌, codes}
use Rattle.plcx_types.specs.declared.ty.Ty.TheVariants as ty
use Rattle.plcx_meaning.specs.Base.{Path, put}
use Rattle.plcx_meaning.specs.Tree as tree
use Rattle.plcx_meaning.specs.Layout.{Warm, Cold, Spelling, initial_in}
use Rattle.plcx_meaning.specs.Run.{Event, Machine, Again, TheEnd, Restarted}
use Rattle.plcx_meaning.specs.Diagram.{Pou}
use Rattle.plcx_meaning.specs.Traces.{Trace, line, trace_of}
use Rattle.plcx_meaning.specs.Pieces.{variable, starting, instance_of, listed, retained, main, reads, writes, wire, scan}

-- a program without elements, one of whose variables is retained
abbrev pub idle : Pou
idle = main (listed tree.Local (starting (codes "Y") ty.Int (pos 3) ∷ []) ∷ retained (starting (codes "X") ty.Int (pos 5) ∷ []) ∷ []) [] []

-- one scan, without inputs
abbrev pub one_scan_at_start : List Event
one_scan_at_start = scan 0 [] ∷ []

-- it shows its initial values
abbrev pub idle_trace : Trace
idle_trace = trace_of (line TheEnd (pos 3 ∷ pos 5 ∷ []) ∷ []) (pos 5 ∷ [])

-- a retained state in which X is 7 and all else is as declared; it is kept over a warm restart, and gone after a cold one
abbrev pub seven : {G : Type 0} → Machine G → Path → ℤ
seven m = put (initial_in m.layout) (codes "x" ∷ []) (pos 7)

-- a scan, a warm restart and a cold one
abbrev pub both_restarts : List Event
both_restarts = scan 0 [] ∷ Again Warm ∷ Again Cold ∷ []

-- what that state shows
abbrev pub seven_trace : Trace
seven_trace = trace_of (
    line TheEnd (pos 3 ∷ pos 7 ∷ [])
    ∷ line Restarted (pos 3 ∷ pos 7 ∷ [])
    ∷ line Restarted (pos 3 ∷ pos 5 ∷ [])
    ∷ []) (pos 5 ∷ [])

-- names in small and in capital letters, and an instance whose pins are spelled in capitals
abbrev pub spelled_so : Pou
spelled_so = main
    (listed tree.Local (variable (codes "Lamp") ty.Bool ∷ instance_of (codes "myTimer") (codes "TP") ∷ []) ∷ [])
    (reads 1 ty.Bool (codes "lamp") ∷ writes 2 (codes "LAMP") ty.Bool (wire 1) ∷ [])
    ((1 ∷ 2 ∷ []) ∷ [])

-- its leaves as they are spelled
abbrev pub spellings : List Spelling
spellings =
    (codes "Lamp" ∷ [])
    ∷ (codes "IN" ∷ codes "myTimer" ∷ [])
    ∷ (codes "PT" ∷ codes "myTimer" ∷ [])
    ∷ (codes "Q" ∷ codes "myTimer" ∷ [])
    ∷ (codes "ET" ∷ codes "myTimer" ∷ [])
    ∷ (codes "M" ∷ codes "myTimer" ∷ [])
    ∷ (codes "RUN" ∷ codes "myTimer" ∷ [])
    ∷ (codes "START" ∷ codes "myTimer" ∷ [])
    ∷ []

-- and their paths
abbrev pub paths : List Path
paths =
    (codes "lamp" ∷ [])
    ∷ (codes "in" ∷ codes "mytimer" ∷ [])
    ∷ (codes "pt" ∷ codes "mytimer" ∷ [])
    ∷ (codes "q" ∷ codes "mytimer" ∷ [])
    ∷ (codes "et" ∷ codes "mytimer" ∷ [])
    ∷ (codes "m" ∷ codes "mytimer" ∷ [])
    ∷ (codes "run" ∷ codes "mytimer" ∷ [])
    ∷ (codes "start" ∷ codes "mytimer" ∷ [])
    ∷ []
