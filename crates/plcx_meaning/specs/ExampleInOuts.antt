-- In-outs, which stand for variables of the caller.
use Rattle.std.specs.Prelude.{pos, List, [], ◌∷◌, codes}
use Rattle.plcx_types.specs.declared.ty.Ty.TheVariants as ty
use Rattle.plcx_funcs.specs.declared.func.Func.TheVariants as func
use Rattle.plcx_meaning.specs.Tree as tree
use Rattle.plcx_meaning.specs.Tree.{Statement, Argument, Assign, Call, Name}
use Rattle.plcx_meaning.specs.Run.{TheEnd}
use Rattle.plcx_meaning.specs.Diagram.{Still, Pou, Project}
use Rattle.plcx_meaning.specs.Traces.{Trace, line, trace_of}
use Rattle.plcx_meaning.specs.Pieces.{variable, instance_of, listed, element, main, block, literal, wire, result, reads, writes, applies, calls, in_out}

-- a block that adds 1 to its in-out
abbrev pub increment : Pou
increment = block (codes "Inc")
    (listed tree.InOut (variable (codes "V") ty.Int ∷ []) ∷ [])
    (reads 1 ty.Int (codes "V") ∷ element 2 Still ∷ applies 3 func.Add ty.Int (wire 1) (literal (pos 1)) ∷ writes 4 (codes "V") ty.Int (result 3) ∷ [])
    ((1 ∷ 2 ∷ 3 ∷ 4 ∷ []) ∷ [])

abbrev pub binds : Pou
binds = main
    (listed tree.Local (variable (codes "X") ty.Int ∷ instance_of (codes "K") (codes "Inc") ∷ []) ∷ [])
    (reads 1 ty.Int (codes "X") ∷ calls 2 (codes "K") [] (in_out (codes "V") (codes "X") ∷ []) [] ∷ [])
    ((1 ∷ 2 ∷ []) ∷ [])

abbrev pub binding : Project
binding = binds ∷ increment ∷ []

abbrev pub binds_statements : List Statement
binds_statements =
    Assign (codes "PLCX_W1") (Name (codes "X"))
    ∷ Call (codes "K") (record { formal = codes "V"; value = Name (codes "X") } ∷ [])
    ∷ []

abbrev pub binding_trace : Trace
binding_trace = trace_of (line TheEnd (pos 1 ∷ []) ∷ line TheEnd (pos 2 ∷ []) ∷ []) []

-- a block that hands its in-out on twice
abbrev pub twice : Pou
twice = block (codes "Twice")
    (listed tree.InOut (variable (codes "W") ty.Int ∷ []) ∷ listed tree.Local (instance_of (codes "J") (codes "Inc") ∷ []) ∷ [])
    (reads 1 ty.Int (codes "W")
    ∷ calls 2 (codes "J") [] (in_out (codes "V") (codes "W") ∷ []) []
    ∷ reads 3 ty.Int (codes "W")
    ∷ calls 4 (codes "J") [] (in_out (codes "V") (codes "W") ∷ []) []
    ∷ [])
    ((1 ∷ 2 ∷ []) ∷ (3 ∷ 4 ∷ []) ∷ [])

abbrev pub hands_on : Pou
hands_on = main
    (listed tree.Local (variable (codes "X") ty.Int ∷ instance_of (codes "K") (codes "Twice") ∷ []) ∷ [])
    (reads 1 ty.Int (codes "X") ∷ calls 2 (codes "K") [] (in_out (codes "W") (codes "X") ∷ []) [] ∷ [])
    ((1 ∷ 2 ∷ []) ∷ [])

abbrev pub handing_on : Project
handing_on = hands_on ∷ twice ∷ increment ∷ []

abbrev pub handing_on_trace : Trace
handing_on_trace = trace_of (line TheEnd (pos 2 ∷ []) ∷ []) []

-- a block that adds 1 to each of its two in-outs
abbrev pub increments : Pou
increments = block (codes "Incs")
    (listed tree.InOut (variable (codes "V") ty.Int ∷ variable (codes "U") ty.Int ∷ []) ∷ [])
    (reads 1 ty.Int (codes "V")
    ∷ applies 2 func.Add ty.Int (wire 1) (literal (pos 1))
    ∷ writes 3 (codes "V") ty.Int (result 2)
    ∷ reads 4 ty.Int (codes "U")
    ∷ applies 5 func.Add ty.Int (wire 4) (literal (pos 1))
    ∷ writes 6 (codes "U") ty.Int (result 5)
    ∷ [])
    ((1 ∷ 2 ∷ 3 ∷ []) ∷ (4 ∷ 5 ∷ 6 ∷ []) ∷ [])

-- both stand for one variable, which gets 2
abbrev pub one_variable_twice : Pou
one_variable_twice = main
    (listed tree.Local (variable (codes "X") ty.Int ∷ instance_of (codes "K") (codes "Incs") ∷ []) ∷ [])
    (reads 1 ty.Int (codes "X") ∷ calls 2 (codes "K") [] (in_out (codes "V") (codes "X") ∷ in_out (codes "U") (codes "X") ∷ []) [] ∷ [])
    ((1 ∷ 2 ∷ []) ∷ [])

abbrev pub sharing : Project
sharing = one_variable_twice ∷ increments ∷ []

abbrev pub sharing_trace : Trace
sharing_trace = trace_of (line TheEnd (pos 2 ∷ []) ∷ line TheEnd (pos 4 ∷ []) ∷ []) []
