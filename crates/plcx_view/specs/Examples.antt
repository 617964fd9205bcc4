-- Projects whose diagrams are the worked ones.
use Rattle.std.specs.Prelude.{ℕ, true, false, pos, List, [], ◌∷◌, None, Some, codes, replicate}
use Rattle.plcx_types.specs.declared.ty.Ty.{Ty}
use Rattle.plcx_types.specs.declared.ty.Ty.TheVariants as ty
use Rattle.plcx_funcs.specs.declared.func.Func.TheVariants as func
use Rattle.plcx_std.specs.declared.kind.StdKind.TheVariants as std
use Rattle.plcx_meaning.specs.Tree as tree
use Rattle.plcx_meaning.specs.Diagram as diagram
use Rattle.plcx_meaning.specs.Pieces as worked
use Rattle.plcx_model.specs.declared.body.Edge.TheVariants as edge
use Rattle.plcx_model.specs.declared.body.Storage.TheVariants as storage
use Rattle.plcx_model.specs.declared.body.Kind.TheVariants as kind
use Rattle.plcx_model.specs.declared.project.ListClass.TheVariants as class
use Rattle.plcx_model.specs.declared.project.VarTy.TheVariants.{Plain, Std, Block}
use Rattle.plcx_model.specs.declared.project.Pou.{Pou}
use Rattle.plcx_view.specs.Pieces.{Found, plain, turned, at_edge, by_storage, to, to_pin, element, reads, writes, input, output, function, instance, variable, starting, listed, retained, main, block}

-- so many pins of one type, none of whose connections feeds back
abbrev pub all_of : ℕ → Ty → List (List ℕ) → Found
all_of n t networks = record { types = replicate n t; networks = networks; marks = replicate n false }

-- contacts and coils at edges, and coils that set and reset
abbrev pub edges_pou : Pou
edges_pou = main
    (listed class.Local
    (variable (codes "I") (Plain ty.Bool) ∷ variable (codes "F") (Plain ty.Bool) ∷ variable (codes "S") (Plain ty.Bool)
    ∷ variable (codes "U") (Plain ty.Bool) ∷ variable (codes "D") (Plain ty.Bool) ∷ [])
    ∷ [])
    (element 1 kind.LeftRail
    ∷ element 2 (kind.Contact (to 1) (codes "I") (at_edge edge.Falling))
    ∷ element 3 (kind.Coil (to 2) (codes "F") plain)
    ∷ element 4 (kind.Coil (to 2) (codes " s ") (by_storage storage.Set))
    ∷ element 5 (kind.Contact (to 1) (codes "i") plain)
    ∷ element 6 (kind.Coil (to 5) (codes "U") (at_edge edge.Rising))
    ∷ element 7 (kind.Coil (to 5) (codes "D") (at_edge edge.Falling))
    ∷ element 8 (kind.Coil (to 5) (codes "S") (by_storage storage.Reset))
    ∷ [])

abbrev pub edges_found : List Found
edges_found = all_of 7 ty.Bool ((1 ∷ 2 ∷ 3 ∷ []) ∷ (4 ∷ 5 ∷ 6 ∷ 7 ∷ []) ∷ []) ∷ []

-- a function whose EN is connected, with a negated input, a negated literal and a negated output that it doesn't name OUT
abbrev pub negated_pou : Pou
negated_pou = main
    (listed class.Local (variable (codes "E") (Plain ty.Bool) ∷ variable (codes "A") (Plain ty.Bool) ∷ variable (codes "O") (Plain ty.Bool) ∷ []) ∷ [])
    (reads 1 (codes "E")
    ∷ reads 2 (codes "A")
    ∷ element 3 (kind.In (codes "FALSE") turned)
    ∷ element 4 (kind.Block (codes "and")
    None
    (input (codes "In2") (to 3) ∷ input (codes "en") (to 1) ∷ record { formal = codes "IN1"; mods = turned; input = to 2 } ∷ [])
    []
    (record { formal = codes "Result"; mods = turned } ∷ []))
    ∷ writes 5 (codes "O") (to 4)
    ∷ [])

abbrev pub negated_found : List Found
negated_found = all_of 4 ty.Bool ((0 ∷ 1 ∷ 2 ∷ 3 ∷ 4 ∷ []) ∷ []) ∷ []

-- a conversion, whose unconnected EN counts as absent
abbrev pub converting_pou : Pou
converting_pou = main
    (listed class.Local (variable (codes "A") (Plain ty.Int) ∷ variable (codes "B") (Plain ty.Dint) ∷ []) ∷ [])
    (reads 1 (codes "A")
    ∷ element 2 (kind.Block (codes "Int_To_Dint") None (input (codes "EN") [] ∷ input (codes "IN") (to 1) ∷ []) [] (output (codes "ENO") ∷ output [] ∷ []))
    ∷ writes 3 (codes "B") (to_pin 2 (codes "out"))
    ∷ [])

abbrev pub converting_found : List Found
converting_found = record { types = ty.Bool ∷ ty.Int ∷ ty.Dint ∷ []; networks = (0 ∷ 1 ∷ 2 ∷ []) ∷ []; marks = false ∷ false ∷ [] } ∷ []

abbrev pub converting : diagram.Pou
converting = worked.main
    (worked.listed tree.Local (worked.variable (codes "A") ty.Int ∷ worked.variable (codes "B") ty.Dint ∷ []) ∷ [])
    (worked.reads 1 ty.Int (codes "A")
    ∷ worked.element 2 (diagram.Function (func.Conv ty.Int ty.Dint) ty.Int (record { en = None; eno = Some false }) (worked.link ty.Int (worked.wire 1) ∷ []) false)
    ∷ worked.writes 3 (codes "B") ty.Dint (worked.result 2)
    ∷ [])
    ((1 ∷ 2 ∷ 3 ∷ []) ∷ [])

-- a call where EN is connected and ENO is negated, of a block that adds 1
abbrev pub enabled_pou : Pou
enabled_pou = main
    (listed class.Local
    (variable (codes "E") (Plain ty.Bool) ∷ variable (codes "I") (Plain ty.Int) ∷ variable (codes "O") (Plain ty.Int) ∷ variable (codes "N") (Plain ty.Bool) ∷ [])
    ∷ retained (variable (codes "K") (Block 1) ∷ [])
    ∷ [])
    (reads 1 (codes "E")
    ∷ reads 2 (codes "I")
    ∷ instance 3 (codes "NEXT") (codes "k") (input (codes "EN") (to 1) ∷ input (codes "d") (to 2) ∷ []) [] (record { formal = codes "Eno"; mods = turned } ∷ output (codes "q") ∷ [])
    ∷ writes 4 (codes "O") (to_pin 3 (codes "Q"))
    ∷ writes 5 (codes "N") (to_pin 3 (codes "ENO"))
    ∷ [])

abbrev pub next_pou : Pou
next_pou = block (codes "Next")
    (listed class.Input (variable (codes "D") (Plain ty.Int) ∷ []) ∷ listed class.Output (variable (codes "Q") (Plain ty.Int) ∷ []) ∷ [])
    (reads 1 (codes "D")
    ∷ reads 5 (codes "1")
    ∷ function 2 (codes "ADD") (input (codes "IN1") (to 1) ∷ input (codes "IN2") (to 5) ∷ [])
    ∷ writes 3 (codes "Q") (to_pin 2 (codes "OUT"))
    ∷ [])

-- the diagram of the block: the literal stands among its elements
abbrev pub next : diagram.Pou
next = worked.block (codes "Next")
    (worked.listed tree.Input (worked.variable (codes "D") ty.Int ∷ []) ∷ worked.listed tree.Output (worked.variable (codes "Q") ty.Int ∷ []) ∷ [])
    (worked.reads 1 ty.Int (codes "D")
    ∷ worked.element 5 diagram.Still
    ∷ worked.applies 2 func.Add ty.Int (worked.wire 1) (worked.literal (pos 1))
    ∷ worked.writes 3 (codes "Q") ty.Int (worked.result 2)
    ∷ [])
    ((1 ∷ 5 ∷ 2 ∷ 3 ∷ []) ∷ [])

abbrev pub enabled_found : List Found
enabled_found =
    record { types = ty.Bool ∷ ty.Int ∷ ty.Int ∷ ty.Bool ∷ []; networks = (0 ∷ 1 ∷ 2 ∷ 3 ∷ 4 ∷ []) ∷ []; marks = replicate 4 false }
    ∷ all_of 3 ty.Int ((0 ∷ 1 ∷ 2 ∷ 3 ∷ []) ∷ [])
    ∷ []

-- an in-out, of an instance of a block that adds 1 to it
abbrev pub binds_pou : Pou
binds_pou = main
    (listed class.Local (variable (codes "X") (Plain ty.Int) ∷ variable (codes "K") (Block 1) ∷ []) ∷ [])
    (reads 1 (codes "x") ∷ instance 2 (codes "inc") (codes "K") [] (input (codes "v") (to 1) ∷ []) [] ∷ [])

abbrev pub increment_pou : Pou
increment_pou = block (codes "Inc")
    (listed class.InOut (variable (codes "V") (Plain ty.Int) ∷ []) ∷ [])
    (reads 1 (codes "V")
    ∷ reads 2 (codes "INT#1")
    ∷ function 3 (codes "ADD") (input (codes "IN1") (to 1) ∷ input (codes "IN2") (to 2) ∷ [])
    ∷ writes 4 (codes "V") (to_pin 3 (codes "OUT"))
    ∷ [])

abbrev pub binding_found : List Found
binding_found = all_of 1 ty.Int ((0 ∷ 1 ∷ []) ∷ []) ∷ all_of 3 ty.Int ((0 ∷ 1 ∷ 2 ∷ 3 ∷ []) ∷ []) ∷ []

-- two functions, of whose connections one feeds back
abbrev pub feedback_pou : Pou
feedback_pou = main
    (listed class.Local (variable (codes "S") (Plain ty.Bool) ∷ variable (codes "R") (Plain ty.Bool) ∷ variable (codes "X") (Plain ty.Bool) ∷ []) ∷ [])
    (reads 1 (codes "S")
    ∷ function 2 (codes "OR") (input (codes "IN1") (to 1) ∷ input (codes "IN2") (to_pin 3 (codes "OUT")) ∷ [])
    ∷ function 3 (codes "AND") (input (codes "IN1") (to_pin 2 (codes "OUT")) ∷ input (codes "IN2") (to 4) ∷ [])
    ∷ element 4 (kind.In (codes "R") turned)
    ∷ writes 5 (codes "X") (to_pin 3 (codes "OUT"))
    ∷ [])

abbrev pub feedback_found : List Found
feedback_found = record { types = replicate 5 ty.Bool; networks = (0 ∷ 1 ∷ 3 ∷ 2 ∷ 4 ∷ []) ∷ []; marks = false ∷ true ∷ false ∷ false ∷ false ∷ [] } ∷ []

-- a jump to a label
abbrev pub loop_pou : Pou
loop_pou = main
    (listed class.Local (variable (codes "X") (Plain ty.Int) ∷ []) ∷ [])
    (element 1 (kind.Label (codes "L"))
    ∷ reads 2 (codes "X")
    ∷ reads 3 (codes "INT#1")
    ∷ function 4 (codes "ADD") (input (codes "IN1") (to 2) ∷ input (codes "IN2") (to 3) ∷ [])
    ∷ writes 5 (codes "X") (to_pin 4 (codes "OUT"))
    ∷ reads 6 (codes "X")
    ∷ reads 7 (codes "5")
    ∷ function 8 (codes "LT") (input (codes "IN1") (to 6) ∷ input (codes "IN2") (to 7) ∷ [])
    ∷ element 9 (kind.Jump (codes "L") (to_pin 8 (codes "OUT")))
    ∷ [])

abbrev pub loop_found : List Found
loop_found = record {
  types = ty.Int ∷ ty.Int ∷ ty.Int ∷ ty.Int ∷ ty.Int ∷ ty.Bool ∷ [];
  networks = (0 ∷ []) ∷ (1 ∷ 2 ∷ 3 ∷ 4 ∷ []) ∷ (5 ∷ 6 ∷ 7 ∷ 8 ∷ []) ∷ [];
  marks = replicate 6 false;
} ∷ []

-- a return
abbrev pub returning_pou : Pou
returning_pou = main
    (listed class.Local (variable (codes "A") (Plain ty.Bool) ∷ variable (codes "X") (Plain ty.Int) ∷ []) ∷ [])
    (reads 1 (codes "A") ∷ element 2 (kind.Return (to 1)) ∷ reads 3 (codes "int#7") ∷ writes 4 (codes "X") (to 3) ∷ [])

abbrev pub returning_found : List Found
returning_found = record { types = ty.Bool ∷ ty.Int ∷ []; networks = (0 ∷ 1 ∷ []) ∷ (2 ∷ 3 ∷ []) ∷ []; marks = replicate 2 false } ∷ []

-- a standard block, which the file writes in lower case
abbrev pub two_calls_pou : Pou
two_calls_pou = main
    (listed class.Local (starting (codes "A") ty.Bool (pos 1) ∷ variable (codes "X") (Plain ty.Bool) ∷ variable (codes "Y") (Plain ty.Bool) ∷ variable (codes "B1") (Std std.Sr) ∷ []) ∷ [])
    (reads 1 (codes "A")
    ∷ instance 2 (codes "sr") (codes "b1") (input (codes "s1") (to 1) ∷ input (codes "R") [] ∷ []) [] (output (codes "q1") ∷ [])
    ∷ reads 3 (codes "FALSE")
    ∷ instance 4 (codes "SR") (codes "B1") (input (codes "S1") (to 3) ∷ input (codes "r") (to 1) ∷ []) [] (output (codes "Q1") ∷ [])
    ∷ writes 5 (codes "X") (to_pin 2 (codes "Q1"))
    ∷ writes 6 (codes "Y") (to 4)
    ∷ [])

abbrev pub two_calls_found : List Found
two_calls_found = record { types = replicate 6 ty.Bool; networks = (0 ∷ 1 ∷ 2 ∷ 3 ∷ 4 ∷ 5 ∷ []) ∷ []; marks = replicate 5 false } ∷ []

-- a connector and its continuation, and a right rail that has no pin in a diagram
abbrev pub passing_pou : Pou
passing_pou = main
    (listed class.Local (variable (codes "A") (Plain ty.Bool) ∷ variable (codes "B") (Plain ty.Bool) ∷ []) ∷ [])
    (element 1 kind.LeftRail
    ∷ element 2 (kind.Contact (to 1) (codes "A") turned)
    ∷ element 3 (kind.Connector (codes "c") (to 2))
    ∷ element 4 (kind.Continuation (codes "C"))
    ∷ element 5 (kind.Coil (to 4) (codes "B") turned)
    ∷ element 6 (kind.RightRail (to 5))
    ∷ element 7 kind.Skipped
    ∷ [])

abbrev pub passing_found : List Found
passing_found = all_of 5 ty.Bool ((1 ∷ 2 ∷ 3 ∷ 4 ∷ []) ∷ []) ∷ []

abbrev pub passing : diagram.Pou
passing = worked.main
    (worked.listed tree.Local (worked.variable (codes "A") ty.Bool ∷ worked.variable (codes "B") ty.Bool ∷ []) ∷ [])
    (worked.element 1 diagram.Still
    ∷ worked.contact 2 diagram.Closed (codes "A") (worked.link ty.Bool diagram.Rail)
    ∷ worked.element 3 (diagram.Pass (worked.link ty.Bool (worked.wire 2)))
    ∷ worked.element 4 (diagram.Pass (worked.link ty.Bool (worked.wire 3)))
    ∷ worked.coil 5 diagram.Inverted (codes "B") (worked.wire 4)
    ∷ worked.element 6 diagram.Still
    ∷ worked.element 7 diagram.Still
    ∷ [])
    ((2 ∷ 3 ∷ 4 ∷ 5 ∷ []) ∷ [])
