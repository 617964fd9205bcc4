-- What a watch hears of a rung, of a block that is called, and of scans that fault or run out of turns in a block.
use Rattle.std.specs.Prelude.{ℕ, ℤ, pos, List, [], ◌∷◌, ◌++◌, Some, None, false, codes}
use Rattle.plcx_types.specs.declared.ty.Ty.{Ty}
use Rattle.plcx_types.specs.declared.ty.Ty.TheVariants as ty
use Rattle.plcx_funcs.specs.Applied.{value}
use Rattle.plcx_meaning.specs.Tree as tree
use Rattle.plcx_meaning.specs.Layout.{Warm}
use Rattle.plcx_meaning.specs.Run.{Event, Again, begin_side}
use Rattle.plcx_meaning.specs.Diagram.{Call, Pou, Project}
use Rattle.plcx_meaning.specs.Evaluate.{Heard, diagram_machine}
use Rattle.plcx_meaning.specs.Watch.{heard_over}
use Rattle.plcx_meaning.specs.Pieces.{variable, instance_of, listed, element, main, reads, scan}
use Rattle.plcx_meaning.specs.ExampleBlocks.{fault_in_a_block_events}

-- an output of a POU's element, by the number of its wire
abbrev pub output_of : (pou id number : ℕ) → Ty → ℤ → Heard
output_of pou id number t n = record { pou = pou; id = id; number = number; value = value t n }

-- of an element with one wire
abbrev pub only : (pou id : ℕ) → Ty → ℤ → Heard
only pou id t n = output_of pou id 0 t n

-- what is heard of a program that begins without a retained state
abbrev pub heard_from_start : Project → Pou → ℕ → List Event → List Heard
heard_from_start project p turns es = heard_over project p turns es (begin_side (diagram_machine project p) (λ q. pos 0))

-- the motor: three contacts and a coil, in each of three scans
abbrev pub motor_heard : List Heard
motor_heard =
    only 0 2 ty.Bool (pos 1)
    ∷ only 0 3 ty.Bool (pos 0)
    ∷ only 0 4 ty.Bool (pos 1)
    ∷ only 0 5 ty.Bool (pos 1)
    ∷ only 0 2 ty.Bool (pos 0)
    ∷ only 0 3 ty.Bool (pos 1)
    ∷ only 0 4 ty.Bool (pos 1)
    ∷ only 0 5 ty.Bool (pos 1)
    ∷ only 0 2 ty.Bool (pos 0)
    ∷ only 0 3 ty.Bool (pos 1)
    ∷ only 0 4 ty.Bool (pos 0)
    ∷ only 0 5 ty.Bool (pos 0)
    ∷ []

-- the block under EN: what its elements give, and then ENO, which is negated, and Q; in the second scan it is not called
abbrev pub enabled_block_heard : List Heard
enabled_block_heard =
    only 0 1 ty.Bool (pos 1)
    ∷ only 0 2 ty.Int (pos 4)
    ∷ only 1 1 ty.Int (pos 4)
    ∷ only 1 2 ty.Int (pos 5)
    ∷ output_of 0 3 0 ty.Bool (pos 0)
    ∷ output_of 0 3 1 ty.Int (pos 5)
    ∷ only 0 1 ty.Bool (pos 0)
    ∷ only 0 2 ty.Int (pos 9)
    ∷ output_of 0 3 0 ty.Bool (pos 1)
    ∷ output_of 0 3 1 ty.Int (pos 5)
    ∷ []

-- a division by zero in a block, a scan that is halted, a restart, and a scan
abbrev pub fault_and_restart_events : List Event
fault_and_restart_events = fault_in_a_block_events ++ (scan 0 ((codes "I", pos 1) ∷ []) ∷ Again Warm ∷ scan 0 ((codes "I", pos 5) ∷ []) ∷ [])

-- the block stands first in the project; neither the division nor the call of its block is heard in the second scan, and nothing in the third
abbrev pub fault_and_restart_heard : List Heard
fault_and_restart_heard =
    only 1 1 ty.Int (pos 2)
    ∷ only 0 1 ty.Int (pos 2)
    ∷ only 0 2 ty.Int (pos 5)
    ∷ only 1 2 ty.Int (pos 5)
    ∷ only 1 1 ty.Int (pos 0)
    ∷ only 0 1 ty.Int (pos 0)
    ∷ only 1 1 ty.Int (pos 5)
    ∷ only 0 1 ty.Int (pos 5)
    ∷ only 0 2 ty.Int (pos 2)
    ∷ only 1 2 ty.Int (pos 2)
    ∷ []

-- a program that calls the loop, and lists its ENO
abbrev pub watched_loop : Pou
watched_loop = main
    (listed tree.Local (variable (codes "Z") ty.Int ∷ instance_of (codes "K") (codes "Loop") ∷ []) ∷ [])
    (reads 1 ty.Int (codes "Z") ∷ element 2 (Call (codes "K") (record { en = None; eno = Some false }) [] [] []) ∷ [])
    ((1 ∷ []) ∷ (2 ∷ []) ∷ [])

-- once round the loop: X before and after, and the jump's condition
abbrev pub round_heard : (before after again : ℤ) → List Heard
round_heard before after again = only 1 2 ty.Int before ∷ only 1 4 ty.Int after ∷ only 1 6 ty.Int after ∷ only 1 8 ty.Bool again ∷ only 1 9 ty.Bool again ∷ []

-- fifteen turns are enough, and ENO of the call is heard behind them
abbrev pub whole_loop_heard : List Heard
whole_loop_heard =
    only 0 1 ty.Int (pos 0)
    ∷ (round_heard (pos 0) (pos 1) (pos 1)
    ++ (round_heard (pos 1) (pos 2) (pos 1)
    ++ (round_heard (pos 2) (pos 3) (pos 1)
    ++ (round_heard (pos 3) (pos 4) (pos 1)
    ++ (round_heard (pos 4) (pos 5) (pos 0)
    ++ (only 0 2 ty.Bool (pos 1) ∷ []))))))

-- of five turns the last adds to X, and the call is not heard
abbrev pub cut_loop_heard : List Heard
cut_loop_heard = only 0 1 ty.Int (pos 0) ∷ (round_heard (pos 0) (pos 1) (pos 1) ++ (only 1 2 ty.Int (pos 1) ∷ only 1 4 ty.Int (pos 2) ∷ []))
