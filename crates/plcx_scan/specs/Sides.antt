-- What a side does and shows, where it stands for sides of a machine of the meaning.
use Rattle.std.specs.Prelude.{◌≡◌, ◌≤◌, ℕ, List, length, take}
use Rattle.plcx_types.specs.Value.{Value}
use Rattle.plcx_meaning.specs.Base as base
use Rattle.plcx_meaning.specs.Run as meant
use Rattle.plcx_meaning.specs.Run.{Machine, Told, TheEnd, Halted, Restarted, TheStop, tells, after}
use Rattle.plcx_meaning.specs.Traces.{Line, line, shown_values, lines_from, side_at_end}
use Rattle.plcx_state.specs.declared.layout.Leaf.{Leaf}
use Rattle.plcx_state.specs.Retains.{numbers, Agrees}
use Rattle.plcx_scan.specs.declared.side.Outcome.{Outcome}
use Rattle.plcx_scan.specs.declared.side.Outcome.TheVariants as outcome

-- an outcome in the words of the meaning
abbrev pub told : Outcome → Told
told outcome.Ended = TheEnd
told (outcome.Fault fault) = TheStop (base.Faulted fault)
told outcome.OutOfTurns = TheStop base.OutOfTurns
told outcome.Halted = Halted
told outcome.Restarted = Restarted

-- the value has the leaf's type
abbrev pub HasTypeOf : Leaf → Value → Type 0
HasTypeOf leaf v = v.ty ≡ leaf.ty

-- the event has this outcome at each of the sides
abbrev pub Tells : {G : Type 0} → Machine G → ℕ → meant.Event → (meant.Side G → Type 0) → Outcome → Type 0
Tells {G} m turns e Stands outcome = (g : meant.Side G) → Stands g → tells m turns e g ≡ told outcome

-- the event leads from each of the old sides to a new one
abbrev pub Brings : {G : Type 0} → Machine G → ℕ → meant.Event → (meant.Side G → Type 0) → (meant.Side G → Type 0) → Type 0
Brings {G} m turns e Old New = (g : meant.Side G) → Old g → New (after m turns e g)

-- and so do events, one after another
abbrev pub BringsAll : {G : Type 0} → Machine G → ℕ → List meant.Event → (meant.Side G → Type 0) → (meant.Side G → Type 0) → Type 0
BringsAll {G} m turns es Old New = (g : meant.Side G) → Old g → New (side_at_end m turns es g)

-- the values are those that each of the sides shows of the leaves
abbrev pub Shows : {G : Type 0} → Machine G → List Leaf → (meant.Side G → Type 0) → List Value → Type 0
Shows {G} m leaves Stands values = (g : meant.Side G) → Stands g → Agrees leaves (m.value g.state) (numbers values)

-- and so does a front of them
abbrev pub BringsSome : {G : Type 0} → Machine G → ℕ → List meant.Event → (meant.Side G → Type 0) → (meant.Side G → Type 0) → Type 0
BringsSome m turns es Old New = (count : ℕ) × (count ≤ length es) × BringsAll m turns (take count es) Old New

-- the line is that of the event at each of the sides: what is told, and what is shown after it
abbrev pub HasLine : {G : Type 0} → Machine G → ℕ → meant.Event → (meant.Side G → Type 0) → Line → Type 0
HasLine {G} m turns e Stands l = (g : meant.Side G) → Stands g → l ≡ line (tells m turns e g) (shown_values m (after m turns e g))

-- and so are lines those of events, one after another
abbrev pub HasLines : {G : Type 0} → Machine G → ℕ → List meant.Event → (meant.Side G → Type 0) → List Line → Type 0
HasLines {G} m turns es Stands lines = (g : meant.Side G) → Stands g → lines ≡ lines_from m turns es g
