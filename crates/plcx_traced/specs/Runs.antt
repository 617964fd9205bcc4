-- Runs of a program of a file: the trace that a run leaves, or why it leaves none.
use Rattle.std.specs.Prelude.{◌≡◌, ℕ, ℤ, List, Option, Some, Result, Ok, Err, length, ⊤}
use Rattle.plcx_types.specs.Lists.{Each}
use Rattle.plcx_types.specs.Value.{Value}
use Rattle.plcx_meaning.specs.Base.{Path}
use Rattle.plcx_meaning.specs.Run.{Machine, Event}
use Rattle.plcx_meaning.specs.Traces.{trace_with}
use Rattle.plcx_words.specs.Command.{Run}
use Rattle.plcx_state.specs.Layouts.{Laid, IsLaid, all_meant}
use Rattle.plcx_state.specs.Retains.{kept_at}
use Rattle.plcx_state.specs.Tables.{HasPlainNames}
use Rattle.plcx_scan.specs.Texts.{trace_bytes}
use Rattle.plcx_traced.specs.Programs.{Programs, IsChosen, IsMissing}
use Rattle.plcx_traced.specs.Files.{Begins, TellsEvents, WhyNotBegun, WhyNotFollowed}
use Rattle.plcx_traced.specs.declared.error.RunError.{RunError}
use Rattle.plcx_traced.specs.declared.error.RunError.TheVariants.{NoProgram, RetainedRead, Line, EventsRead, Row, NoMemory}

-- a run has its program, whose leaves are numbered
pub record Chosen {P G : Type 0} (ps : Programs P G) (r : Run) : Type 0 where
  pub program : P
  pub is : IsChosen ps r.program program
  pub laid : Laid
  pub is_laid : IsLaid laid
  pub leaves_are : all_meant laid.leaves ≡ (ps.machine program).layout

-- and the retained state that it begins with
pub record Begun {P G : Type 0} (told : List ℕ → Option (List ℕ)) (ps : Programs P G) (r : Run) : Type 0 where
  pub chosen : Chosen ps r
  pub kept : List (Option Value)
  pub begins : Begins told chosen.laid.leaves r.retain kept

-- the machine of its program
abbrev pub machine_of : {P G : Type 0} {told : List ℕ → Option (List ℕ)} {ps : Programs P G} {r : Run} → Begun told ps r → Machine G
machine_of {ps = ps} b = ps.machine b.chosen.program

-- and the events of its file
pub record Course {P G : Type 0} (told : List ℕ → Option (List ℕ)) (ps : Programs P G) (r : Run) : Type 0 where
  pub begun : Begun told ps r
  pub events : List Event
  pub tells : TellsEvents (told r.events) (machine_of begun).layout events

-- the retained state at which it begins, by paths
abbrev pub kept_in : {P G : Type 0} {told : List ℕ → Option (List ℕ)} {ps : Programs P G} {r : Run} → Begun told ps r → Path → ℤ
kept_in b = kept_at b.chosen.laid.leaves b.kept

-- the trace of its program as a text, from that state over these events
abbrev pub trace_left : {P G : Type 0} {told : List ℕ → Option (List ℕ)} {ps : Programs P G} {r : Run} → Course told ps r → List ℕ
trace_left {r = r} c = trace_bytes (machine_of c.begun).layout (trace_with (machine_of c.begun) (kept_in c.begun) r.turns c.events)

-- The run leaves this text, which is its trace. The names of leaves are plain, so that a printed path is that of one leaf.
pub record IsTraced {P G : Type 0} (told : List ℕ → Option (List ℕ)) (ps : Programs P G) (r : Run) (text : List ℕ) : Type 0 where
  pub course : Course told ps r
  pub plain : Each HasPlainNames course.begun.chosen.laid.leaves
  pub text_is : text ≡ trace_left course

-- Why a run leaves no trace: what comes first of a program that is missing, a retained file that can't be read or is wrong, and such a file of
-- events; want of memory at any time.
abbrev pub WhyNot : {P G : Type 0} → (List ℕ → Option (List ℕ)) → (List ℕ → Type 0) → Programs P G → Run → RunError → Type 0
WhyNot told rose ps r (NoProgram programs) = (programs ≡ length ps.all) × IsMissing ps r.program
WhyNot told rose ps r RetainedRead = (c : Chosen ps r) × WhyNotBegun told rose c.laid.leaves r.retain RetainedRead
WhyNot told rose ps r (Line line) = (c : Chosen ps r) × WhyNotBegun told rose c.laid.leaves r.retain (Line line)
WhyNot told rose ps r EventsRead = (b : Begun told ps r) × WhyNotFollowed (told r.events) (rose r.events) (machine_of b).layout EventsRead
WhyNot told rose ps r (Row row) = (b : Begun told ps r) × WhyNotFollowed (told r.events) (rose r.events) (machine_of b).layout (Row row)
WhyNot told rose ps r NoMemory = ⊤

-- what a run comes to: its trace, or why there is none
abbrev pub ComesTo : {P G : Type 0} → (List ℕ → Option (List ℕ)) → (List ℕ → Type 0) → Programs P G → Run → Result (List ℕ) RunError → Type 0
ComesTo told rose ps r (Ok text) = IsTraced told ps r text
ComesTo told rose ps r (Err e) = WhyNot told rose ps r e

-- the desk tells the files that a run reads
pub record AreTold (told : List ℕ → Option (List ℕ)) (r : Run) : Type 0 where
  pub retained : (name : List ℕ) → r.retain ≡ Some name → (bytes : List ℕ) × (told name ≡ Some bytes)
  pub events : (bytes : List ℕ) × (told r.events ≡ Some bytes)
