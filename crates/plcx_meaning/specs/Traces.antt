-- The trace of a side: after each event what it tells and what it shows, and what it retains at the end.
use Rattle.std.specs.Prelude.{ℕ, ℤ, List, [], ◌∷◌, map, filter}
use Rattle.plcx_meaning.specs.Base.{Path}
use Rattle.plcx_meaning.specs.Layout.{Leaf, declared_leaves, initial_in}
use Rattle.plcx_meaning.specs.Run.{Event, Machine, Told, Side, tells, after, begin_side}
use Rattle.plcx_meaning.specs.Diagram.{Pou, Project}
use Rattle.plcx_meaning.specs.Evaluate.{diagram_machine}
use Rattle.plcx_meaning.specs.Execute.{text_machine}
use Rattle.plcx_meaning.specs.Templates.{pou_text, unit_of}

-- what is told of an event, and the values of the shown leaves after it
pub record Line : Type 0 where
  pub told : Told
  pub values : List ℤ

-- a line by its two parts
abbrev pub line : Told → List ℤ → Line
line told values = record { told = told; values = values }

-- the lines of all events, and what is retained
pub record Trace : Type 0 where
  pub lines : List Line
  -- the values of the retained leaves at the end
  pub retained : List ℤ

-- a trace by its two parts
abbrev pub trace_of : List Line → List ℤ → Trace
trace_of lines retained = record { lines = lines; retained = retained }

-- the values of some leaves
abbrev pub values_at : {G : Type 0} → Machine G → Side G → List Leaf → List ℤ
values_at m s leaves = map (λ (leaf : Leaf). m.value s.state leaf.path) leaves

-- those of the shown leaves
abbrev pub shown_values : {G : Type 0} → Machine G → Side G → List ℤ
shown_values m s = values_at m s (filter (λ (leaf : Leaf). leaf.shown) m.layout)

-- and those of the retained leaves that are declared
abbrev pub retained_values : {G : Type 0} → Machine G → Side G → List ℤ
retained_values m s = values_at m s (filter (λ (leaf : Leaf). leaf.retained) (declared_leaves m.layout))

-- a line after each event, from a side on
abbrev pub lines_from : {G : Type 0} → Machine G → ℕ → List Event → Side G → List Line
lines_from m turns [] s = []
lines_from m turns (e ∷ es) s = line (tells m turns e s) (shown_values m (after m turns e s)) ∷ lines_from m turns es (after m turns e s)

-- the side after all events
abbrev pub side_at_end : {G : Type 0} → Machine G → ℕ → List Event → Side G → Side G
side_at_end m turns [] s = s
side_at_end m turns (e ∷ es) s = side_at_end m turns es (after m turns e s)

-- the trace of a side over events
abbrev pub trace_from : {G : Type 0} → Machine G → ℕ → List Event → Side G → Trace
trace_from m turns es s = trace_of (lines_from m turns es s) (retained_values m (side_at_end m turns es s))

-- from a retained state on
abbrev pub trace_with : {G : Type 0} → Machine G → (Path → ℤ) → ℕ → List Event → Trace
trace_with m kept turns es = trace_from m turns es (begin_side m kept)

-- from the initial values on, where no retained state is given
abbrev pub trace : {G : Type 0} → Machine G → ℕ → List Event → Trace
trace m turns es = trace_with m (initial_in m.layout) turns es

-- of a program of a project, as the diagram and as its text
abbrev pub diagram_trace : Project → Pou → ℕ → List Event → Trace
diagram_trace project p turns es = trace (diagram_machine project p) turns es

-- the trace of its text
abbrev pub text_trace : Project → Pou → ℕ → List Event → Trace
text_trace project p turns es = trace (text_machine (unit_of project) (pou_text p)) turns es
