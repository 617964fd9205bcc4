-- What the laws say, each of its subject.
use Rattle.std.specs.Prelude.{◌≡◌, ◌≢◌, ◌+◌, ℕ, ℤ, List, Some, slice_get, if◌then◌else◌}
use Rattle.std.specs.List.{Contains}
use Rattle.plcx_types.specs.Lists.{Each}
use Rattle.plcx_types.specs.Name.{in_lower_case}
use Rattle.plcx_meaning.specs.Base.{Path, Site, Stuck, Ended, then_do, spend}
use Rattle.plcx_meaning.specs.Tree.{Expression, Statement, While, Statements, PouText}
use Rattle.plcx_meaning.specs.Layout.{variables_of, initial_in, IsRetainedState}
use Rattle.plcx_meaning.specs.Run.{Input, Event, Machine, begin_side, CanFollow}
use Rattle.plcx_meaning.specs.Diagram.{Port, ports, DiagramElement, Pou, Project, program_named}
use Rattle.plcx_meaning.specs.Evaluate.{Heard, DiagramState, Wires, no_wires, elements_do, successor, at_network, jumping, DiagramSetting, DiagramCalls, with_standard, place_named, pou_does, blocks_do, diagram_machine}
use Rattle.plcx_meaning.specs.Watch.{earlier, heard_earlier}
use Rattle.plcx_meaning.specs.Execute.{TextState, Frame, TextSetting, TextCalls, with_truth, value_of, statement_runs, statements_run, list_runs, world_of, pou_runs, blocks_run, text_machine}
use Rattle.plcx_meaning.specs.Execute as text
use Rattle.plcx_meaning.specs.Templates.{wire_name, elements_text, pou_text, unit_of}
use Rattle.plcx_meaning.specs.Fits.{PouNests, ProjectFits}
use Rattle.plcx_meaning.specs.Same.{Agree, AlikeAt, IsDeclared, AgreeThroughout}
use Rattle.plcx_meaning.specs.Traces.{trace_with, diagram_trace, text_trace}
use Rattle.plcx_meaning.specs.Turns.{LeavesAtMost}

-- it holds of each program of each project that fits
abbrev pub OfPrograms : (Project → Pou → Type 0) → Type 0
OfPrograms Holds = (project : Project) → ProjectFits project → (name : List ℕ) (p : Pou) → program_named name project ≡ Some p → Holds project p

-- a program of a project as the side of its text
abbrev pub emitted_machine : Project → Pou → Machine TextState
emitted_machine project p = text_machine (unit_of project) (pou_text p)

-- for each retained state, list of events and budget: what both sides keep agrees after each event
abbrev pub StatesAgree : Project → Pou → Type 0
StatesAgree project p =
    (kept : Path → ℤ) (es : List Event) → CanFollow (diagram_machine project p) (begin_side (diagram_machine project p) kept) es → (turns : ℕ)
    → AgreeThroughout (diagram_machine project p) (emitted_machine project p) turns es (begin_side (diagram_machine project p) kept) (begin_side (emitted_machine project p) kept)

-- and the traces are the same
abbrev pub TracesAgree : Project → Pou → Type 0
TracesAgree project p =
    (kept : Path → ℤ) → IsRetainedState (diagram_machine project p).layout kept
    → (es : List Event) → CanFollow (diagram_machine project p) (begin_side (diagram_machine project p) kept) es → (turns : ℕ)
    → trace_with (diagram_machine project p) kept turns es ≡ trace_with (emitted_machine project p) kept turns es

-- also where no retained state is given, and each side begins from the initial values of its own leaves
abbrev pub StartsAgree : Project → Pou → Type 0
StartsAgree project p =
    (es : List Event) → CanFollow (diagram_machine project p) (begin_side (diagram_machine project p) (initial_in (diagram_machine project p).layout)) es → (turns : ℕ)
    → diagram_trace project p turns es ≡ text_trace project p turns es

-- a body with jumps, from a network on, is that network, which costs a turn, and the body from its successor on
abbrev pub JumpingUnfolds : List (List DiagramElement) → DiagramSetting → Type 0
JumpingUnfolds networks c = (i : ℕ) (d : DiagramState) → jumping d.left networks c i d ≡ at_network (slice_get networks i) d (λ network.
    spend d.left d (λ left.
    then_do (elements_do network c (record d { left = left }) no_wires) (λ e ws. jumping e.left networks c (successor networks network (i + 1) ws) e)))

-- a loop is its test, and where that is TRUE one turn, its statements, and the loop again
abbrev pub WhileUnfolds : TextSetting → TextCalls → Expression → Statements → Type 0
WhileUnfolds c calls e ss = (g : TextState) (f : Frame) → statement_runs (While e ss) c calls g f ≡ with_truth (value_of e c g.store f) g (λ b.
    if b then spend g.left g (λ left. then_do (statements_run ss c calls (record g { left = left }) f) (statement_runs (While e ss) c calls)) else Ended g f)

-- the standard blocks and those of a project, with so many levels of them below
abbrev pub diagram_calls : ℕ → (time : ℕ) → Project → DiagramCalls
diagram_calls n time project = with_standard time (blocks_do n time project)

-- and those of a unit
abbrev pub text_calls : ℕ → (time : ℕ) → List PouText → TextCalls
text_calls n time unit = text.with_standard time (blocks_run n time unit)

-- where the elements of a POU of a project are evaluated, with so many levels of blocks below
abbrev pub evaluated_at : ℕ → (time : ℕ) → Project → Pou → Site → DiagramSetting
evaluated_at n time project p site = record { pou = place_named p.name project; variables = variables_of p.lists; site = site; called = diagram_calls n time project }

-- where the statements of its text are run
abbrev pub run_at : Project → Pou → Site → TextSetting
run_at project p site = record { world = world_of (unit_of project); variables = variables_of (pou_text p).blocks; site = site }

-- the temporary of each output of these elements has the value of its wire
abbrev pub HoldWires : List DiagramElement → Wires → Frame → Type 0
HoldWires es ws f = Each (λ (e : DiagramElement). Each (λ (o : Port). ws e.id o.pin ≡ f (in_lower_case (wire_name e.id o.pin))) (ports e.kind)) es

-- it holds of each POU of each project that fits, with any number of levels of blocks that there may be below it, at every site and time
abbrev pub OfPous : (ℕ → (time : ℕ) → Project → Pou → Site → Type 0) → Type 0
OfPous Holds = (project : Project) → ProjectFits project → (p : Pou) → Contains project p → (n : ℕ) → PouNests n project p
    → (time : ℕ) (site : Site) → IsDeclared site → Holds n time project p site

-- From agreeing states the statements of a network do what its elements do: they end, fault or are cut alike, also within called blocks, with agreeing
-- states and so with equal budgets left, and where they end each temporary has the value of its wire.
abbrev pub NetworkAgrees : ℕ → (time : ℕ) → Project → Pou → Site → List DiagramElement → Type 0
NetworkAgrees n time project p site network = (d : DiagramState) (g : TextState) (f : Frame) → Agree d g
    → AlikeAt (HoldWires network) (elements_do network (evaluated_at n time project p site) d no_wires)
    (list_runs (elements_text network) (run_at project p site) (text_calls n time (unit_of project)) g f)

-- so of each network of a POU
abbrev pub NetworksAgree : ℕ → (time : ℕ) → Project → Pou → Site → Type 0
NetworksAgree n time project p site = Each (NetworkAgrees n time project p site) p.networks

-- so do the statements of each body, straight or with jumps, which spend the budget turn by turn
abbrev pub BodiesAgree : ℕ → (time : ℕ) → Project → Pou → Site → Type 0
BodiesAgree n time project p site = (d : DiagramState) (g : TextState) → Agree d g
    → AlikeAt (λ _ _. Unit {0}) (pou_does project (diagram_calls n time project) p site d)
    (pou_runs (pou_text p) (world_of (unit_of project)) (text_calls n time (unit_of project)) site g)

-- statements leave no more turns than there were
abbrev pub StatementsLower : TextCalls → Type 0
StatementsLower calls = (c : TextSetting) (ss : List Statement) (g : TextState) (f : Frame) → LeavesAtMost (λ h. h.left) g.left (list_runs ss c calls g f)

-- elements, in a setting, do the same whatever was heard before them
abbrev pub ElementsHear : DiagramSetting → Type 0
ElementsHear c = (es : List DiagramElement) (hs : List Heard) (d : DiagramState) (ws : Wires) → elements_do es c (earlier hs d) ws ≡ heard_earlier hs (elements_do es c d ws)

-- and so does what is called
abbrev pub CallsHear : DiagramCalls → Type 0
CallsHear calls = (type : List ℕ) (site : Site) (hs : List Heard) (d : DiagramState) → calls type site (earlier hs d) ≡ heard_earlier hs (calls type site d)

-- each scan of a program has a meaning, at every time and budget
abbrev pub NeverStuck : List PouText → PouText → Type 0
NeverStuck unit p = (turns time : ℕ) (inputs : List Input) (g : TextState) → (text_machine unit p).scan turns time inputs g ≢ Stuck
