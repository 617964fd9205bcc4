-- What the side of a diagram stands for.
use Rattle.std.specs.Prelude.{◌≡◌, ℕ, nat_abs, true, List, Option, Some, is_some}
use Rattle.std.specs.List.{fold}
use Rattle.plcx_types.specs.Value.{Value}
use Rattle.plcx_meaning.specs.Diagram.{Pou, Project, program_named}
use Rattle.plcx_meaning.specs.Evaluate.{Heard, DiagramState, diagram_machine}
use Rattle.plcx_meaning.specs.Run.{Event, Machine, begin_side}
use Rattle.plcx_meaning.specs.Run.{Side as Meant}
use Rattle.plcx_meaning.specs.Watch.{heard_at}
use Rattle.plcx_state.specs.Layouts.{Laid}
use Rattle.plcx_state.specs.Retains.{kept_at}
use Rattle.plcx_stored.specs.Between.{AgreesWith}
use Rattle.plcx_stored.specs.LaidFor.{IsLaidFor}
use Rattle.plcx_view.specs.Diagrams.{diagrams_of}
use Rattle.plcx_eval.specs.Ready.{pou_at}
use Rattle.plcx_eval.specs.declared.side.DiagramSide.{DiagramSide}

-- the diagrams of its project
abbrev pub diagrams : DiagramSide → Project
diagrams s = diagrams_of s.checked.now.project s.checked.now.links s.checked.now.types s.checked.now.plan

-- its program
abbrev pub program : DiagramSide → Pou
program s = pou_at (diagrams s) s.place

-- its machine
abbrev pub machine_of : DiagramSide → Machine DiagramState
machine_of s = diagram_machine (diagrams s) (program s)

-- its leaves and memories, the values of its leaves, and the time of its last scan
abbrev pub laid_of : DiagramSide → Laid
laid_of s = s.layout

abbrev pub held_of : DiagramSide → List Value
held_of s = s.state.store.values

abbrev pub last_of : DiagramSide → ℕ
last_of s = nat_abs s.last

-- It stands for a side of the meaning that is halted where it is, had its last scan at the same time, and has the numbers of its store as its leaves
-- and memories.
pub record StandsFor (s : DiagramSide) (g : Meant DiagramState) : Type 0 where
  pub halted : g.halted ≡ s.halted
  pub last : g.last ≡ last_of s
  pub agrees : AgreesWith (diagrams s) (program s) g.state s.state.store

-- a watch has heard of an event what is heard of it at each of the sides that it stands for
abbrev pub Hears : {M : Type 0} → DiagramSide → ℕ → Event → (M → Heard → M) → M → M → Type 0
Hears s turns e tell before behind = (g : Meant DiagramState) → StandsFor s g → behind ≡ fold tell before (heard_at (diagrams s) (program s) turns e g)

-- the side is opened for a program of the project from a retained state
pub record OpensFor (p : Pou) (kept : List (Option Value)) (s : DiagramSide) : Type 0 where
  pub is : program s ≡ p
  pub machine : machine_of s ≡ diagram_machine (diagrams s) p
  pub laid : IsLaidFor (diagrams s) p (laid_of s)
  pub begins : StandsFor s (begin_side (diagram_machine (diagrams s) p) (kept_at (laid_of s).leaves kept))

-- there is a program of this name in the project, and the side is opened for it
pub record IsOpened (project : Project) (name : List ℕ) (kept : List (Option Value)) (s : DiagramSide) : Type 0 where
  pub of : diagrams s ≡ project
  pub there : is_some (program_named name project) ≡ true
  pub opens : (p : Pou) → program_named name project ≡ Some p → OpensFor p kept s
  pub time : last_of s ≡ 0
