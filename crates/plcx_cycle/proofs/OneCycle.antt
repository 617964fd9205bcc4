-- A run of tasks comes to one thing, where the desk tells its ticks and nothing fails.
use Rattle.std.proofs.Common.{◌≡◌, ◌≢◌, ℕ, List, refl, ap, ap₂, subst}
use Rattle.std.specs.Prelude.{Option, Some, Result, Ok, Err}
use Rattle.plcx_xml.specs.declared.tree.Node.{Node}
use Rattle.plcx_xml.specs.declared.tree.Node.TheOpen.{Node-F}
use Rattle.plcx_xml.specs.declared.tree.Element.{Element}
use Rattle.plcx_meaning.specs.Diagram as diagram
use Rattle.plcx_model.specs.declared.project.Project.{Project}
use Rattle.plcx_words.specs.Command.{TaskRun}
use Rattle.plcx_simulate.specs.Programs.{programs_of}
use Rattle.plcx_tasks.specs.declared.planning.TaskPlan.{TaskPlan}
use Rattle.plcx_ticked.specs.Files.{IsWrongRow}
use Rattle.plcx_ticked.specs.Cycles.{AreOwned, Cycles}
use Rattle.plcx_ticked.proofs.OneTicked.{one_text, one_row, no_row}
use Rattle.plcx_plan.specs.declared.condition.TaskKind.{TaskKind}
use Rattle.plcx_plan.specs.Plans.{StandsForPlan, IsFaultOf}
use Rattle.plcx_cycle.specs.Cycles.{IsPlanned, ComesTo}
use Rattle.plcx_cycle.specs.declared.error.CycleError.{CycleError}
use Rattle.plcx_cycle.specs.declared.error.CycleError.TheVariants.{Tasks, TicksRead, Row, NoMemory}

-- a tree has one plan
abbrev pub OnePlan : Type 0
OnePlan = (root : Node-F Node Element) (project : Project) (a b : TaskPlan) → StandsForPlan root project a → StandsForPlan root project b → a ≡ b

-- or one fault
abbrev pub OneFault : Type 0
OneFault = (root : Node-F Node Element) (project : Project) (k j : TaskKind) (at by : ℕ) → IsFaultOf root project k at → IsFaultOf root project j by → (k ≡ j) × (at ≡ by)

-- and not both
abbrev pub NoPlan : Type 0
NoPlan = (root : Node-F Node Element) (project : Project) (k : TaskKind) (at : ℕ) (plan : TaskPlan) → IsFaultOf root project k at → StandsForPlan root project plan → ⊥

module _ (one_plan : OnePlan) (one_fault : OneFault) (no_plan : NoPlan) (root : Node-F Node Element) (project : Project) (diagrams : diagram.Project) (told : List ℕ → Option (List ℕ)) (r : TaskRun) (bytes : List ℕ) (is : told r.ticks ≡ Some bytes) where
  rows_same : (p q : IsPlanned root project diagrams) (m n : ℕ) → IsWrongRow (told r.ticks) p.plan p.lays m → IsWrongRow (told r.ticks) q.plan q.lays n → m ≡ n
  rows_same p q m n h k =
      let same = one_plan root project p.plan q.plan p.is q.is in
      one_row (programs_of diagrams) (told r.ticks) bytes is r.turns q.plan p.lays q.lays (subst (λ (z : TaskPlan). AreOwned (programs_of diagrams) z p.lays) same p.owned) q.owned m n
      (subst (λ (z : TaskPlan). IsWrongRow (told r.ticks) z p.lays m) same h) k

  text_no_row : (plan : TaskPlan) (text : List ℕ) → StandsForPlan root project plan → Cycles (told r.ticks) (programs_of diagrams) r.turns plan text → (q : IsPlanned root project diagrams) (n : ℕ) → IsWrongRow (told r.ticks) q.plan q.lays n → ⊥
  text_no_row plan text stands h q n k =
      let same = one_plan root project plan q.plan stands q.is in
      no_row (programs_of diagrams) (told r.ticks) bytes is r.turns q.plan text (subst (λ (z : TaskPlan). Cycles (told r.ticks) (programs_of diagrams) r.turns z text) same h) q.lays q.owned n k

  pub one_cycle : (x y : Result (List ℕ) CycleError) → x ≢ Err NoMemory → y ≢ Err NoMemory → ComesTo told ⊥ root project diagrams r x → ComesTo told ⊥ root project diagrams r y → x ≡ y
  one_cycle (Err NoMemory) y nx ny h k = absurd (nx refl)
  one_cycle (Ok a) (Err NoMemory) nx ny h k = absurd (ny refl)
  one_cycle (Err (Tasks i m)) (Err NoMemory) nx ny h k = absurd (ny refl)
  one_cycle (Err TicksRead) y nx ny h k = absurd h.1
  one_cycle (Err (Row m)) (Err NoMemory) nx ny h k = absurd (ny refl)
  one_cycle (Ok a) (Ok b) nx ny h k =
      let same = one_plan root project h.plan k.plan h.is k.is in
      ap Ok (one_text (programs_of diagrams) (told r.ticks) bytes is r.turns k.plan a b (subst (λ (z : TaskPlan). Cycles (told r.ticks) (programs_of diagrams) r.turns z a) same h.cycles) k.cycles)
  one_cycle (Ok a) (Err (Tasks j n)) nx ny h k = absurd (no_plan root project j n h.plan k h.is)
  one_cycle (Ok a) (Err TicksRead) nx ny h k = absurd k.1
  one_cycle (Ok a) (Err (Row n)) nx ny h k = absurd (text_no_row h.plan a h.is h.cycles k.0 n k.1)
  one_cycle (Err (Tasks i m)) (Ok b) nx ny h k = absurd (no_plan root project i m k.plan h k.is)
  one_cycle (Err (Tasks i m)) (Err (Tasks j n)) nx ny h k = let same = one_fault root project i j m n h k in ap₂ (λ a b. Err (Tasks a b)) same.0 same.1
  one_cycle (Err (Tasks i m)) (Err TicksRead) nx ny h k = absurd k.1
  one_cycle (Err (Tasks i m)) (Err (Row n)) nx ny h k = absurd (no_plan root project i m k.0.plan h k.0.is)
  one_cycle (Err (Row m)) (Ok b) nx ny h k = absurd (text_no_row k.plan b k.is k.cycles h.0 m h.1)
  one_cycle (Err (Row m)) (Err (Tasks j n)) nx ny h k = absurd (no_plan root project j n h.0.plan k h.0.is)
  one_cycle (Err (Row m)) (Err TicksRead) nx ny h k = absurd k.1
  one_cycle (Err (Row m)) (Err (Row n)) nx ny h k = ap (λ z. Err (Row z)) (rows_same h.0 k.0 m n h.1 k.1)
