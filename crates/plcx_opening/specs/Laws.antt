-- The law on what the elements of a program remember.
use Rattle.std.specs.Prelude.{◌≡◌, ℕ, List, [], Some, map, get_or, slice_get}
use Rattle.plcx_meaning.specs.Diagram as diagram
use Rattle.plcx_meaning.specs.Diagram.{DiagramElement}
use Rattle.plcx_meaning.specs.Evaluate.{scope_of}
use Rattle.plcx_meaning.specs.Layout.{is_retained}
use Rattle.plcx_model.specs.declared.plan.Links.{Links}
use Rattle.plcx_model.specs.declared.plan.Plan.{Plan}
use Rattle.plcx_model.specs.declared.plan.Types.{Types}
use Rattle.plcx_model.specs.declared.project.Pou.{Pou}
use Rattle.plcx_model.specs.declared.project.Project.{Project}
use Rattle.plcx_model.specs.Sound.{Sound}
use Rattle.plcx_state.specs.declared.layout.Memory.{Memory}
use Rattle.plcx_state.specs.Retains.{Pairwise}
use Rattle.plcx_view.specs.Diagrams.{pou_of, no_plan, diagrams_of}
use Rattle.plcx_numbered.specs.Agreeing.{Cell}
use Rattle.plcx_numbered.specs.Numbers.{depth, cells, cell_types}
use Rattle.plcx_layout.specs.Memories.{program_memories}

-- the elements of all POUs of a project
abbrev pub drawn : diagram.Project → List (List DiagramElement)
drawn project = map (λ (q : diagram.Pou). q.elements) project

-- memories stand for the cells of a program: each has the type of what is remembered there, and is retained where the instance is that it stands in
pub record AreMemoriesOf (project : diagram.Project) (p : diagram.Pou) (memories : List Memory) : Type 0 where
  pub types : map (λ (m : Memory). m.ty) memories ≡ cell_types depth project p
  pub retained : Pairwise (λ (m : Memory) (c : Cell). m.retained ≡ is_retained (scope_of project p) c.0) memories (cells depth project p)

-- what a POU of a sound project remembers by the types of the file is what its diagram does
abbrev pub MemoriesAreLaid : Type 0
MemoriesAreLaid = (project : Project) (links : Links) (types : Types) (plan : Plan) → Sound project → (i : ℕ) (p : Pou) → slice_get project.pous i ≡ Some p
    → AreMemoriesOf (diagrams_of project links types plan) (pou_of project.pous p (get_or links.bodies i []) (get_or types.inputs i []) (get_or plan.bodies i no_plan))
    (program_memories project.pous (drawn (diagrams_of project links types plan)) i)
