-- The laws on the leaves of a program.
use Rattle.std.specs.Prelude.{◌≡◌, ◌<◌, ◌^◌, ℕ, List, [], Some, length, get_or, slice_get}
use Rattle.plcx_meaning.specs.Evaluate.{scope_of}
use Rattle.plcx_types.specs.Lists.{Each}
use Rattle.plcx_meaning.specs.Layout.{IsLayout, layout}
use Rattle.plcx_model.specs.declared.plan.Links.{Links}
use Rattle.plcx_model.specs.declared.plan.Plan.{Plan}
use Rattle.plcx_model.specs.declared.plan.Types.{Types}
use Rattle.plcx_model.specs.declared.project.Pou.{Pou}
use Rattle.plcx_model.specs.declared.project.Project.{Project}
use Rattle.plcx_model.specs.Sound.{Sound}
use Rattle.plcx_state.specs.declared.layout.Leaf.{Leaf}
use Rattle.plcx_state.specs.Layouts.{all_meant, HasName, LiesOutside}
use Rattle.plcx_view.specs.Checked.{IsChecked}
use Rattle.plcx_view.specs.Diagrams.{pou_of, no_plan, diagrams_of}
use Rattle.plcx_layout.specs.Leaves.{program_leaves}

-- the leaves of a POU of a sound project are the layout of its diagram
abbrev pub LeavesAreLaid : Type 0
LeavesAreLaid = (project : Project) (links : Links) (types : Types) (plan : Plan) → Sound project → (i : ℕ) (p : Pou) → slice_get project.pous i ≡ Some p
    → program_leaves project.pous p
    ≡ layout (scope_of (diagrams_of project links types plan) (pou_of project.pous p (get_or links.bodies i []) (get_or types.inputs i []) (get_or plan.bodies i no_plan)))

-- leaves that are those of a POU of a checked project can be laid out: they have names, paths of their own, and numbers of 32 bits
abbrev pub LeavesStand : Type 0
LeavesStand = (project : Project) (links : Links) (types : Types) (plan : Plan) → IsChecked project links types plan → (i : ℕ) (p : Pou) → slice_get project.pous i ≡ Some p
    → (ls : List Leaf) → all_meant ls ≡ program_leaves project.pous p
    → Each HasName ls × IsLayout (all_meant ls) × Each LiesOutside ls × (length ls < 2 ^ 32)
