-- The laws on the diagram of a checked project.
use Rattle.std.specs.Prelude.{◌≡◌}
use Rattle.plcx_meaning.specs.Fits.{ProjectFits}
use Rattle.plcx_model.specs.declared.plan.Links.{Links}
use Rattle.plcx_model.specs.declared.plan.Plan.{Plan}
use Rattle.plcx_model.specs.declared.plan.Types.{Types}
use Rattle.plcx_model.specs.declared.project.Project.{Project}
use Rattle.plcx_view.specs.Checked.{IsChecked}
use Rattle.plcx_view.specs.Diagrams.{diagrams_of}

-- it keeps what the meaning of diagrams presumes
abbrev pub CheckedFits : Type 0
CheckedFits = (project : Project) (links : Links) (types : Types) (plan : Plan) → IsChecked project links types plan → ProjectFits (diagrams_of project links types plan)

-- it is one, whatever links, types and plan the project comes with
abbrev pub OneDiagram : Type 0
OneDiagram = (project : Project) (links links' : Links) (types types' : Types) (plan plan' : Plan) → IsChecked project links types plan → IsChecked project links' types' plan'
    → diagrams_of project links types plan ≡ diagrams_of project links' types' plan'
