-- What a checked project is: it breaks no rule, and the links, types and plan that it comes with are its own.
use Rattle.std.specs.Prelude.{◌≡◌, ℕ, List, None}
use Rattle.std.specs.List.{AllZip}
use Rattle.plcx_model.specs.declared.plan.Links.{Links}
use Rattle.plcx_model.specs.declared.plan.Types.{Types}
use Rattle.plcx_model.specs.declared.plan.BodyPlan.{BodyPlan}
use Rattle.plcx_model.specs.declared.plan.Plan.{Plan}
use Rattle.plcx_model.specs.declared.project.Pou.{Pou}
use Rattle.plcx_model.specs.declared.project.Project.{Project}
use Rattle.plcx_model.specs.Feedback.{AreMarks}
use Rattle.plcx_model.specs.Graph.{Graph}
use Rattle.plcx_model.specs.Networks.{AreNetworks}
use Rattle.plcx_model.specs.Numbering.{body_graph}
use Rattle.plcx_model.specs.Orders.{AreOrders}
use Rattle.plcx_model.specs.Sound.{Sound}
use Rattle.plcx_rules.specs.CheckVerdict.{CheckVerdict}
use Rattle.plcx_rules.specs.Sources.{sources_in, links_of}
use Rattle.plcx_rules.specs.Typed.{HaveTypes}

-- the plan of a body: its networks, each in its order, and its marks
pub record IsBodyPlan (g : Graph) (plan : BodyPlan) : Type 0 where
  pub networks : List (List ℕ)
  pub found : AreNetworks g networks
  pub orders : AreOrders g networks plan.networks
  pub marks : AreMarks g plan.marks

-- the graph of a POU's body
abbrev pub graph_of_pou : Pou → Graph
graph_of_pou p = body_graph p.body.elements (sources_in p.body.elements)

-- a plan for each body
abbrev pub ArePlans : List Pou → List BodyPlan → Type 0
ArePlans pous plans = AllZip (λ (p : Pou) (plan : BodyPlan). IsBodyPlan (graph_of_pou p) plan) pous plans

-- a project that is checked
pub record IsChecked (project : Project) (links : Links) (types : Types) (plan : Plan) : Type 0 where
  pub sound : Sound project
  pub verdict : CheckVerdict project None
  pub linked : links.bodies ≡ links_of project.pous
  pub typed : HaveTypes project.pous links.bodies types
  pub planned : ArePlans project.pous plan.bodies
