-- The links of a project, or the first rule that it breaks.
use Rattle.std.specs.Prelude.{◌≡◌, Some, None}
use Rattle.plcx_model.specs.declared.broken.Broken.{Broken}
use Rattle.plcx_model.specs.declared.broken.Place.{Place}
use Rattle.plcx_model.specs.declared.plan.Links.{Links}
use Rattle.plcx_model.specs.declared.project.Project.{Project}
use Rattle.plcx_rules.specs.declared.rule.LinkRule.{LinkRule}
use Rattle.plcx_rules.specs.CheckVerdict.{broken_at}
use Rattle.plcx_rules.specs.LinkRules.{number, LinkVerdict}
use Rattle.plcx_rules.specs.Sources.{links_of}
use Rattle.plcx_link.specs.declared.error.LinkError.{LinkError}
use Rattle.plcx_link.specs.declared.error.LinkError.TheVariants as error

-- a project breaks none of the rules from 20 to 33, and these are the sources of its input pins
pub record IsLinked (project : Project) (links : Links) : Type 0 where
  pub kept : LinkVerdict project None
  pub sources : links.bodies ≡ links_of project.pous

-- the project breaks a rule first, at this place
abbrev pub IsBroken : Project → Broken → Type 0
IsBroken project b = (r : LinkRule) × (place : Place) × (b ≡ broken_at (number r) place) × LinkVerdict project (Some (r, place))

-- why a project gives no links
abbrev pub Refuses : Project → LinkError → Type 0
Refuses project (error.Broken b) = IsBroken project b
Refuses project error.NoMemory = Unit {0}
