-- Serves proofs: the rules on an element of which it is known what it calls and holds.
use Rattle.std.specs.Prelude.{ℕ, Bool, not, ◌&&◌, List, Option, Some, None, if◌then◌else◌}
use Rattle.std.specs.List.{list_any}
use Rattle.plcx_model.specs.Sound.{connections_of}
use Rattle.plcx_model.specs.declared.body.BodyElement.{BodyElement}
use Rattle.plcx_model.specs.declared.project.Pou.{Pou}
use Rattle.plcx_rules.specs.declared.rule.LinkRule.{LinkRule}
use Rattle.plcx_rules.specs.declared.rule.LinkRule.TheVariants as rule
use Rattle.plcx_rules.specs.Items.{Item}
use Rattle.plcx_rules.specs.LinkRules.{breaks, is_of_ladder}
use Rattle.plcx_link.specs.InProject.{InProject}
use Rattle.plcx_link.specs.Bodies.{StandingIn}
use Rattle.plcx_link.specs.Outputs.{calls_function}
use Rattle.plcx_link.specs.Faults.{pin_fails, doubles_by, connector_by, label_by}
use Rattle.plcx_link.specs.declared.references.PinFault.TheVariants as fault
use Rattle.plcx_link.specs.Blocks.{lacks_by, no_callee_by, instance_by, formals_by}
use Rattle.plcx_link.specs.Expressions.{expression_by, target_by, modifiers_by}

-- an element that stands at a place of a body breaks a rule
abbrev pub breaks_by : InProject → LinkRule → ℕ → StandingIn → Bool
breaks_by b rule.LocalIds place s = doubles_by b.owner.body.elements place s.element.local_id
breaks_by b rule.References place s = list_any (pin_fails b.owner.body.elements fault.NoElement) (connections_of s.element.kind)
breaks_by b rule.Outputs place s = list_any (pin_fails b.owner.body.elements fault.NoOutput) (connections_of s.element.kind)
breaks_by b rule.Several place s = not b.owner.body.ladder && list_any (pin_fails b.owner.body.elements fault.Several) (connections_of s.element.kind)
breaks_by b rule.Missing place s = lacks_by (calls_function s.resolved.callee) s.element.kind
breaks_by b rule.BlockTypes place s = no_callee_by s.resolved.callee s.element.kind
breaks_by b rule.Instances place s = instance_by b.owner s.resolved.callee s.element.kind
breaks_by b rule.Formals place s = formals_by b.pous s.resolved.callee s.element.kind
breaks_by b rule.Expressions place s = expression_by s.resolved.holding s.element.kind
breaks_by b rule.Targets place s = target_by b s.resolved.holding s.element.kind
breaks_by b rule.Connectors place s = connector_by b.owner.body.elements place s.element.kind
breaks_by b rule.Labels place s = label_by b.owner.body.elements place s.element.kind
breaks_by b rule.Modifiers place s = modifiers_by b s.element.kind
breaks_by b rule.Ladders place s = not b.owner.body.ladder && is_of_ladder s.element.kind

-- an element of a body as an item
abbrev pub item_at : ℕ → Pou → ℕ → BodyElement → Item
item_at pou owner place e = record { pou = pou; owner = owner; place = place; element = e }

-- the localId of an element, if there is one and it breaks a rule
abbrev pub broken_there : List Pou → LinkRule → ℕ → Pou → ℕ → Option BodyElement → Option ℕ
broken_there pous r pou owner place None = None
broken_there pous r pou owner place (Some e) = if breaks pous r (item_at pou owner place e) then Some e.local_id else None
