-- Serves proofs: the rules on expressions, targets and modifiers, where it is known what elements hold.
use Rattle.std.specs.Prelude.{ℕ, Bool, false, not, ◌&&◌, ◌||◌, List, Option, Some, None, option_map, option_and_then, slice_get}
use Rattle.std.specs.List.{list_any}
use Rattle.plcx_model.specs.declared.body.Connection.{Connection}
use Rattle.plcx_model.specs.declared.body.PinIn.{PinIn}
use Rattle.plcx_model.specs.declared.body.PinOut.{PinOut}
use Rattle.plcx_model.specs.declared.body.Kind.{Kind}
use Rattle.plcx_model.specs.declared.body.Kind.TheVariants as kind
use Rattle.plcx_rules.specs.Callees.{is_absent}
use Rattle.plcx_rules.specs.Sources.{place_of_id}
use Rattle.plcx_rules.specs.LinkRules.{is_edge, is_stored, has_more, has_any}
use Rattle.plcx_names.specs.declared.helds.Holding.{Holding}
use Rattle.plcx_link.specs.InProject.{InProject}
use Rattle.plcx_link.specs.Bodies.{StandingIn, standing}
use Rattle.plcx_link.specs.declared.expressions.LenderFault.{LenderFault}
use Rattle.plcx_link.specs.declared.expressions.LenderFault.TheVariants as fault

-- an expression isn't what may stand there, or its name is unknown
abbrev pub expression_by : Holding → Kind → Bool
expression_by h (kind.In text mods) = not h.value
expression_by h (kind.Contact input text mods) = not h.operand
expression_by h (kind.Coil input text mods) = not h.known
expression_by h (kind.Out input text mods) = not h.known
expression_by h _ = false

-- an inVariable that holds a variable which can be written
abbrev pub lends_by : Holding → Kind → Bool
lends_by h (kind.In text mods) = h.target
lends_by h _ = false

-- an inVariable with a modifier
abbrev pub is_modified_by : Kind → Bool
is_modified_by (kind.In text mods) = has_any mods
is_modified_by _ = false

-- an element has that fault
abbrev pub lender_fails : LenderFault → StandingIn → Bool
lender_fails fault.NoTarget s = not (lends_by s.resolved.holding s.element.kind)
lender_fails fault.Modified s = is_modified_by s.element.kind

-- what was found has that fault
abbrev pub fails_at : LenderFault → Option StandingIn → Bool
fails_at f None = false
fails_at f (Some s) = lender_fails f s

-- the producer of a connection has that fault
abbrev pub connection_by : InProject → LenderFault → Connection → Bool
connection_by b f c = fails_at f (option_and_then (λ (n : ℕ). option_map (standing b.pous b.owner) (slice_get b.owner.body.elements n)) (place_of_id b.owner.body.elements c.element))

-- some element that in-out pins are wired to has that fault
abbrev pub any_lender_by : InProject → LenderFault → List PinIn → Bool
any_lender_by b f in_outs = list_any (λ (p : PinIn). list_any (connection_by b f) p.input) in_outs

-- a target can't be written, or an in-out has no variable that can be
abbrev pub target_by : InProject → Holding → Kind → Bool
target_by b h (kind.Coil input text mods) = not h.target
target_by b h (kind.Out input text mods) = not h.target
target_by b h (kind.Block type_name instance inputs in_outs outputs) = any_lender_by b fault.NoTarget in_outs
target_by b h _ = false

-- a pin of a block has modifiers that it may not have
abbrev pub pins_modified : List PinIn → List PinIn → List PinOut → Bool
pins_modified inputs in_outs outputs =
    list_any (λ (p : PinIn). not (is_absent p) && has_more p.mods) inputs
    || list_any (λ (o : PinOut). has_more o.mods) outputs
    || list_any (λ (p : PinIn). has_any p.mods) in_outs

-- modifiers aren't allowed together or there
abbrev pub modifiers_by : InProject → Kind → Bool
modifiers_by b (kind.Contact input text m) = is_stored m.storage || (m.negated && is_edge m.edge)
modifiers_by b (kind.Coil input text m) = (m.negated && has_more m) || (is_edge m.edge && is_stored m.storage)
modifiers_by b (kind.In text m) = has_more m
modifiers_by b (kind.Out input text m) = is_edge m.edge || (m.negated && is_stored m.storage)
modifiers_by b (kind.Block type_name instance inputs in_outs outputs) = pins_modified inputs in_outs outputs || any_lender_by b fault.Modified in_outs
modifiers_by b _ = false
