-- What is found out about the elements of a body before the rules are tested.
use Rattle.std.specs.Prelude.{false, List, Option, Some, None}
use Rattle.plcx_model.specs.declared.body.Kind.{Kind}
use Rattle.plcx_model.specs.declared.body.Kind.TheVariants as kind
use Rattle.plcx_model.specs.declared.body.BodyElement.{BodyElement}
use Rattle.plcx_model.specs.declared.project.Pou.{Pou}
use Rattle.plcx_rules.specs.declared.callee.Callee.{Callee}
use Rattle.plcx_rules.specs.Callees.{callee_named}
use Rattle.plcx_names.specs.declared.helds.Holding.{Holding}
use Rattle.plcx_names.specs.Holdings.{text_holding}
use Rattle.plcx_link.specs.declared.body.Resolved.{Resolved}
use Rattle.plcx_link.specs.declared.body.Standing.{Standing}

-- what a block calls
unfoldable pub callee_in : List Pou → Kind → Option Callee
callee_in pous (kind.Block type_name instance inputs in_outs outputs) = callee_named pous type_name
callee_in pous _ = None

-- what the expression or variable of an element holds
unfoldable pub holding_in : List Pou → Pou → Kind → Holding
holding_in pous p (kind.Contact input text mods) = text_holding pous p text
holding_in pous p (kind.Coil input text mods) = text_holding pous p text
holding_in pous p (kind.In text mods) = text_holding pous p text
holding_in pous p (kind.Out input text mods) = text_holding pous p text
holding_in pous p _ = record { known = false; value = false; operand = false; target = false }

-- both of an element
abbrev pub resolved : List Pou → Pou → BodyElement → Resolved
resolved pous p e = record { callee = callee_in pous e.kind; holding = holding_in pous p e.kind }

-- an element, with what it calls and holds
pub record StandingIn : Type 0 where
  pub element : BodyElement
  pub resolved : Resolved

-- both of them
abbrev pub both : Option BodyElement → Option Resolved → Option StandingIn
both None r = None
both (Some e) None = None
both (Some e) (Some r) = Some (record { element = e; resolved = r })

-- an element of the code
abbrev pub shown_standing : Standing → StandingIn
shown_standing s = record { element = s.element.now; resolved = s.resolved }

-- an element of a POU's body
abbrev pub standing : List Pou → Pou → BodyElement → StandingIn
standing pous p e = record { element = e; resolved = resolved pous p e }
