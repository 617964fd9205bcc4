-- Serves proofs: the rules on blocks, where it is known what they call.
use Rattle.std.specs.Prelude.{ℕ, Bool, false, not, ◌&&◌, ◌||◌, List, Option, Some, None, is_none}
use Rattle.std.specs.List.{list_any}
use Rattle.plcx_types.specs.Name.{in_lower_case}
use Rattle.plcx_model.specs.declared.body.PinIn.{PinIn}
use Rattle.plcx_model.specs.declared.body.Kind.{Kind}
use Rattle.plcx_model.specs.declared.body.Kind.TheVariants as kind
use Rattle.plcx_model.specs.declared.project.Pou.{Pou}
use Rattle.plcx_rules.specs.declared.callee.Callee.{Callee}
use Rattle.plcx_rules.specs.declared.callee.Callee.TheVariants as callee
use Rattle.plcx_rules.specs.Texts.{is_empty}
use Rattle.plcx_rules.specs.Callees.{is_instance_of}
use Rattle.plcx_rules.specs.LinkRules.{is_unconnected, has_one, formals_fail}
use Rattle.plcx_names.specs.declared.variables.Declared.{Declared}
use Rattle.plcx_names.specs.Seen.{declared_as}

-- an input that takes a connection has none, or an in-out pin not exactly one
abbrev pub lacks_by : (function : Bool) → Kind → Bool
lacks_by function kind.Skipped = false
lacks_by function kind.LeftRail = false
lacks_by function (kind.RightRail input) = false
lacks_by function (kind.Contact input text mods) = is_empty input
lacks_by function (kind.Coil input text mods) = is_empty input
lacks_by function (kind.In text mods) = false
lacks_by function (kind.Out input text mods) = is_empty input
lacks_by function (kind.Block type_name instance inputs in_outs outputs) =
    (function && list_any is_unconnected inputs) || list_any (λ (p : PinIn). not (has_one p)) in_outs
lacks_by function (kind.Connector name input) = is_empty input
lacks_by function (kind.Continuation name) = false
lacks_by function (kind.Label name) = false
lacks_by function (kind.Jump label input) = is_empty input
lacks_by function (kind.Return input) = is_empty input

-- a block's type is unknown
abbrev pub no_callee_by : Option Callee → Kind → Bool
no_callee_by c (kind.Block type_name instance inputs in_outs outputs) = is_none c
no_callee_by c _ = false

-- what a name leads to is an instance of the callee
abbrev pub leads_by : Callee → Option Declared → Bool
leads_by c None = false
leads_by c (Some d) = is_instance_of c d.ty

-- an instance is named, and is one of the callee
abbrev pub named_by : Pou → Callee → Option (List ℕ) → Bool
named_by p c None = false
named_by p c (Some name) = leads_by c (declared_as p (in_lower_case name))

-- a function has no instance, and a function block one of its type
abbrev pub suits_by : Pou → Callee → Option (List ℕ) → Bool
suits_by p (callee.Function f) instance = is_none instance
suits_by p (callee.Standard k) instance = named_by p (callee.Standard k) instance
suits_by p (callee.Block place) instance = named_by p (callee.Block place) instance

-- a block's instance doesn't suit what it calls
abbrev pub instance_by : Pou → Option Callee → Kind → Bool
instance_by p (Some c) (kind.Block type_name instance inputs in_outs outputs) = not (suits_by p c instance)
instance_by p _ _ = false

-- a block's formal parameters don't suit what it calls
abbrev pub formals_by : List Pou → Option Callee → Kind → Bool
formals_by pous c (kind.Block type_name instance inputs in_outs outputs) = formals_fail pous c inputs in_outs outputs
formals_by pous c _ = false
