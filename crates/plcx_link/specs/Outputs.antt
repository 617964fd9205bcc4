-- Serves proofs: outputs, where it is known whether a block calls a function and whether one output stands beside ENO.
use Rattle.std.specs.Prelude.{ℕ, Bool, true, false, not, ◌&&◌, ◌||◌, List, ◌++◌, map, Option, Some, None, nat_eq, codes, option_and_then, slice_get, if◌then◌else◌}
use Rattle.plcx_model.specs.declared.body.Connection.{Connection}
use Rattle.plcx_model.specs.declared.body.PinIn.{PinIn}
use Rattle.plcx_model.specs.declared.body.PinOut.{PinOut}
use Rattle.plcx_model.specs.declared.body.Kind.{Kind}
use Rattle.plcx_model.specs.declared.body.Kind.TheVariants as kind
use Rattle.plcx_model.specs.declared.body.BodyElement.{BodyElement}
use Rattle.plcx_rules.specs.declared.callee.Callee.{Callee}
use Rattle.plcx_rules.specs.declared.callee.Callee.TheVariants as callee
use Rattle.plcx_rules.specs.Texts.{same_name, is_empty}
use Rattle.plcx_rules.specs.Callees.{is_eno, result_count}
use Rattle.plcx_rules.specs.Sources.{output_named, output_place}

-- a function is called
abbrev pub calls_function : Option Callee → Bool
calls_function None = false
calls_function (Some (callee.Function f)) = true
calls_function (Some (callee.Standard k)) = false
calls_function (Some (callee.Block place)) = false

-- one output stands beside ENO
abbrev pub is_only : List PinOut → Bool
is_only outputs = nat_eq (result_count outputs) 1

-- the name that an output stands for
abbrev pub output_name_by : (function only : Bool) → PinOut → List ℕ
output_name_by function only o = if function && (not (is_eno o) && (only || is_empty o.formal)) then codes "OUT" else o.formal

-- an output has that name
abbrev pub has_name_by : (function only : Bool) → List ℕ → PinOut → Bool
has_name_by function only name o = same_name name o.formal || same_name name (output_name_by function only o)

-- the place of the output of an element that a connection names
abbrev pub output_place_by : (function : Bool) → Kind → List ℕ → Option ℕ
output_place_by function kind.Skipped name = None
output_place_by function kind.LeftRail name = Some 0
output_place_by function (kind.RightRail input) name = None
output_place_by function (kind.Contact input text mods) name = Some 0
output_place_by function (kind.Coil input text mods) name = Some 0
output_place_by function (kind.In text mods) name = Some 0
output_place_by function (kind.Out input text mods) name = None
output_place_by function (kind.Block type_name instance inputs in_outs outputs) name = output_named function outputs name
output_place_by function (kind.Connector own input) name = None
output_place_by function (kind.Continuation own) name = Some 0
output_place_by function (kind.Label own) name = None
output_place_by function (kind.Jump label input) name = None
output_place_by function (kind.Return input) name = None

-- the place of the output that a connection names of the element at a place
abbrev pub output_at : List BodyElement → List ℕ → ℕ → Option ℕ
output_at elements name place = option_and_then (λ (e : BodyElement). output_place e.kind name) (slice_get elements place)

-- the connections at the pins of a block
abbrev pub listed_pins : List PinIn → List PinIn → List (List Connection)
listed_pins inputs in_outs = map (λ (p : PinIn). p.input) inputs ++ map (λ (p : PinIn). p.input) in_outs
