-- What the code makes of what is held is what the definitions say.
use Rattle.std.proofs.Common.{◌≡◌, ℕ, Option, Some, None, option_map, refl}
use Rattle.std.specs.Option.{option_to_list}
use Rattle.plcx_types.specs.declared.literal.Literal.TheVariants as literal
use Rattle.plcx_names.specs.SeenHelds.{held_as}
use Rattle.plcx_rules.specs.Helds.{Held, OfLiteral, OfVariable, OfInstance, OfOutput}
use Rattle.plcx_rules.specs.Forms.{gives_held, value_wires}
use Rattle.plcx_typing.specs.Building.{gives_as, wire_as}

pub gives_is : (h : Option Held) → gives_as (option_map held_as h) ≡ gives_held h
unfolding held_as
gives_is (Some (OfLiteral (literal.Typed v))) = refl
gives_is (Some (OfLiteral (literal.Whole n))) = refl
gives_is (Some (OfVariable d t)) = refl
gives_is (Some (OfInstance d)) = refl
gives_is (Some (OfOutput d o)) = refl
gives_is None = refl

pub wire_is : (e : ℕ) (h : Option Held) → option_to_list (wire_as e (option_map held_as h)) ≡ value_wires e h
unfolding held_as
wire_is e (Some (OfLiteral (literal.Typed v))) = refl
wire_is e (Some (OfLiteral (literal.Whole n))) = refl
wire_is e (Some (OfVariable d t)) = refl
wire_is e (Some (OfInstance d)) = refl
wire_is e (Some (OfOutput d o)) = refl
wire_is e None = refl
