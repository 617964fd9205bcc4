-- What an element may be by what it holds.
use Rattle.std.proofs.Common.{◌≡◌, Option, Some, None, option_map, refl, sym, ap, ◌∙◌}
use Rattle.plcx_rules.specs.Helds.{Held, OfLiteral, OfVariable, OfInstance, OfOutput, is_value, is_operand, is_target}
use Rattle.plcx_names.specs.declared.helds.Held as code
use Rattle.plcx_names.specs.declared.helds.Holding.{Holding}
use Rattle.plcx_names.specs.SeenHelds.{held_as}
use Rattle.plcx_names.specs.Holdings.{holding, holding_of}

-- what the code keeps is enough to tell
pub holding_is : (o : Option Held) → holding_of (option_map held_as o) ≡ holding o
unfolding held_as is_value is_operand is_target
holding_is None = refl
holding_is (Some (OfLiteral l)) = refl
holding_is (Some (OfVariable d t)) = refl
holding_is (Some (OfInstance d)) = refl
holding_is (Some (OfOutput d p)) = refl

-- what is made of what the code keeps is made of what is held
pub seen : (h : Option code.Held) (o : Option Held) (r : Holding) → h ≡ option_map held_as o → holding_of h ≡ r → r ≡ holding o
seen h o r is made = sym made ∙ (ap holding_of is ∙ holding_is o)
