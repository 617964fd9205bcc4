-- What the code keeps of what is held, as the definitions see it.
use Rattle.plcx_rules.specs.Declarations.{can_be_written}
use Rattle.plcx_rules.specs.Helds.{OfLiteral, OfVariable, OfInstance, OfOutput}
use Rattle.plcx_rules.specs.Helds as rules
use Rattle.plcx_names.specs.declared.helds.Named.{Named}
use Rattle.plcx_names.specs.declared.helds.Named.TheVariants as named
use Rattle.plcx_names.specs.declared.helds.Held.{Held}
use Rattle.plcx_names.specs.declared.helds.Held.TheVariants.{Literal, Variable, Instance, Output}
use Rattle.plcx_names.specs.Seen.{shown_variable, shown_pin}

-- what a text names
abbrev pub shown_named : Named → rules.Held
shown_named (named.Literal l) = OfLiteral l
shown_named (named.Variable variable t) = OfVariable (shown_variable variable) t
shown_named (named.Instance variable) = OfInstance (shown_variable variable)
shown_named (named.Output instance output) = OfOutput (shown_variable instance) (shown_pin output)

-- what the code answers of what is held
unfoldable pub held_as : rules.Held → Held
held_as (OfLiteral l) = Literal l
held_as (OfVariable d t) = Variable t (can_be_written d)
held_as (OfInstance d) = Instance
held_as (OfOutput d p) = Output p.ty
