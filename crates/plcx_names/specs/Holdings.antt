-- What an element may be by what it holds.
use Rattle.std.specs.Prelude.{ℕ, true, false, List, Option, Some, None, is_some}
use Rattle.plcx_model.specs.declared.project.Pou.{Pou}
use Rattle.plcx_rules.specs.Helds.{text_held, is_value, is_operand, is_target}
use Rattle.plcx_rules.specs.Helds as rules
use Rattle.plcx_names.specs.declared.helds.Held.{Held}
use Rattle.plcx_names.specs.declared.helds.Held.TheVariants.{Literal, Variable, Instance, Output}
use Rattle.plcx_names.specs.declared.helds.Holding.{Holding}

-- what an element may be by what it holds, as the definitions have it
abbrev pub holding : Option rules.Held → Holding
holding o = record { known = is_some o; value = is_value o; operand = is_operand o; target = is_target o }

-- the same by what the code keeps of it
abbrev pub holding_of : Option Held → Holding
holding_of None = record { known = false; value = false; operand = false; target = false }
holding_of (Some (Literal l)) = record { known = true; value = true; operand = false; target = false }
holding_of (Some (Variable t writable)) = record { known = true; value = true; operand = true; target = writable }
holding_of (Some Instance) = record { known = true; value = false; operand = false; target = false }
holding_of (Some (Output t)) = record { known = true; value = true; operand = true; target = false }

-- what a text holds
abbrev pub text_holding : List Pou → Pou → List ℕ → Holding
text_holding pous p text = holding (text_held pous p text)
