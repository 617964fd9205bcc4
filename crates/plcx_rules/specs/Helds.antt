-- What an expression or the variable of an element holds.
use Rattle.std.specs.Prelude.{ℕ, ◌+◌, Bool, true, false, List, Option, Some, None, nat_eq, take, drop, option_map, option_and_then}
use Rattle.std.specs.List.{position_from}
use Rattle.plcx_types.specs.declared.ty.Ty.{Ty}
use Rattle.plcx_types.specs.declared.literal.Literal.{Literal}
use Rattle.plcx_types.specs.Name.{in_lower_case}
use Rattle.plcx_types.specs.ReadLiteral.{literal_of}
use Rattle.plcx_model.specs.declared.project.VarTy.{VarTy}
use Rattle.plcx_model.specs.declared.project.VarTy.TheVariants as var
use Rattle.plcx_model.specs.declared.project.Pou.{Pou}
use Rattle.plcx_rules.specs.Texts.{trimmed}
use Rattle.plcx_rules.specs.Declarations.{Declaration, declaration_named, can_be_written}
use Rattle.plcx_rules.specs.Callees.{BlockPin, outputs_of_type, pin_named}

-- a literal, a variable of an elementary type, an instance, or an output of an instance
pub data Held : Type 0 where
  OfLiteral : Literal → Held
  OfVariable : Declaration → Ty → Held
  OfInstance : Declaration → Held
  OfOutput : (instance : Declaration) → (output : BlockPin) → Held

-- what a declared name holds
abbrev pub held_by : Declaration → VarTy → Held
held_by d (var.Plain t) = OfVariable d t
held_by d (var.Std k) = OfInstance d
held_by d (var.Block place) = OfInstance d

-- what a name holds, where it is declared
abbrev pub name_held : Pou → List ℕ → Option Held
name_held p name = option_map (λ (d : Declaration). held_by d d.variable.ty) (declaration_named p name)

-- an output of an instance
abbrev pub output_held : List Pou → List ℕ → Declaration → Option Held
output_held pous output d = option_map (OfOutput d) (pin_named output (outputs_of_type pous d.variable.ty))

-- what stands before the first point is the name of an instance, and what stands behind it that of an output
abbrev pub member_held : List Pou → Pou → List ℕ → Option Held
member_held pous p text = option_and_then (λ point. option_and_then (output_held pous (drop (point + 1) text)) (declaration_named p (take point text))) (position_from (nat_eq 46) 0 text)

-- the first, or else the second
abbrev pub or_else : Option Held → Option Held → Option Held
or_else None other = other
or_else (Some h) other = Some h

-- what a text holds in a POU: a literal, or else what a name leads to, or else an output of an instance; another form or an unknown name holds nothing
unfoldable pub held_in : List Pou → Pou → List ℕ → Option Held
held_in pous p text = or_else (option_map OfLiteral (literal_of (in_lower_case text))) (or_else (name_held p text) (member_held pous p text))

-- what the text of an element holds, which is trimmed first
abbrev pub text_held : List Pou → Pou → List ℕ → Option Held
text_held pous p text = held_in pous p (trimmed text)

-- an inVariable may hold it
unfoldable pub is_value : Option Held → Bool
is_value (Some (OfLiteral l)) = true
is_value (Some (OfVariable d t)) = true
is_value (Some (OfInstance d)) = false
is_value (Some (OfOutput d o)) = true
is_value None = false

-- a contact may hold it
unfoldable pub is_operand : Option Held → Bool
is_operand (Some (OfLiteral l)) = false
is_operand (Some (OfVariable d t)) = true
is_operand (Some (OfInstance d)) = false
is_operand (Some (OfOutput d o)) = true
is_operand None = false

-- a variable that can be written
unfoldable pub is_target : Option Held → Bool
is_target (Some (OfLiteral l)) = false
is_target (Some (OfVariable d t)) = can_be_written d
is_target (Some (OfInstance d)) = false
is_target (Some (OfOutput d o)) = false
is_target None = false
