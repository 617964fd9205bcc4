-- What the texts of elements name, in a diagram's words: names stand there as they are declared.
use Rattle.std.specs.Prelude.{ℕ, ℤ, Bool, List, [], Option, Some, None}
use Rattle.plcx_types.specs.declared.literal.Literal.{Literal}
use Rattle.plcx_types.specs.declared.literal.Literal.TheVariants.{Typed, Whole}
use Rattle.plcx_meaning.specs.Diagram.{Operand, Own, Output, ElementKind, Still, In}
use Rattle.plcx_model.specs.declared.project.Pou.{Pou}
use Rattle.plcx_rules.specs.Helds.{Held, OfLiteral, OfVariable, OfInstance, OfOutput, text_held}

-- the number of a literal; its type is that of the pin that it stands at
abbrev pub number_of : Literal → ℤ
number_of (Typed v) = v.n
number_of (Whole n) = n

-- the number of the literal that is held, where it is one
abbrev pub literal_by : Option Held → Option ℤ
literal_by (Some (OfLiteral l)) = Some (number_of l)
literal_by (Some (OfVariable d t)) = None
literal_by (Some (OfInstance d)) = None
literal_by (Some (OfOutput d output)) = None
literal_by None = None

-- what is read: a variable, or an output of an instance
abbrev pub operand_by : Option Held → Operand
operand_by (Some (OfLiteral l)) = Own []
operand_by (Some (OfVariable d t)) = Own d.variable.name
operand_by (Some (OfInstance d)) = Own []
operand_by (Some (OfOutput d output)) = Output d.variable.name output.name
operand_by None = Own []

-- the variable that is written
abbrev pub target_by : Option Held → List ℕ
target_by (Some (OfLiteral l)) = []
target_by (Some (OfVariable d t)) = d.variable.name
target_by (Some (OfInstance d)) = []
target_by (Some (OfOutput d output)) = []
target_by None = []

-- an inVariable: with a literal it does nothing by itself
abbrev pub reading_by : (negated : Bool) → Option Held → ElementKind
reading_by negated (Some (OfLiteral l)) = Still
reading_by negated (Some (OfVariable d t)) = In t negated (Own d.variable.name)
reading_by negated (Some (OfInstance d)) = Still
reading_by negated (Some (OfOutput d output)) = In output.ty negated (Output d.variable.name output.name)
reading_by negated None = Still

-- what a text names that is read
abbrev pub operand_of : List Pou → Pou → List ℕ → Operand
operand_of pous p text = operand_by (text_held pous p text)

-- the variable that a text names that is written
abbrev pub target_of : List Pou → Pou → List ℕ → List ℕ
target_of pous p text = target_by (text_held pous p text)
