-- The literals at pins are values of their types.
use Rattle.std.specs.Prelude.{◌≡◌, ℤ, Bool, true}
use Rattle.plcx_types.specs.declared.ty.Ty.{Ty}
use Rattle.plcx_types.specs.declared.ty.Ty.TheVariants as ty
use Rattle.plcx_types.specs.Lists.{Each}
use Rattle.plcx_types.specs.Range.{InRange}
use Rattle.plcx_meaning.specs.Diagram.{Source, Rail, Literal, Wire, Back, Link, Enable, enable_links, InputPin, ElementKind, Still, In, Out, Contact, Coil, Pass, Label, Jump, Return, Function, Call, DiagramElement}

-- a number of the type, and a truth value where it is negated
abbrev pub IsLiteral : Ty → Bool → ℤ → Type 0
IsLiteral t negated n = InRange t n × (negated ≡ true → t ≡ ty.Bool)

-- a source at a pin of this type
abbrev pub SuitsType : Ty → Source → Type 0
SuitsType t Rail = Unit {0}
SuitsType t (Literal negated n) = IsLiteral t negated n
SuitsType t (Wire id pin) = Unit {0}
SuitsType t (Back id pin) = Unit {0}

-- a link
abbrev pub HasLiterals : Link → Type 0
HasLiterals link = SuitsType link.ty link.first × Each (SuitsType link.ty) link.others

-- an input of an instance
abbrev pub InputHasLiterals : InputPin → Type 0
InputHasLiterals i = HasLiterals i.link

-- EN, where it is connected
abbrev pub EnableHasLiterals : Enable → Type 0
EnableHasLiterals enable = Each HasLiterals (enable_links enable)

-- the links of an element
abbrev pub KindHasLiterals : ElementKind → Type 0
KindHasLiterals Still = Unit {0}
KindHasLiterals (In t negated operand) = Unit {0}
KindHasLiterals (Out how x link) = HasLiterals link
KindHasLiterals (Contact how operand link) = HasLiterals link
KindHasLiterals (Coil how x link) = HasLiterals link
KindHasLiterals (Pass link) = HasLiterals link
KindHasLiterals (Label name) = Unit {0}
KindHasLiterals (Jump label link) = HasLiterals link
KindHasLiterals (Return link) = HasLiterals link
KindHasLiterals (Function f t enable inputs negated) = EnableHasLiterals enable × Each HasLiterals inputs
KindHasLiterals (Call instance enable inputs in_outs outputs) = EnableHasLiterals enable × Each InputHasLiterals inputs

-- an element
abbrev pub ElementHasLiterals : DiagramElement → Type 0
ElementHasLiterals e = KindHasLiterals e.kind
