-- What is found of the pieces of a unit.
use Rattle.std.specs.Prelude.{◌≡◌, ℕ, Bool, List, [], ◌∷◌, ◌++◌, Vec, Option, Some, None, map, nat_eq, not}
use Rattle.std.specs.Option.{option_map, option_and_then}
use Rattle.std.specs.List.{list_any}
use Rattle.std.specs.declared.alloc.Global.{Global}
use Rattle.plcx_types.specs.declared.ty.Ty.{Ty}
use Rattle.plcx_st.specs.declared.tree.PouText.{PouText}
use Rattle.plcx_st.specs.declared.tree.Arg.{Arg}
use Rattle.plcx_st.specs.declared.tree.Arm.{Arm}
use Rattle.plcx_meaning.specs.Tree.{Output}
use Rattle.plcx_meaning.specs.Layout.{Meaning, Elementary, Composed}
use Rattle.plcx_conditions.specs.First.{first_of}
use Rattle.plcx_conditions.specs.Placed as placed
use Rattle.plcx_conditions.specs.Placed.{Word, Labelled, Expression, expressions, bare_expression, start_of}
use Rattle.plcx_conditions.specs.Places.{placed_statement}
use Rattle.plcx_conditions.specs.Known.{same_name, Seen, seen_in, Setting, type_in}
use Rattle.plcx_conditions.specs.Expressions.{broken_in_expression, broken_in_expressions, types_in}
use Rattle.plcx_known.specs.declared.types.VarType.TheVariants as type
use Rattle.plcx_known.specs.Unit.{bare_of}
use Rattle.plcx_known.specs.Types.{parts_of}
use Rattle.plcx_unit.specs.declared.here.Here.{Here}
use Rattle.plcx_unit.specs.declared.pieces.Judged.{Judged}
use Rattle.plcx_unit.specs.declared.pieces.Listed.{Listed}

-- where the statements of the POU at a place stand
abbrev pub standing : List PouText → ℕ → Setting
standing pous place = record { unit = bare_of pous; own = parts_of (bare_of pous) (type.Block place) }

abbrev pub setting_of : Here → Setting
setting_of h = standing h.scope.now h.place

-- what is found of an expression: what comes first of all that is broken in it, its type, and its place
pub record IsJudged (s : Setting) (e : Expression) (j : Judged) : Type 0 where
  pub broken : j.broken ≡ first_of (broken_in_expression s e)
  pub ty : j.ty ≡ type_in s (bare_expression e)
  pub at : j.at ≡ start_of e

-- the same of several expressions
pub record AreJudged (s : Setting) (es : List Expression) (l : Listed) : Type 0 where
  pub broken : l.broken ≡ first_of (broken_in_expressions s (expressions es))
  pub types : option_map (λ (v : Vec Ty Global). v.items) l.types ≡ types_in s (expressions es)

-- ---- types of values

-- an elementary type
abbrev pub elementary_of : Option Meaning → Option Ty
elementary_of None = None
elementary_of (Some (Elementary t)) = Some t
elementary_of (Some (Composed vs)) = None

-- the type of the variable that a name leads to
abbrev pub value_type : Option Seen → Option Ty
value_type None = None
value_type (Some v) = elementary_of v.type

-- the type of an output
abbrev pub output_type : Option Seen → Option Ty
output_type None = None
output_type (Some v) = elim v.class [ Output ↦ elementary_of v.type | _ ↦ None ]

-- the type of what is read of a variable, by what its type stands for
abbrev pub part_type : Setting → Option Meaning → List ℕ → Option Ty
part_type s None x = None
part_type s (Some (Elementary t)) x = None
part_type s (Some (Composed vs)) x = output_type (seen_in s.unit vs x)

-- and by what its name leads to
abbrev pub member_value : Setting → Option Seen → List ℕ → Option Ty
member_value s None x = None
member_value s (Some v) x = part_type s v.type x

-- one type more, where all are known
abbrev pub with_type : Option (List Ty) → Option Ty → Option (List Ty)
with_type None o = None
with_type (Some ts) None = None
with_type (Some ts) (Some t) = Some (ts ++ t ∷ [])

-- the type of an operand, and of two
abbrev pub one_type : Option Ty → Option (List Ty)
one_type o = option_map (λ t. t ∷ []) o

abbrev pub two_types : (o p : Option Ty) → Option (List Ty)
two_types o p = option_and_then (λ t. option_map (λ u. t ∷ u ∷ []) p) o

-- ---- statements

-- the name that an expression is
abbrev pub name_alone : Expression → Option Word
name_alone (placed.Name x) = Some x
name_alone _ = None

-- the formal names of arguments
abbrev pub formals : List Arg → List (List ℕ)
formals args = map (λ (a : Arg). a.formal.name) args

-- an in-out has none of these names
abbrev pub is_lacking : (names : List (List ℕ)) → List ℕ → Bool
is_lacking names n = not (list_any (λ m. same_name m n) names)

-- an arm by its label
abbrev pub placed_labelled : Arm → Labelled
placed_labelled a = record { label = a.label; at = a.span.start; body = map placed_statement a.body }

-- a set has these labels
abbrev pub AreLabels : (before keys : List ℕ) → Type 0
AreLabels before keys = (n : ℕ) → list_any (nat_eq n) keys ≡ list_any (nat_eq n) before
