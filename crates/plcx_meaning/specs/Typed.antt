-- The types of expressions and targets, by what is declared alone.
use Rattle.std.specs.Prelude.{ℕ, Bool, true, false, not, List, [], ◌∷◌, Option, Some, None, if◌then◌else◌}
use Rattle.std.specs.Option.{option_map, option_and_then}
use Rattle.plcx_types.specs.declared.ty.Ty.{Ty}
use Rattle.plcx_types.specs.Name.{in_lower_case}
use Rattle.plcx_types.specs.Range.{InRange}
use Rattle.plcx_funcs.specs.declared.func.Func.{Func}
use Rattle.plcx_funcs.specs.declared.func.Func.TheVariants as func
use Rattle.plcx_funcs.specs.Names.{function_named}
use Rattle.plcx_meaning.specs.Tree.{Class, Input, Output, Temp, Expression, Number, Name, Member, Apply, Not, Binary, Expressions, no_expression, expression}
use Rattle.plcx_meaning.specs.Layout.{Variable, variable_named, World, Meaning, Elementary, Composed, meaning, parts_of, Scope, is_constant}
use Rattle.plcx_meaning.specs.Functions.{group_of, can_apply, out_type}
use Rattle.plcx_meaning.specs.Execute.{Referent, Temporary, Kept, Bound, Instance, Unknown, referent, function_of}

-- the variable that a name means in a POU
abbrev pub variable_in : Scope → List ℕ → Option Variable
variable_in c x = variable_named (in_lower_case x) c.own

-- and one of the instance that a name means
abbrev pub part_in : Scope → (instance part : List ℕ) → Option Variable
part_in c i x = variable_named (in_lower_case x) (parts_of c.world (variable_in c i))

-- the type of what can be read under a name
abbrev pub referent_type : Referent → Option Ty
referent_type (Temporary t) = Some t
referent_type (Kept t) = Some t
referent_type (Bound t) = Some t
referent_type (Instance type) = None
referent_type Unknown = None

-- what can be read of an instance: its outputs
abbrev pub read_type : Meaning → Class → Option Ty
read_type (Elementary t) Output = Some t
read_type (Elementary t) _ = None
read_type (Composed vs) class = None

-- the type of what is read of an instance, where that is an output
abbrev pub member_type : World → Option Variable → Option Ty
member_type world None = None
member_type world (Some v) = read_type (meaning world v.ty) v.class

-- a function that is written by an operator, and not called by its name
abbrev pub is_operator : Func → Bool
is_operator func.Add = true
is_operator func.Mul = true
is_operator func.Sub = true
is_operator func.Div = true
is_operator func.Mod = true
is_operator func.And = true
is_operator func.Or = true
is_operator func.Xor = true
is_operator func.Not = true
is_operator func.Gt = true
is_operator func.Ge = true
is_operator func.Eq = true
is_operator func.Le = true
is_operator func.Lt = true
is_operator func.Ne = true
is_operator _ = false

-- the type of what a function gives where inputs of these types fit its signature
abbrev pub type_at : Func → List Ty → Ty → Option Ty
type_at f types t = if can_apply f t types then Some (out_type f t) else None

-- the type of what a function gives for inputs of these types
abbrev pub result_type : Func → List Ty → Option Ty
result_type f types = option_and_then (type_at f types) (group_of f types)

-- and one that is called by its name, which one of an operator is not
abbrev pub call_type : Option Func → List Ty → Option Ty
call_type None types = None
call_type (Some f) types = if is_operator f then None else result_type f types

-- the type of an expression, if it has one
abbrev mutual
  pub expression_type : Scope → Expression → Option Ty
  expression_type c (Number v) = Some v.ty
  expression_type c (Name x) = referent_type (referent c.world (variable_in c x))
  expression_type c (Member i x) = member_type c.world (part_in c i x)
  expression_type c (Apply f es) = option_and_then (call_type (function_named f)) (expression_types c es)
  expression_type c (Not e) = option_and_then (λ t. result_type func.Not (t ∷ [])) (expression_type c e)
  expression_type c (Binary op a b) = option_and_then (λ t. option_and_then (λ u. result_type (function_of op) (t ∷ u ∷ [])) (expression_type c b)) (expression_type c a)

  pub expression_types : Scope → Expressions → Option (List Ty)
  expression_types c no_expression = Some []
  expression_types c (expression e es) = option_and_then (λ t. option_map (λ types. t ∷ types) (expression_types c es)) (expression_type c e)

-- each literal of an expression lies in its type
abbrev mutual
  pub IsInRange : Expression → Type 0
  IsInRange (Number v) = InRange v.ty v.n
  IsInRange (Name x) = Unit {0}
  IsInRange (Member i x) = Unit {0}
  IsInRange (Apply f es) = AreInRange es
  IsInRange (Not e) = IsInRange e
  IsInRange (Binary op a b) = IsInRange a × IsInRange b

  pub AreInRange : Expressions → Type 0
  AreInRange no_expression = Unit {0}
  AreInRange (expression e es) = IsInRange e × AreInRange es

-- a variable that statements may store to: no input and no constant
abbrev pub can_store : Variable → Bool
can_store v = elim v.class [ Input ↦ false | _ ↦ not (is_constant v.mark) ]

-- one that an in-out may stand for: no temporary either
abbrev pub can_bind : Variable → Bool
can_bind v = elim v.class [ Input ↦ false | Temp ↦ false | _ ↦ not (is_constant v.mark) ]
