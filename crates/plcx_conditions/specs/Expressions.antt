-- What is broken in an expression.
use Rattle.std.specs.Prelude.{ℕ, suc, Bool, true, false, not, ◌&&◌, ◌||◌, List, [], ◌∷◌, ◌++◌, Option, Some, None, is_none}
use Rattle.plcx_types.specs.declared.ty.Ty.{Ty}
use Rattle.plcx_funcs.specs.declared.func.Func.{Func}
use Rattle.plcx_funcs.specs.declared.func.Func.TheVariants as func
use Rattle.plcx_types.specs.Range.{fits}
use Rattle.plcx_funcs.specs.Names.{function_named}
use Rattle.plcx_funcs.specs.Pins.{can_have}
use Rattle.plcx_meaning.specs.Tree.{Class, Local, Input, Output, InOut, Temp}
use Rattle.plcx_meaning.specs.Layout.{Meaning, Elementary, Composed}
use Rattle.plcx_meaning.specs.Execute.{function_of}
use Rattle.plcx_meaning.specs.Typed.{is_operator, result_type, expression_types}
use Rattle.plcx_conditions.specs.declared.broken.Condition.TheVariants.{Name, Types, Literal}
use Rattle.plcx_conditions.specs.declared.broken.Broken.{Broken}
use Rattle.plcx_conditions.specs.Broken.{broken, broken_if}
use Rattle.plcx_conditions.specs.Placed as placed
use Rattle.plcx_conditions.specs.Placed.{Word, Expression, Member, Apply, Not, Binary, Expressions, no_expression, expression, bare_expressions, start_of}
use Rattle.plcx_conditions.specs.Known.{is_instance, Seen, seen_in, Setting, found, scope_in}

-- Literal: a literal lies outside its type.
abbrev pub broken_in_literal : placed.Literal → List Broken
broken_in_literal v = broken_if (not (fits v.value.ty v.value.n)) Literal v.at

-- Name: the variable is unknown. Type: it is an instance, and used as a value.
abbrev pub broken_in_name : Option Seen → Word → List Broken
broken_in_name None x = broken Name x.at ∷ []
broken_in_name (Some v) x = broken_if (is_instance v.type) Types x.at

-- a variable of that class can be read from outside of its instance
abbrev pub is_output : Class → Bool
is_output Output = true
is_output Local = false
is_output Input = false
is_output InOut = false
is_output Temp = false

-- Name: the member is unknown, or no output. Type: it is an instance, and used as a value.
abbrev pub broken_in_output : Option Seen → (instance output : Word) → List Broken
broken_in_output None i x = broken Name x.at ∷ []
broken_in_output (Some v) i x = broken_if (not (is_output v.class)) Name x.at ++ broken_if (is_instance v.type) Types i.at

-- Name: a member is read of a variable that is no instance.
abbrev pub broken_in_part : Setting → Option Meaning → (instance output : Word) → List Broken
broken_in_part s None i x = []
broken_in_part s (Some (Elementary t)) i x = broken Name i.at ∷ []
broken_in_part s (Some (Composed vs)) i x = broken_in_output (seen_in s.unit vs x.name) i x

-- Name: the instance is unknown.
abbrev pub broken_in_member : Setting → Option Seen → (instance output : Word) → List Broken
broken_in_member s None i x = broken Name i.at ∷ []
broken_in_member s (Some v) i x = broken_in_part s v.type i x

-- all types are known, and the function doesn't take them
abbrev pub refuses : Func → Option (List Ty) → Bool
refuses f None = false
refuses f (Some types) = is_none (result_type f types)

-- Name: the function is unknown; those that are written by an operator are unknown as calls. Type: it can't have so many arguments, or not of these types.
abbrev pub broken_in_call : Option Func → Word → (count : ℕ) → Option (List Ty) → List Broken
broken_in_call None f count types = broken Name f.at ∷ []
broken_in_call (Some g) f count types = broken_if (is_operator g) Name f.at ++ broken_if (not (is_operator g) && (not (can_have g count) || refuses g types)) Types f.at

abbrev pub count_of : Expressions → ℕ
count_of no_expression = 0
count_of (expression e es) = suc (count_of es)

-- the types of some expressions, where all of them are known
abbrev pub types_in : Setting → Expressions → Option (List Ty)
types_in s es = expression_types (scope_in s) (bare_expressions es)

-- Type: the operands of an operator differ in type, or its function doesn't allow their type.
abbrev pub broken_in_operator : Setting → Func → Expressions → (at : ℕ) → List Broken
broken_in_operator s f es at = broken_if (refuses f (types_in s es)) Types at

abbrev mutual
  pub broken_in_expression : Setting → Expression → List Broken
  broken_in_expression s (placed.Number v) = broken_in_literal v
  broken_in_expression s (placed.Name x) = broken_in_name (found s x.name) x
  broken_in_expression s (Member i x) = broken_in_member s (found s i.name) i x
  broken_in_expression s (Apply f es) = broken_in_expressions s es ++ broken_in_call (function_named f.name) f (count_of es) (types_in s es)
  broken_in_expression s (Not at e) = broken_in_expression s e ++ broken_in_operator s func.Not (expression e no_expression) at
  broken_in_expression s (Binary op a b) =
      broken_in_expression s a ++ (broken_in_expression s b ++ broken_in_operator s (function_of op) (expression a (expression b no_expression)) (start_of a))

  pub broken_in_expressions : Setting → Expressions → List Broken
  broken_in_expressions s no_expression = []
  broken_in_expressions s (expression e es) = broken_in_expression s e ++ broken_in_expressions s es
