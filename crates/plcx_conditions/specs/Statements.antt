-- What is broken in a statement.
use Rattle.std.specs.Prelude.{ℕ, Bool, true, false, not, ◌&&◌, ◌||◌, nat_eq, nat_lt, List, [], ◌∷◌, ◌++◌, Option, Some, None}
use Rattle.std.specs.List.{list_any}
use Rattle.plcx_types.specs.declared.ty.Ty.{Ty}
use Rattle.plcx_types.specs.declared.ty.Ty.TheVariants as ty
use Rattle.plcx_meaning.specs.Tree.{PouText, Input, InOut, Temp}
use Rattle.plcx_meaning.specs.Layout.{Variable, Meaning, Elementary, Composed, is_constant}
use Rattle.plcx_conditions.specs.declared.broken.Condition.TheVariants.{Name, Types, Literal}
use Rattle.plcx_conditions.specs.declared.broken.Broken.{Broken}
use Rattle.plcx_conditions.specs.Broken.{broken, broken_if}
use Rattle.plcx_conditions.specs.Placed as placed
use Rattle.plcx_conditions.specs.Placed.{Word, Expression, Argument, Statement, Assign, Call, If, While, Case, Statements, no_statement, statement, Arms, no_arm, arm, bare_expression, start_of}
use Rattle.plcx_conditions.specs.Known.{same_name, is_among, is_instance, Seen, seen_in, Setting, found, type_in, differ}
use Rattle.plcx_conditions.specs.Expressions.{broken_in_expression}

-- Type: the value hasn't the type that is wanted, at its place. Nothing is said where one of both is unknown.
abbrev pub broken_in_value : Setting → Option Meaning → Expression → List Broken
broken_in_value s wanted e = broken_if (differ wanted (type_in s (bare_expression e))) Types (start_of e)

-- ---- targets

-- an input, a constant and an instance can't be stored to
abbrev pub is_target : Seen → Bool
is_target v = elim v.class [ Input ↦ false | _ ↦ not (is_constant v.mark || is_instance v.type) ]

-- Name: the target is unknown. Type: it is an input, a constant or an instance, or the value hasn't its type.
abbrev pub broken_in_assignment : Setting → Option Seen → Word → Expression → List Broken
broken_in_assignment s None x e = broken Name x.at ∷ []
broken_in_assignment s (Some v) x e = broken_if (not (is_target v)) Types x.at ++ broken_in_value s v.type e

-- ---- calls

-- a temporary can't stand for an in-out either
abbrev pub is_bindable : Seen → Bool
is_bindable v = elim v.class [ Temp ↦ false | _ ↦ is_target v ]

-- the type of a variable is known, and it is that of no value, or of another one
abbrev pub is_of_another : Option Meaning → Option Meaning → Bool
is_of_another wanted None = false
is_of_another wanted (Some (Elementary t)) = differ wanted (Some t)
is_of_another wanted (Some (Composed vs)) = false

-- the variable can't stand for an in-out of a type
abbrev pub cannot_bind : Option Meaning → Option Seen → Bool
cannot_bind wanted None = false
cannot_bind wanted (Some v) = not (is_bindable v) || is_of_another wanted v.type

-- Type: the argument of an in-out isn't a name alone, or names a temporary, an input, a constant, an instance, or a variable of another type.
abbrev pub is_unbindable : Setting → Option Meaning → Expression → Bool
is_unbindable s wanted (placed.Name x) = cannot_bind wanted (found s x.name)
is_unbindable s wanted _ = true

abbrev pub broken_in_binding : Setting → Option Meaning → Expression → List Broken
broken_in_binding s wanted e = broken_if (is_unbindable s wanted e) Types (start_of e)

-- Name: the formal name is unknown, as it is that of no input and no in-out. Type: the argument doesn't suit it.
abbrev pub broken_by_formal : Setting → Option Seen → Argument → List Broken
broken_by_formal s None a = broken Name a.formal.at ∷ []
broken_by_formal s (Some v) a = elim v.class [ Input ↦ broken_in_value s v.type a.value | InOut ↦ broken_in_binding s v.type a.value | _ ↦ broken Name a.formal.at ∷ [] ]

-- the variables of the instance that is called, where that is known
abbrev pub parts_known : Option Meaning → Option (List Variable)
parts_known None = None
parts_known (Some (Elementary t)) = None
parts_known (Some (Composed vs)) = Some vs

abbrev pub broken_in_formal : Setting → Option (List Variable) → Argument → List Broken
broken_in_formal s None a = []
broken_in_formal s (Some vs) a = broken_by_formal s (seen_in s.unit vs a.formal.name) a

-- Name: a formal is named twice in a call, at the second one.
abbrev pub broken_in_argument : Setting → Option (List Variable) → (before : List Word) → Argument → List Broken
broken_in_argument s parts before a = broken_if (is_among before a.formal) Name a.formal.at ++ (broken_in_expression s a.value ++ broken_in_formal s parts a)

abbrev pub broken_in_arguments : Setting → Option (List Variable) → (before : List Word) → List Argument → List Broken
broken_in_arguments s parts before [] = []
broken_in_arguments s parts before (a ∷ args) = broken_in_argument s parts before a ++ broken_in_arguments s parts (before ++ a.formal ∷ []) args

-- what is seen is an in-out
abbrev pub is_in_out : Option Seen → Bool
is_in_out None = false
is_in_out (Some v) = elim v.class [ InOut ↦ true | _ ↦ false ]

-- the name of that variable stands for an in-out of the instance, and no argument is for it
abbrev pub is_unbound : List PouText → List Variable → List Argument → Variable → Bool
is_unbound unit vs args v = is_in_out (seen_in unit vs v.name) && not (list_any (λ (a : Argument). same_name a.formal.name v.name) args)

-- Type: a call has no argument for an in-out of its block.
abbrev pub lacks_argument : List PouText → List Variable → List Argument → Bool
lacks_argument unit vs args = list_any (is_unbound unit vs args) vs

-- Name: what is called is no instance.
abbrev pub broken_in_instance : Setting → Option Meaning → Word → List Argument → List Broken
broken_in_instance s None i args = []
broken_in_instance s (Some (Elementary t)) i args = broken Name i.at ∷ []
broken_in_instance s (Some (Composed vs)) i args = broken_if (lacks_argument s.unit vs args) Types i.at

-- Name: what is called is unknown.
abbrev pub broken_in_call : Setting → Option Seen → Word → List Argument → List Broken
broken_in_call s None i args = broken Name i.at ∷ broken_in_arguments s None [] args
broken_in_call s (Some v) i args = broken_in_instance s v.type i args ++ broken_in_arguments s (parts_known v.type) [] args

-- ---- labels

-- Literal: a label is above 2147483647, or an earlier arm of the CASE has it.
abbrev pub broken_in_label : (before : List ℕ) → (label at : ℕ) → List Broken
broken_in_label before label at = broken_if (nat_lt 2147483647 label || list_any (nat_eq label) before) Literal at

-- ---- statements

-- an expression that has to be of this type: the condition of IF and WHILE is BOOL, the expression of CASE is DINT
abbrev pub broken_where : Setting → Ty → Expression → List Broken
broken_where s t e = broken_in_expression s e ++ broken_in_value s (Some (Elementary t)) e

abbrev mutual
  pub broken_in_statement : Setting → Statement → List Broken
  broken_in_statement s (Assign x e) = broken_in_expression s e ++ broken_in_assignment s (found s x.name) x e
  broken_in_statement s (Call i args) = broken_in_call s (found s i.name) i args
  broken_in_statement s (If e ss) = broken_where s ty.Bool e ++ broken_in_statements s ss
  broken_in_statement s (While e ss) = broken_where s ty.Bool e ++ broken_in_statements s ss
  broken_in_statement s (Case e as_) = broken_where s ty.Dint e ++ broken_in_arms s [] as_

  pub broken_in_statements : Setting → Statements → List Broken
  broken_in_statements s no_statement = []
  broken_in_statements s (statement t ss) = broken_in_statement s t ++ broken_in_statements s ss

  -- behind arms with these labels
  pub broken_in_arms : Setting → (before : List ℕ) → Arms → List Broken
  broken_in_arms s before no_arm = []
  broken_in_arms s before (arm label at ss rest) = broken_in_label before label at ++ (broken_in_statements s ss ++ broken_in_arms s (before ++ label ∷ []) rest)
