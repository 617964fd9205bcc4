-- Which units are ready to run: each name is declared once and known, each value has the type of what it goes to, no chain of instances is too
-- long, and each literal lies in its type.
use Rattle.std.specs.Prelude.{◌≡◌, ◌≢◌, ◌≤◌, ℕ, zero, suc, Bool, true, false, ◌||◌, is_some, List, [], ◌∷◌, Option, Some, None, map, if◌then◌else◌}
use Rattle.std.specs.List.{sum_by}
use Rattle.plcx_types.specs.declared.ty.Ty.{Ty}
use Rattle.plcx_types.specs.declared.ty.Ty.TheVariants as ty
use Rattle.plcx_types.specs.Limits.{max_instance_chain, max_text_leaves}
use Rattle.plcx_types.specs.Name.{in_lower_case}
use Rattle.plcx_types.specs.Reserved.{is_listed}
use Rattle.plcx_types.specs.TypeName.{type_named}
use Rattle.plcx_std.specs.Kind.{kind_named}
use Rattle.plcx_types.specs.Lists.{Each}
use Rattle.plcx_meaning.specs.Base.{are_distinct, all_differ}
use Rattle.plcx_meaning.specs.Tree.{PouKind, Program, Local, InOut, Constant, Expression, Name, Argument, Statement, Assign, Call, If, While, Case, Statements, no_statement, statement, Arms, no_arm, arm, PouText}
use Rattle.plcx_meaning.specs.Layout.{Variable, InitialIsTyped, variables_of, World, Elementary, Composed, meaning, parts_of, Scope, is_kept}
use Rattle.plcx_meaning.specs.Execute.{Instance, referent, Formal, Takes, Binds, NoFormal, formal, all_bound, block_named, world_of, scope_of}
use Rattle.plcx_meaning.specs.Typed.{variable_in, part_in, expression_type, IsInRange, can_store, can_bind}

-- the expression has the type, and its literals lie in theirs
pub record ExpressionIsReady (c : Scope) (e : Expression) (t : Ty) : Type 0 where
  pub typed : expression_type c e ≡ Some t
  pub range : IsInRange e

-- the name means a variable of the type that passes the test
pub record TargetIsReady (c : Scope) (x : List ℕ) (t : Ty) (test : Variable → Bool) : Type 0 where
  pub variable : Variable
  pub found : variable_in c x ≡ Some variable
  pub typed : type_named variable.ty ≡ Some t
  pub passes : test variable ≡ true

-- an in-out takes a name alone
abbrev pub BindingIsReady : Scope → Expression → Ty → Type 0
BindingIsReady c (Name x) t = TargetIsReady c x t can_bind
BindingIsReady c _ t = ⊥

-- the value of an argument suits what its formal name is
abbrev pub ValueIsReady : Scope → Expression → Formal → Type 0
ValueIsReady c e (Takes t) = ExpressionIsReady c e t
ValueIsReady c e (Binds t) = BindingIsReady c e t
ValueIsReady c e NoFormal = ⊥

-- an instance is called: each formal name is known, none stands twice, and each in-out of the block has an argument
pub record CallIsReady (c : Scope) (i : List ℕ) (args : List Argument) : Type 0 where
  pub type : List ℕ
  pub instance : referent c.world (variable_in c i) ≡ Instance type
  pub distinct : are_distinct (map (λ (a : Argument). in_lower_case a.formal) args) ≡ true
  pub values : Each (λ (a : Argument). ValueIsReady c a.value (formal c.world (part_in c i a.formal))) args
  pub bound : all_bound args (parts_of c.world (variable_in c i)) ≡ true

-- the labels of the arms of a CASE, in order
abbrev pub labels : Arms → List ℕ
labels no_arm = []
labels (arm n ss rest) = n ∷ labels rest

-- a label is a number of DINT
abbrev pub IsLabel : ℕ → Type 0
IsLabel n = n ≤ 2147483647

abbrev mutual
  pub StatementIsReady : Scope → Statement → Type 0
  StatementIsReady c (Assign x e) = (t : Ty) × TargetIsReady c x t can_store × ExpressionIsReady c e t
  StatementIsReady c (Call i args) = CallIsReady c i args
  StatementIsReady c (If e ss) = ExpressionIsReady c e ty.Bool × StatementsAreReady c ss
  StatementIsReady c (While e ss) = ExpressionIsReady c e ty.Bool × StatementsAreReady c ss
  StatementIsReady c (Case e arms) = ExpressionIsReady c e ty.Dint × Each IsLabel (labels arms) × (all_differ (labels arms) ≡ true) × ArmsAreReady c arms

  pub StatementsAreReady : Scope → Statements → Type 0
  StatementsAreReady c no_statement = Unit {0}
  StatementsAreReady c (statement s ss) = StatementIsReady c s × StatementsAreReady c ss

  pub ArmsAreReady : Scope → Arms → Type 0
  ArmsAreReady c no_arm = Unit {0}
  ArmsAreReady c (arm n ss rest) = StatementsAreReady c ss × ArmsAreReady c rest

-- a type that a variable may have: an elementary one, a standard block, or a function block of the unit
abbrev pub unit_knows : List PouText → List ℕ → Bool
unit_knows unit type = is_some (type_named type) || (is_some (kind_named type) || is_some (block_named type unit))

-- a variable has a name that is free and a type that is known, and stands where its type may
pub record VariableIsReady (unit : List PouText) (kind : PouKind) (v : Variable) : Type 0 where
  pub free : is_listed v.name ≡ false
  pub known : unit_knows unit v.ty ≡ true
  pub initial : InitialIsTyped v
  -- an instance stands in a VAR that is plain or retained
  pub instance : type_named v.ty ≡ None → (v.class ≡ Local) × (v.mark ≢ Constant)
  -- a program has no in-out
  pub in_out : v.class ≡ InOut → kind ≢ Program

-- the function block of the unit that a variable is an instance of
abbrev pub user_block : List PouText → Variable → Option PouText
user_block unit v = if is_some (type_named v.ty) || is_some (kind_named v.ty) then None else block_named v.ty unit

-- a chain of instances of the unit's function blocks, each declared in the block of the one before, is at most so long
abbrev pub TextNests : ℕ → List PouText → PouText → Type 0
TextNests zero unit p = Each (λ (v : Variable). user_block unit v ≡ None) (variables_of p.blocks)
TextNests (suc n) unit p = Each (λ (v : Variable). (q : PouText) → user_block unit v ≡ Some q → TextNests n unit q) (variables_of p.blocks)

-- how many leaves and instances a variable has, itself among them
abbrev pub variable_size : (List Variable → ℕ) → World → Variable → ℕ
variable_size inner world v = if is_kept v.class then (elim (meaning world v.ty) [ Elementary t ↦ 1 | Composed vs ↦ suc (inner vs) ]) else 0

-- and all these variables, so many levels deep
abbrev pub size : ℕ → World → List Variable → ℕ
size zero world vs = 0
size (suc n) world vs = sum_by (variable_size (size n world) world) vs

-- a POU of a unit, with its variables, its body, its chains of instances, and its size
pub record PouIsReady (unit : List PouText) (p : PouText) : Type 0 where
  pub free : is_listed p.name ≡ false
  pub distinct : are_distinct (map (λ (v : Variable). in_lower_case v.name) (variables_of p.blocks)) ≡ true
  pub variables : Each (VariableIsReady unit p.kind) (variables_of p.blocks)
  pub body : Each (StatementIsReady (scope_of unit p)) p.body
  pub nests : TextNests max_instance_chain unit p
  pub small : size 18 (world_of unit) (variables_of p.blocks) ≤ max_text_leaves

-- no two POUs of a unit have one name, and each is ready
pub record IsReady (unit : List PouText) : Type 0 where
  pub distinct : are_distinct (map (λ (p : PouText). in_lower_case p.name) unit) ≡ true
  pub pous : Each (PouIsReady unit) unit
