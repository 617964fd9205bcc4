-- What a text does in a scan. Nothing here knows of diagrams.
use Rattle.std.specs.Prelude.{ℕ, zero, suc, ℤ, pos, negsuc, Bool, true, false, not, ◌&&◌, List, [], ◌∷◌, Option, Some, None, nat_eq, if◌then◌else◌}
use Rattle.std.specs.List.{list_any, list_all}
use Rattle.std.specs.Str.{bytes_eq}
use Rattle.plcx_types.specs.declared.ty.Ty.{Ty}
use Rattle.plcx_types.specs.declared.ty.Ty.TheVariants as ty
use Rattle.plcx_types.specs.Name.{in_lower_case}
use Rattle.plcx_types.specs.TypeName.{same_ty}
use Rattle.plcx_types.specs.Value.{Value}
use Rattle.plcx_std.specs.Kind.{kind_named}
use Rattle.plcx_funcs.specs.declared.func.Func.{Func}
use Rattle.plcx_funcs.specs.declared.func.Func.TheVariants as func
use Rattle.plcx_funcs.specs.Names.{function_named}
use Rattle.plcx_funcs.specs.Applied.{value}
use Rattle.plcx_meaning.specs.Base.{Path, is_true, put, Faulted, OutOfTurns, Outcome, Ended, Stopped, Stuck, then_do, spend, found, Site, top}
use Rattle.plcx_meaning.specs.Tree.{Class, Local, Input, Output, InOut, Temp, Operator, Or, Xor, And, Equal, NotEqual, Less, Greater, LessOrEqual, GreaterOrEqual, Plus, Minus, Times, Divide, Mod, Expression, Number, Name, Member, Apply, Not, Binary, Expressions, no_expression, expression, Argument, Statement, Assign, Call, If, While, Case, Statements, no_statement, statement, Arms, no_arm, arm, is_program, PouText}
use Rattle.plcx_meaning.specs.Layout.{Variable, variables_of, variable_named, initial_of, World, Meaning, Elementary, Composed, meaning, parts_of, Scope, layout, begun, restarted}
use Rattle.plcx_meaning.specs.Standard.{called}
use Rattle.plcx_meaning.specs.Functions.{Answer, Given, Faulty, Missing, on_value, call_function, call_named}
use Rattle.plcx_meaning.specs.Run.{put_inputs, Machine}

-- what a name means: a temporary, a variable or an in-out of a type, or an instance of the type of a name
pub data Referent : Type 0 where
  Temporary Kept Bound : Ty → Referent
  Instance : (type : List ℕ) → Referent
  Unknown : Referent

-- a variable of an elementary type, by its class
abbrev pub elementary : Class → Ty → Referent
elementary Local t = Kept t
elementary Input t = Kept t
elementary Output t = Kept t
elementary InOut t = Bound t
elementary Temp t = Temporary t

-- what a variable is, by what its type stands for
abbrev pub referent_by : Meaning → Class → List ℕ → Referent
referent_by (Elementary t) class type = elementary class t
referent_by (Composed vs) class type = Instance type

-- what a variable is; Unknown where there is none
abbrev pub referent : World → Option Variable → Referent
referent world None = Unknown
referent world (Some v) = referent_by (meaning world v.ty) v.class v.ty

-- where a statement stands: what types stand for, the variables of its POU, and its instance
pub record TextSetting : Type 0 where
  pub world : World
  pub variables : List Variable
  pub site : Site

-- what a name means where a statement stands
abbrev pub referent_of : TextSetting → List ℕ → Referent
referent_of c x = referent c.world (variable_named (in_lower_case x) c.variables)

-- what a scan changes: the leaves, those of memories among them, and the turns that are left
pub record TextState : Type 0 where
  pub store : Path → ℤ
  pub left : ℕ

-- the temporaries of one call, by their names without case
abbrev pub Frame : Type 0
Frame = List ℕ → ℤ

-- each temporary begins with its initial value, else with its default
abbrev pub fresh : List Variable → Frame
fresh vs key = initial_of (variable_named key vs)

-- a temporary gets a value
abbrev pub hold : Frame → List ℕ → ℤ → Frame
hold f x v key = if bytes_eq key (in_lower_case x) then v else f key

-- what follows a value; a fault stops the scan, and without a meaning there is no step
abbrev pub with_value : {A L : Type 0} → Answer A → TextState → (A → Outcome TextState L) → Outcome TextState L
with_value (Given x) g go = go x
with_value (Faulty fault) g go = Stopped (Faulted fault) g
with_value Missing g go = Stuck

-- a condition is a truth value, else there is no step
abbrev pub with_truth : {L : Type 0} → Answer Value → TextState → (Bool → Outcome TextState L) → Outcome TextState L
with_truth a g go = with_value a g (λ v. if same_ty v.ty ty.Bool then go (is_true v.n) else Stuck)

-- the leaf that a name stands for, where it stands for one
abbrev pub leaf_at : Referent → List ℕ → Site → Path
leaf_at (Kept t) x site = in_lower_case x ∷ site.path
leaf_at (Bound t) x site = site.bound (in_lower_case x)
leaf_at (Temporary t) x site = []
leaf_at (Instance type) x site = []
leaf_at Unknown x site = []

-- the value that a name has, with its declared type
abbrev pub read : Referent → List ℕ → Site → (Path → ℤ) → Frame → Answer Value
read (Kept t) x site s f = Given (value t (s (in_lower_case x ∷ site.path)))
read (Bound t) x site s f = Given (value t (s (site.bound (in_lower_case x))))
read (Temporary t) x site s f = Given (value t (f (in_lower_case x)))
read (Instance type) x site s f = Missing
read Unknown x site s f = Missing

-- the variables of the instance of a name
abbrev pub parts_named : TextSetting → List ℕ → List Variable
parts_named c i = parts_of c.world (variable_named (in_lower_case i) c.variables)

-- what can be read from outside of an instance: an output of an elementary type
abbrev pub read_member : Meaning → Class → Path → (Path → ℤ) → Answer Value
read_member (Elementary t) Output p s = Given (value t (s p))
read_member (Elementary t) _ p s = Missing
read_member (Composed vs) class p s = Missing

-- an output of an instance, where it is one, at the path
abbrev pub read_output : World → Option Variable → Path → (Path → ℤ) → Answer Value
read_output world None p s = Missing
read_output world (Some v) p s = read_member (meaning world v.ty) v.class p s

-- the function of an operator
abbrev pub function_of : Operator → Func
function_of Or = func.Or
function_of Xor = func.Xor
function_of And = func.And
function_of Equal = func.Eq
function_of NotEqual = func.Ne
function_of Less = func.Lt
function_of Greater = func.Gt
function_of LessOrEqual = func.Le
function_of GreaterOrEqual = func.Ge
function_of Plus = func.Add
function_of Minus = func.Sub
function_of Times = func.Mul
function_of Divide = func.Div
function_of Mod = func.Mod

-- all operands are evaluated, from the left
abbrev mutual
  -- the value of an expression
  pub value_of : Expression → TextSetting → (Path → ℤ) → Frame → Answer Value
  value_of (Number v) c s f = Given v
  value_of (Name x) c s f = read (referent_of c x) x c.site s f
  value_of (Member i x) c s f = read_output c.world (variable_named (in_lower_case x) (parts_named c i)) (in_lower_case x ∷ in_lower_case i ∷ c.site.path) s
  value_of (Apply x es) c s f = on_value (values_of es c s f) (call_named (function_named x))
  value_of (Not e) c s f = on_value (value_of e c s f) (λ v. call_function func.Not (v ∷ []))
  value_of (Binary op a b) c s f = on_value (value_of a c s f) (λ v. on_value (value_of b c s f) (λ w. call_function (function_of op) (v ∷ w ∷ [])))

  -- the values of several expressions, from the first on
  pub values_of : Expressions → TextSetting → (Path → ℤ) → Frame → Answer (List Value)
  values_of no_expression c s f = Given []
  values_of (expression e es) c s f = on_value (value_of e c s f) (λ v. on_value (values_of es c s f) (λ vs. Given (v ∷ vs)))

-- a value goes to a place of its type
abbrev pub assign : Referent → List ℕ → Site → Value → TextState → Frame → Outcome TextState Frame
assign (Kept t) x site v g f = if same_ty v.ty t then Ended (record g { store = put g.store (in_lower_case x ∷ site.path) v.n }) f else Stuck
assign (Bound t) x site v g f = if same_ty v.ty t then Ended (record g { store = put g.store (site.bound (in_lower_case x)) v.n }) f else Stuck
assign (Temporary t) x site v g f = if same_ty v.ty t then Ended g (hold f x v.n) else Stuck
assign (Instance type) x site v g f = Stuck
assign Unknown x site v g f = Stuck

-- what a formal name of a call is: an input or an in-out of a type
pub data Formal : Type 0 where
  Takes Binds : Ty → Formal
  NoFormal : Formal

-- what a variable is as a formal name, by what its type stands for and its class
abbrev pub formal_by : Meaning → Class → Formal
formal_by (Elementary t) Input = Takes t
formal_by (Elementary t) InOut = Binds t
formal_by (Elementary t) _ = NoFormal
formal_by (Composed vs) class = NoFormal

-- what a variable of the instance is as a formal name; none where there is no variable
abbrev pub formal : World → Option Variable → Formal
formal world None = NoFormal
formal world (Some v) = formal_by (meaning world v.ty) v.class

-- what a formal name of a call of this instance is
abbrev pub formal_named : TextSetting → List ℕ → List ℕ → Formal
formal_named c i x = formal c.world (variable_named (in_lower_case x) (parts_named c i))

-- a variable of this type with a leaf, its own or one that it is bound to
abbrev pub has_leaf : Referent → Ty → Bool
has_leaf (Kept u) t = same_ty u t
has_leaf (Bound u) t = same_ty u t
has_leaf (Temporary u) t = false
has_leaf (Instance type) t = false
has_leaf Unknown t = false

-- what an expression means as the variable for an in-out: it is a name
abbrev pub referent_in : TextSetting → Expression → Referent
referent_in c (Name x) = referent_of c x
referent_in c _ = Unknown

-- An input gets the value of its argument, and an in-out is bound to a variable of its type. All values are taken in the state before the call.
abbrev pub store_argument : Formal → Argument → TextSetting → Path → TextState → Frame → TextState → (TextState → Outcome TextState Frame) → Outcome TextState Frame
store_argument (Takes t) a c p old f g go = with_value (value_of a.value c old.store f) old (λ v. if same_ty v.ty t then go (record g { store = put g.store p v.n }) else Stuck)
store_argument (Binds t) a c p old f g go = if has_leaf (referent_in c a.value) t then go g else Stuck
store_argument NoFormal a c p old f g go = Stuck

-- the arguments one after another, by their formal names
abbrev pub store_arguments : List Argument → TextSetting → List ℕ → TextState → Frame → TextState → (TextState → Outcome TextState Frame) → Outcome TextState Frame
store_arguments [] c i old f g go = go g
store_arguments (a ∷ rest) c i old f g go =
    store_argument (formal_named c i a.formal) a c (in_lower_case a.formal ∷ in_lower_case i ∷ c.site.path) old f g (λ h. store_arguments rest c i old f h go)

-- the leaf of the variable that an expression names
abbrev pub leaf_in : TextSetting → Expression → Path
leaf_in c (Name x) = leaf_at (referent_of c x) x c.site
leaf_in c _ = []

-- the formal name is an in-out
abbrev pub binds : Formal → Bool
binds (Takes t) = false
binds (Binds t) = true
binds NoFormal = false

-- the in-outs of the instance that is called stand for the leaves that their arguments name
abbrev pub bind : List Argument → TextSetting → List ℕ → List ℕ → Path
bind [] c i key = []
bind (a ∷ rest) c i key = if binds (formal_named c i a.formal) && bytes_eq (in_lower_case a.formal) key then leaf_in c a.value else bind rest c i key

-- a call has an argument for each in-out
abbrev pub is_bound : List Argument → Variable → Bool
is_bound args v = elim v.class [ InOut ↦ list_any (λ (a : Argument). bytes_eq (in_lower_case a.formal) (in_lower_case v.name)) args | _ ↦ true ]

-- each in-out of the instance has an argument
abbrev pub all_bound : List Argument → List Variable → Bool
all_bound args vs = list_all (is_bound args) vs

-- the name of the type, where a name means an instance
abbrev pub type_of_instance : Referent → Option (List ℕ)
type_of_instance (Instance type) = Some type
type_of_instance (Kept t) = None
type_of_instance (Bound t) = None
type_of_instance (Temporary t) = None
type_of_instance Unknown = None

-- how a block is run: the one of a type's name, as the instance at a site
abbrev pub TextCalls : Type 0
TextCalls = List ℕ → Site → TextState → Outcome TextState (Unit {0})

-- a call stores its inputs, binds its in-outs and runs the block; the temporaries of the caller stay
abbrev pub call_runs : List ℕ → List Argument → TextSetting → TextCalls → TextState → Frame → Outcome TextState Frame
call_runs i args c call g f =
    found (type_of_instance (referent_of c i)) (λ type.
    if all_bound args (parts_named c i)
    then store_arguments args c i g f g (λ h. then_do (call type (record { path = in_lower_case i ∷ c.site.path; bound = bind args c i }) h) (λ k u. Ended k f))
    else Stuck)

-- A loop: each turn costs one of the budget. The first number only bounds the recursion; it is the number of turns that are left.
abbrev pub turns : ℕ → (TextState → Frame → Answer Value) → (TextState → Frame → Outcome TextState Frame) → TextState → Frame → Outcome TextState Frame
turns zero test body g f = with_truth (test g f) g (λ b. if b then Stopped OutOfTurns g else Ended g f)
turns (suc n) test body g f =
    with_truth (test g f) g (λ b.
    if b then spend g.left g (λ left. then_do (body (record g { left = left }) f) (turns n test body)) else Ended g f)

-- a number is that of a label
abbrev pub selects : ℤ → ℕ → Bool
selects (pos m) n = nat_eq m n
selects (negsuc m) n = false

abbrev mutual
  -- the effect of a statement
  pub statement_runs : Statement → TextSetting → TextCalls → TextState → Frame → Outcome TextState Frame
  statement_runs (Assign x e) c call g f = with_value (value_of e c g.store f) g (λ v. assign (referent_of c x) x c.site v g f)
  statement_runs (Call i args) c call g f = call_runs i args c call g f
  statement_runs (If e ss) c call g f = with_truth (value_of e c g.store f) g (λ b. if b then statements_run ss c call g f else Ended g f)
  statement_runs (While e ss) c call g f = turns g.left (λ h l. value_of e c h.store l) (statements_run ss c call) g f
  statement_runs (Case e arms) c call g f = with_value (value_of e c g.store f) g (λ v. if same_ty v.ty ty.Dint then arms_run arms c call v.n g f else Stuck)

  -- statements within a statement, one after another
  pub statements_run : Statements → TextSetting → TextCalls → TextState → Frame → Outcome TextState Frame
  statements_run no_statement c call g f = Ended g f
  statements_run (statement s ss) c call g f = then_do (statement_runs s c call g f) (statements_run ss c call)

  -- a CASE without the label does nothing
  pub arms_run : Arms → TextSetting → TextCalls → ℤ → TextState → Frame → Outcome TextState Frame
  arms_run no_arm c call n g f = Ended g f
  arms_run (arm label ss rest) c call n g f = if selects n label then statements_run ss c call g f else arms_run rest c call n g f

-- statements one after another
abbrev pub list_runs : List Statement → TextSetting → TextCalls → TextState → Frame → Outcome TextState Frame
list_runs [] c call g f = Ended g f
list_runs (s ∷ ss) c call g f = then_do (statement_runs s c call g f) (list_runs ss c call)

-- a POU as an instance; its temporaries begin anew and are gone afterwards
abbrev pub pou_runs : PouText → World → TextCalls → Site → TextState → Outcome TextState (Unit {0})
pou_runs p world call site g =
    then_do (list_runs p.body (record { world = world; variables = variables_of p.blocks; site = site }) call g (fresh (variables_of p.blocks))) (λ h f. Ended h tt)

-- the program of a name
abbrev pub program_named : List ℕ → List PouText → Option PouText
program_named name [] = None
program_named name (p ∷ ps) = if is_program p.kind && bytes_eq (in_lower_case p.name) (in_lower_case name) then Some p else program_named name ps

-- the function block of a name
abbrev pub block_named : List ℕ → List PouText → Option PouText
block_named name [] = None
block_named name (p ∷ ps) = if not (is_program p.kind) && bytes_eq (in_lower_case p.name) (in_lower_case name) then Some p else block_named name ps

-- what the names of a unit's function blocks declare
abbrev pub world_of : List PouText → World
world_of unit key = elim (block_named key unit) [ Some p ↦ p.blocks | None ↦ [] ]

-- a standard block takes one step at the time of the scan, and others are run as users say
abbrev pub with_standard : ℕ → TextCalls → TextCalls
with_standard time users type site g = elim (kind_named type) [ Some k ↦ Ended (record g { store = called k time site.path g.store }) tt | None ↦ users type site g ]

-- the function blocks of a unit, with so many levels of them below
abbrev pub blocks_run : ℕ → (time : ℕ) → List PouText → TextCalls
blocks_run zero time unit type site g = Stuck
blocks_run (suc n) time unit type site g =
    found (block_named type unit) (λ p. pou_runs p (world_of unit) (with_standard time (blocks_run n time unit)) site g)

-- a program, below which stand 16 levels of function blocks at most
abbrev pub program_runs : (time : ℕ) → List PouText → PouText → TextState → Outcome TextState (Unit {0})
program_runs time unit p g = pou_runs p (world_of unit) (with_standard time (blocks_run 16 time unit)) top g

-- a program with what its types stand for
abbrev pub scope_of : List PouText → PouText → Scope
scope_of unit p = record { world = world_of unit; own = variables_of p.blocks }

-- a program of a text as a side
abbrev pub text_machine : List PouText → PouText → Machine TextState
text_machine unit p = record {
  layout = layout (scope_of unit p);
  begin = λ kept. record { store = begun (scope_of unit p) kept; left = 0 };
  scan = λ turns time inputs g. program_runs time unit p (record { store = put_inputs inputs g.store; left = turns });
  restart = λ r g. record { store = restarted (scope_of unit p) r g.store; left = 0 };
  value = λ g q. g.store q;
}
