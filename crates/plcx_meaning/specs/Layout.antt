-- What is declared at a path, and the leaves of a program.
use Rattle.std.specs.Prelude.{◌≡◌, ℕ, zero, suc, ℤ, pos, Bool, true, false, not, ◌&&◌, ◌||◌, List, [], ◌∷◌, Option, Some, None, map, filter, if◌then◌else◌}
use Rattle.std.specs.List.{list_any, flat_map}
use Rattle.std.specs.Str.{bytes_eq}
use Rattle.plcx_types.specs.declared.ty.Ty.{Ty}
use Rattle.plcx_types.specs.Name.{in_lower_case}
use Rattle.plcx_types.specs.Range.{InRange}
use Rattle.plcx_types.specs.Reserved.{is_own}
use Rattle.plcx_types.specs.TypeName.{type_named}
use Rattle.plcx_types.specs.Value.{Value}
use Rattle.plcx_std.specs.Kind.{kind_named}
use Rattle.plcx_types.specs.Lists.{Each}
use Rattle.plcx_meaning.specs.Base.{Path, same_path, is_declared}
use Rattle.plcx_meaning.specs.Tree.{Class, Local, Input, Output, InOut, Temp, Mark, Plain, Constant, Retain, Declaration, Block}
use Rattle.plcx_meaning.specs.Standard.{pin_blocks}

-- a declaration with the class and the mark of its block
pub record Variable : Type 0 where
  pub class : Class
  pub mark : Mark
  pub name : List ℕ
  -- the name of its type
  pub ty : List ℕ
  pub initial : Option Value

-- an initial value is one of the variable's type, which is elementary
abbrev pub InitialIsTyped : Variable → Type 0
InitialIsTyped v = (value : Value) → v.initial ≡ Some value → (type_named v.ty ≡ Some value.ty) × InRange value.ty value.n

-- a declaration of a block of this class and mark
abbrev pub variable : Class → Mark → Declaration → Variable
variable class mark d = record { class = class; mark = mark; name = d.name; ty = d.ty; initial = d.initial }

-- the declarations of a block, in order
abbrev pub block_variables : Block → List Variable
block_variables b = map (variable b.class b.mark) b.declarations

-- and those of all blocks, one after another
abbrev pub variables_of : List Block → List Variable
variables_of blocks = flat_map block_variables blocks

-- the variable of this name without case, the first where it is declared twice
abbrev pub variable_named : List ℕ → List Variable → Option Variable
variable_named key [] = None
variable_named key (v ∷ vs) = if bytes_eq (in_lower_case v.name) key then Some v else variable_named key vs

-- the blocks of the function blocks of a project or a unit, by their names without case
abbrev pub World : Type 0
World = List ℕ → List Block

-- what the name of a type stands for: an elementary type, or variables, those of a standard block or of one of the world
pub data Meaning : Type 0 where
  Elementary : Ty → Meaning
  Composed : List Variable → Meaning

-- the variables that an instance of the name of a type has: those of a standard block, else those of the world
abbrev pub composed : World → List ℕ → List Variable
composed world name = elim (kind_named name) [ Some k ↦ variables_of (pin_blocks k) | None ↦ variables_of (world (in_lower_case name)) ]

-- the names of elementary types come first, then those of standard blocks
abbrev pub meaning : World → List ℕ → Meaning
meaning world name = elim (type_named name) [ Some t ↦ Elementary t | None ↦ Composed (composed world name) ]

-- the variables within a variable, if it is an instance
abbrev pub parts : Meaning → List Variable
parts (Elementary t) = []
parts (Composed vs) = vs

-- the variables within the variable that was found, none where none was
abbrev pub parts_of : World → Option Variable → List Variable
parts_of world None = []
parts_of world (Some v) = parts (meaning world v.ty)

-- the variables of a program, and what its types stand for
pub record Scope : Type 0 where
  pub world : World
  pub own : List Variable

-- the variables of the instance at a path
abbrev pub variables_at : Scope → Path → List Variable
variables_at c [] = c.own
variables_at c (x ∷ p) = parts_of c.world (variable_named x (variables_at c p))

-- the variable at a path
abbrev pub variable_at : Scope → Path → Option Variable
variable_at c [] = None
variable_at c (x ∷ p) = variable_named x (variables_at c p)

-- a value that is not given is 0
abbrev pub initial_value : Option Value → ℤ
initial_value None = pos 0
initial_value (Some v) = v.n

-- the initial value of the variable that was found, 0 where none was
abbrev pub initial_of : Option Variable → ℤ
initial_of None = pos 0
initial_of (Some v) = initial_value v.initial

-- the initial value at a path, 0 where none is given
abbrev pub initial_at : Scope → Path → ℤ
initial_at c p = initial_of (variable_at c p)

-- the mark of a block of retained variables
abbrev pub is_retain : Mark → Bool
is_retain Plain = false
is_retain Constant = false
is_retain Retain = true

-- the variable that was found stands in such a block
abbrev pub is_marked : Option Variable → Bool
is_marked None = false
is_marked (Some v) = is_retain v.mark

-- a declaration on the path stands in a block of retained variables
abbrev pub is_retained : Scope → Path → Bool
is_retained c [] = false
is_retained c (x ∷ p) = is_retained c p || is_marked (variable_at c (x ∷ p))

-- a path as it is declared, the innermost name first too
abbrev pub Spelling : Type 0
Spelling = List (List ℕ)

-- and without case
abbrev pub path_of : Spelling → Path
path_of names = map in_lower_case names

-- A leaf by its path, and how that is spelled where its names are declared. It is retained, settable from outside between scans, and shown.
pub record Leaf : Type 0 where
  pub path : Path
  pub spelled : Spelling
  pub ty : Ty
  pub initial : ℤ
  pub retained : Bool
  pub settable : Bool
  pub shown : Bool

-- the mark of a block of constants
abbrev pub is_constant : Mark → Bool
is_constant Plain = false
is_constant Constant = true
is_constant Retain = false

-- a leaf of the program itself, and no variable of the compiler's own
abbrev pub is_outside : Path → Bool
is_outside [] = false
is_outside (x ∷ []) = not (is_own x)
is_outside (x ∷ y ∷ p) = false

-- the leaf of this type whose path is spelled so, declared in a block of this mark
abbrev pub leaf_of : Scope → Spelling → Ty → Mark → Leaf
leaf_of c names t mark = record {
  path = path_of names;
  spelled = names;
  ty = t;
  initial = initial_at c (path_of names);
  retained = is_retained c (path_of names);
  settable = is_outside (path_of names) && not (is_constant mark);
  shown = is_outside (path_of names);
}

-- a variable that has a value of its own for as long as its instance: no in-out and no temporary
abbrev pub is_kept : Class → Bool
is_kept Local = true
is_kept Input = true
is_kept Output = true
is_kept InOut = false
is_kept Temp = false

-- the leaves of a variable of the instance whose path is spelled so; inner gives those of the variables of an instance
abbrev pub variable_leaves : (Spelling → List Variable → List Leaf) → Scope → Spelling → Variable → List Leaf
variable_leaves inner c names v = if is_kept v.class
    then (elim (meaning c.world v.ty) [ Elementary t ↦ leaf_of c (v.name ∷ names) t v.mark ∷ [] | Composed vs ↦ inner (v.name ∷ names) vs ])
    else []

-- the leaves of variables in their order, those of an instance in its place, so many levels deep
abbrev pub leaves : ℕ → Scope → Spelling → List Variable → List Leaf
leaves zero c names vs = []
leaves (suc n) c names vs = flat_map (variable_leaves (leaves n c) c names) vs

-- a program has 16 levels of instances at most, and a standard block below them
abbrev pub layout : Scope → List Leaf
layout c = leaves 18 c [] c.own

-- the leaves that a declaration made, in order
abbrev pub declared_leaves : List Leaf → List Leaf
declared_leaves ls = filter (λ (leaf : Leaf). is_declared leaf.path) ls

-- no path stands twice
abbrev pub all_apart : List Path → Bool
all_apart [] = true
all_apart (p ∷ ps) = not (list_any (same_path p) ps) && all_apart ps

-- no two leaves have one path, and each begins with a number of its type
pub record IsLayout (ls : List Leaf) : Type 0 where
  pub apart : all_apart (map (λ (leaf : Leaf). leaf.path) ls) ≡ true
  pub initial : Each (λ (leaf : Leaf). InRange leaf.ty leaf.initial) ls

-- the path is the spelled one without case
abbrev pub IsSpelled : Leaf → Type 0
IsSpelled leaf = leaf.path ≡ path_of leaf.spelled

-- the initial value of the leaf at a path, 0 where there is none: the retained state that changes no initial value
abbrev pub initial_in : List Leaf → Path → ℤ
initial_in [] p = pos 0
initial_in (leaf ∷ ls) p = if same_path p leaf.path then leaf.initial else initial_in ls p

-- what is settable or shown is declared
abbrev pub IsOutside : Leaf → Type 0
IsOutside leaf = (leaf.settable ≡ true → is_declared leaf.path ≡ true) × (leaf.shown ≡ true → is_declared leaf.path ≡ true)

-- a value of its type for each retained leaf
abbrev pub IsRetainedState : List Leaf → (Path → ℤ) → Type 0
IsRetainedState ls kept = Each (λ (leaf : Leaf). leaf.retained ≡ true → InRange leaf.ty (kept leaf.path)) (declared_leaves ls)

-- the initial values, and the retained state over them
abbrev pub begun : Scope → (Path → ℤ) → Path → ℤ
begun c kept p = if is_declared p && is_retained c p then kept p else initial_at c p

-- a warm restart gives each leaf that isn't retained its initial value, a cold one each leaf
pub data Restart : Type 0 where
  Warm Cold : Restart

-- the values after a restart
abbrev pub restarted : Scope → Restart → (Path → ℤ) → Path → ℤ
restarted c Warm s p = if is_retained c p then s p else initial_at c p
restarted c Cold s p = initial_at c p
