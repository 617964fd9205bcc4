-- What the names of a text lead to. A doubled name stands for its first declaration.
use Rattle.std.specs.Prelude.{ℕ, Bool, true, false, ◌||◌, List, [], ◌∷◌, Option, Some, None, is_some, if◌then◌else◌}
use Rattle.std.specs.List.{list_any}
use Rattle.std.specs.Option.{option_map}
use Rattle.std.specs.Str.{bytes_eq}
use Rattle.plcx_types.specs.declared.ty.Ty.{Ty}
use Rattle.plcx_types.specs.Name.{in_lower_case}
use Rattle.plcx_types.specs.TypeName.{type_named, same_ty}
use Rattle.plcx_std.specs.Kind.{kind_named}
use Rattle.plcx_meaning.specs.Tree.{Class, Mark, is_program, Expression, PouText}
use Rattle.plcx_meaning.specs.Layout.{Variable, variable_named, World, Meaning, Elementary, Composed, meaning, Scope}
use Rattle.plcx_meaning.specs.Typed.{expression_type}
use Rattle.plcx_conditions.specs.Placed.{Word}

-- two texts are one name, whatever the case of their letters
abbrev pub same_name : List ℕ → List ℕ → Bool
same_name x y = bytes_eq (in_lower_case x) (in_lower_case y)

-- one of these words is the name already
abbrev pub is_among : List Word → Word → Bool
is_among before x = list_any (λ (w : Word). same_name w.name x.name) before

-- ---- types

-- the first POU of a name, whatever its kind
abbrev pub pou_named : List ℕ → List PouText → Option PouText
pou_named name [] = None
pou_named name (p ∷ ps) = if same_name p.name name then Some p else pou_named name ps

-- a function block, and no program
abbrev pub block_alone : Option PouText → Option PouText
block_alone None = None
block_alone (Some p) = if is_program p.kind then None else Some p

-- the function block of a name, where the first POU of that name is one
abbrev pub block_named : List ℕ → List PouText → Option PouText
block_named name unit = block_alone (pou_named name unit)

-- what the names of function blocks declare
abbrev pub world_of : List PouText → World
world_of unit key = elim (block_named key unit) [ Some p ↦ p.blocks | None ↦ [] ]

-- known types are the elementary ones, the standard blocks and the unit's function blocks
abbrev pub knows : List PouText → List ℕ → Bool
knows unit type = is_some (type_named type) || (is_some (kind_named type) || is_some (block_named type unit))

-- What the name of a type stands for, where it is known. Elementary types come first, then standard blocks, also where a POU bears their name.
abbrev pub known : List PouText → List ℕ → Option Meaning
known unit type = if knows unit type then Some (meaning (world_of unit) type) else None

-- it stands for the variables of an instance
abbrev pub is_instance : Option Meaning → Bool
is_instance None = false
is_instance (Some (Elementary t)) = false
is_instance (Some (Composed vs)) = true

-- ---- variables

-- what a name leads to: a variable, by the class and the mark of its block, and by what its type stands for, where that is known
pub record Seen : Type 0 where
  pub class : Class
  pub mark : Mark
  pub type : Option Meaning

abbrev pub seen : List PouText → Variable → Seen
seen unit v = record { class = v.class; mark = v.mark; type = known unit v.ty }

-- what a name leads to among these variables
abbrev pub seen_in : List PouText → List Variable → List ℕ → Option Seen
seen_in unit vs name = option_map (seen unit) (variable_named (in_lower_case name) vs)

-- where an expression or a statement stands: a unit, and the variables of a POU
pub record Setting : Type 0 where
  pub unit : List PouText
  pub own : List Variable

-- what a name leads to in the POU
abbrev pub found : Setting → List ℕ → Option Seen
found s name = seen_in s.unit s.own name

-- ---- types of values

abbrev pub scope_in : Setting → Scope
scope_in s = record { world = world_of s.unit; own = s.own }

-- the type of a value, where it is known
abbrev pub type_in : Setting → Expression → Option Ty
type_in s e = expression_type (scope_in s) e

-- the type that is known is another one than that of a value
abbrev pub is_other : Meaning → Ty → Bool
is_other (Elementary t) u = if same_ty t u then false else true
is_other (Composed vs) u = true

-- both types are known, and they differ
abbrev pub differ : Option Meaning → Option Ty → Bool
differ None o = false
differ (Some m) None = false
differ (Some m) (Some t) = is_other m t
