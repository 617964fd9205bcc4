-- Serves proofs: the leaves of a program by what the types of variables stand for.
use Rattle.std.specs.Prelude.{ℕ, zero, suc, Bool, false, ◌||◌, List, [], ◌∷◌, Option, get_or, if◌then◌else◌}
use Rattle.std.specs.Option.{option_map}
use Rattle.std.specs.List.{flat_map}
use Rattle.plcx_types.specs.Value.{Value}
use Rattle.plcx_meaning.specs.Layout.{Spelling, Leaf, initial_value, is_retain, is_constant, is_kept}
use Rattle.plcx_conditions.specs.Placed.{Literal}
use Rattle.plcx_known.specs.declared.types.VarType.{VarType}
use Rattle.plcx_known.specs.declared.types.VarType.TheVariants as type
use Rattle.plcx_known.specs.Owned.{Typed, name_of}
use Rattle.plcx_leaves.specs.Leaves.{leaf_by, standard_leaves}

-- the variables of the POU at a place
abbrev pub variables_at : List (List Typed) → ℕ → List Typed
variables_at owners place = get_or owners place []

-- the initial value of a variable, where one is given
abbrev pub initial_of : Typed → Option Value
initial_of t = option_map (λ (v : Literal). v.value) t.variable.declaration.initial

-- the leaves of variables at a path, which is retained or not
abbrev pub Inner : Type 0
Inner = Spelling → (retained : Bool) → List Typed → List Leaf

-- the leaves of a variable at a path, by what its type stands for; inner gives those of an instance of a function block
abbrev pub type_leaves : ℕ → Inner → List (List Typed) → Spelling → (retained constant : Bool) → Option Value → VarType → List Leaf
type_leaves n inner owners names retained constant initial type.Unknown = []
type_leaves n inner owners names retained constant initial (type.Elementary t) = leaf_by names t (initial_value initial) retained constant ∷ []
type_leaves n inner owners names retained constant initial (type.Standard k) = standard_leaves n names retained k
type_leaves n inner owners names retained constant initial (type.Block place) = inner names retained (variables_at owners place)

-- the leaves of a variable, in the instance at a path; in-outs and temporaries have none
abbrev pub variable_leaves : ℕ → Inner → List (List Typed) → Spelling → (retained : Bool) → Typed → List Leaf
variable_leaves n inner owners names retained t = if is_kept t.variable.class
    then type_leaves n inner owners (name_of t ∷ names) (retained || is_retain t.variable.mark) (is_constant t.variable.mark) (initial_of t) t.type
    else []

-- the leaves of variables, so many levels deep
abbrev pub leaves : (levels : ℕ) → List (List Typed) → Inner
leaves zero owners names retained ts = []
leaves (suc n) owners names retained ts = flat_map (variable_leaves n (leaves n owners) owners names retained) ts

-- the leaves of a program with these variables
unfoldable pub program_leaves : List (List Typed) → List Typed → List Leaf
program_leaves owners ts = leaves 18 owners [] false ts
