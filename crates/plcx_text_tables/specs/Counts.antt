-- How many leaves POUs have, and how many levels of function blocks are below them, level by level.
use Rattle.std.specs.Prelude.{ℕ, zero, suc, List, [], ◌∷◌, Some, None, map, max, slice_get, if◌then◌else◌}
use Rattle.std.specs.List.{sum_by}
use Rattle.plcx_meaning.specs.Layout.{is_kept}
use Rattle.plcx_known.specs.declared.types.VarType.{VarType}
use Rattle.plcx_known.specs.declared.types.VarType.TheVariants as type
use Rattle.plcx_known.specs.Owned.{Typed}
use Rattle.plcx_known.specs.Sizes.{size_at, pin_count}

-- the leaves of a variable of a type, so many levels deep, by those of POUs
abbrev pub type_leaves : ℕ → List ℕ → VarType → ℕ
type_leaves n counts type.Unknown = 0
type_leaves n counts (type.Elementary t) = 1
type_leaves n counts (type.Standard k) = pin_count n k
type_leaves n counts (type.Block place) = size_at counts place

-- and those that it has by its class
abbrev pub leaves_in : ℕ → List ℕ → Typed → ℕ
leaves_in n counts t = if is_kept t.variable.class then type_leaves n counts t.type else 0

-- those of POUs, one level deeper
abbrev pub next_counts : ℕ → List (List Typed) → List ℕ → List ℕ
next_counts n owners counts = map (λ (ts : List Typed). sum_by (leaves_in n counts) ts) owners

-- and so many levels deep
abbrev pub counts : ℕ → List (List Typed) → List ℕ
counts zero owners = map (λ (ts : List Typed). 0) owners
counts (suc n) owners = next_counts n owners (counts n owners)

-- one level more than the function block that a variable is an instance of
abbrev pub type_height : List ℕ → VarType → ℕ
type_height heights type.Unknown = 0
type_height heights (type.Elementary t) = 0
type_height heights (type.Standard k) = 0
type_height heights (type.Block place) = elim (slice_get heights place) [ Some n ↦ suc n | None ↦ 0 ]

-- the most that one of the variables has
abbrev pub tallest : List ℕ → List Typed → ℕ
tallest heights [] = 0
tallest heights (t ∷ ts) = max (type_height heights t.type) (tallest heights ts)

-- the levels below POUs, by those that were counted before
abbrev pub next_heights : List (List Typed) → List ℕ → List ℕ
next_heights owners heights = map (tallest heights) owners

-- and so many at most
abbrev pub heights : ℕ → List (List Typed) → List ℕ
heights zero owners = map (λ (ts : List Typed). 0) owners
heights (suc n) owners = next_heights owners (heights n owners)

-- a program has 16 levels of instances at most, and a standard block below them
unfoldable pub all_counts : List (List Typed) → List ℕ
all_counts owners = counts 17 owners

unfoldable pub all_heights : List (List Typed) → List ℕ
all_heights owners = heights 17 owners
