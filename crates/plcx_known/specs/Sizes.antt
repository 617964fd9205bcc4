-- The leaves and instances of POUs, level by level.
use Rattle.std.specs.Prelude.{ℕ, zero, suc, List, map, length, get_or, nat_le, if◌then◌else◌}
use Rattle.std.specs.List.{sum_by}
use Rattle.plcx_types.specs.Limits.{max_text_leaves}
use Rattle.plcx_std.specs.declared.kind.StdKind.{StdKind}
use Rattle.plcx_std.specs.Pins.{pins}
use Rattle.plcx_meaning.specs.Layout.{is_kept}
use Rattle.plcx_known.specs.declared.types.VarType.{VarType}
use Rattle.plcx_known.specs.declared.types.VarType.TheVariants as type
use Rattle.plcx_known.specs.Owned.{Typed}

-- one more than a POU may have
abbrev pub most : ℕ
most = suc max_text_leaves

-- a size, where larger ones count as the most
unfoldable pub capped : ℕ → ℕ
capped n = if nat_le n most then n else most

-- the size of the POU at a place
abbrev pub size_at : List ℕ → ℕ → ℕ
size_at sizes place = get_or sizes place 0

-- the pins of a standard block, where they still count
abbrev pub pin_count : ℕ → StdKind → ℕ
pin_count zero k = 0
pin_count (suc n) k = length (pins k)

-- the leaves and instances within an instance of a type, so many levels deep
abbrev pub inside : ℕ → List ℕ → VarType → ℕ
inside n sizes type.Unknown = 0
inside n sizes (type.Elementary t) = 0
inside n sizes (type.Standard k) = pin_count n k
inside n sizes (type.Block place) = size_at sizes place

abbrev pub type_weight : ℕ → List ℕ → VarType → ℕ
type_weight n sizes type.Unknown = 1
type_weight n sizes (type.Elementary t) = 1
type_weight n sizes (type.Standard k) = suc (pin_count n k)
type_weight n sizes (type.Block place) = suc (size_at sizes place)

-- those of a variable, itself among them
abbrev pub weight : ℕ → List ℕ → Typed → ℕ
weight n sizes t = if is_kept t.variable.class then type_weight n sizes t.type else 0

-- those of POUs, one level deeper
abbrev pub next_sizes : ℕ → List (List Typed) → List ℕ → List ℕ
next_sizes n owners sizes = map (λ (ts : List Typed). sum_by (weight n sizes) ts) owners

-- and so many levels deep
abbrev pub sizes : ℕ → List (List Typed) → List ℕ
sizes zero owners = map (λ (ts : List Typed). 0) owners
sizes (suc n) owners = next_sizes n owners (sizes n owners)
