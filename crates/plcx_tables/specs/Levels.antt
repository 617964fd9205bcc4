-- Numbers of POUs by those of the blocks that they have instances of.
use Rattle.std.specs.Prelude.{ℕ, zero, suc, ◌+◌, Bool, List, [], ◌∷◌, Option, Some, None, length, map, max, slice_index, if◌then◌else◌}
use Rattle.std.specs.List.{sum_by}
use Rattle.plcx_std.specs.Pins.{pins}
use Rattle.plcx_tables.specs.declared.levels.Rule.{Rule}
use Rattle.plcx_tables.specs.declared.levels.Rule.TheVariants.{Leaves, Memories, Levels}
use Rattle.plcx_tables.specs.declared.own.Own.{Own}
use Rattle.plcx_tables.specs.Telling.{Told, shown}

-- ---- a variable

-- the function block that it is an instance of
abbrev pub user : Told → Option ℕ
user t = if t.elementary then None else (elim t.standard [ Some k ↦ None | None ↦ t.block ])

-- how many leaves it has, by those of the POUs; standard blocks have theirs or none yet
abbrev pub leaf_weight : (standard : Bool) → List ℕ → Told → ℕ
leaf_weight standard leaves t =
    if t.kept then (if t.elementary then 1 else (elim t.standard [
      | Some k ↦ if standard then length (pins k) else 0
      | None ↦ elim t.block [ Some place ↦ slice_index leaves place | None ↦ 0 ]
    ])) else 0

-- how many memories
abbrev pub memory_weight : List ℕ → Told → ℕ
memory_weight memories t = elim (user t) [ Some place ↦ slice_index memories place | None ↦ 0 ]

-- one level more than its block
abbrev pub level_weight : List ℕ → Told → ℕ
level_weight levels t = elim (user t) [ Some place ↦ suc (slice_index levels place) | None ↦ 0 ]

-- ---- a POU

-- its variables as they are told
abbrev pub variables_told : Own → List Told
variables_told own = map shown own.variables.items

-- the greatest number that one of them has
abbrev pub greatest : (Told → ℕ) → List Told → ℕ
greatest f [] = 0
greatest f (t ∷ ts) = max (f t) (greatest f ts)

-- the leaves, memories and levels of a POU, by those of the POUs
abbrev pub leaves_of : (standard : Bool) → Own → List ℕ → ℕ
leaves_of standard own leaves = sum_by (leaf_weight standard leaves) (variables_told own)

abbrev pub memories_of : Own → List ℕ → ℕ
memories_of own memories = own.memories.count + sum_by (memory_weight memories) (variables_told own)

abbrev pub level_of : Own → List ℕ → ℕ
level_of own levels = greatest (level_weight levels) (variables_told own)

-- which of them a rule tells
abbrev pub number_by : Rule → Own → List ℕ → ℕ
number_by (Leaves standard) own before = leaves_of standard own before
number_by Memories own before = memories_of own before
number_by Levels own before = level_of own before

-- ---- all POUs

-- the numbers of all by those that they had
abbrev pub stepped : Rule → List Own → List ℕ → List ℕ
stepped rule owns before = map (λ (own : Own). number_by rule own before) owns

-- a function so many times
abbrev pub repeated : {A : Type 0} → ℕ → (A → A) → A → A
repeated zero f x = x
repeated (suc n) f x = repeated n f (f x)
