-- The values of a program's leaves and memories by their numbers, and what restarts do to them.
use Rattle.std.specs.Prelude.{◌≡◌, ℕ, pos, Bool, true, false, ◌&&◌, List, Option, Some, None, map, slice_get, if◌then◌else◌}
use Rattle.plcx_types.specs.declared.ty.Ty.{Ty}
use Rattle.plcx_types.specs.Value.{Value}
use Rattle.plcx_types.specs.Literal.{value}
use Rattle.plcx_meaning.specs.Layout.{Restart, Warm, Cold}
use Rattle.plcx_state.specs.declared.layout.Leaf.{Leaf}
use Rattle.plcx_state.specs.declared.layout.Memory.{Memory}
use Rattle.plcx_state.specs.declared.store.Start.{Start}
use Rattle.plcx_state.specs.Layouts.{Laid}
use Rattle.plcx_state.specs.Retains.{Pairwise, each_with}

-- The values of the leaves and those of the memories, and what a restart gives each of them.
pub record Stored : Type 0 where
  pub values : List Value
  pub memories : List Value
  pub starts : List Start
  pub memory_starts : List Start

-- a store by its four lists
abbrev pub stored : List Value → List Value → List Start → List Start → Stored
stored values memories starts memory_starts = record { values = values; memories = memories; starts = starts; memory_starts = memory_starts }

-- there is a value of this number, and it has this type
pub record HasValue (values : List Value) (number : ℕ) (t : Ty) : Type 0 where
  pub value : Value
  pub is : slice_get values number ≡ Some value
  pub typed : value.ty ≡ t

-- a value has the type that it begins with
abbrev pub StaysTyped : Start → Value → Type 0
StaysTyped start v = v.ty ≡ start.initial.ty

-- each value has the type that it begins with
pub record IsStored (s : Stored) : Type 0 where
  pub values : Pairwise StaysTyped s.starts s.values
  pub memories : Pairwise StaysTyped s.memory_starts s.memories

-- a leaf begins with its initial value
abbrev pub start_of : Leaf → Start
start_of leaf = record { initial = leaf.initial; retained = leaf.retained }

-- the default of a memory's type
abbrev pub default_for : Memory → Value
default_for memory = value memory.ty (pos 0)

-- a memory begins with its default
abbrev pub memory_start : Memory → Start
memory_start memory = record { initial = default_for memory; retained = memory.retained }

-- what a layout's leaves and memories begin with
abbrev pub starts_of : List Leaf → List Start
starts_of leaves = map start_of leaves

-- and its memories
abbrev pub memory_starts_of : List Memory → List Start
memory_starts_of memories = map memory_start memories

-- the store was opened with this layout
pub record IsStoreOf (l : Laid) (s : Stored) : Type 0 where
  pub leaves : s.starts ≡ starts_of l.leaves
  pub memories : s.memory_starts ≡ memory_starts_of l.memories

-- the value that a leaf begins with: its retained one, or else its initial one
abbrev pub begun : Leaf → Option Value → Value
begun leaf None = leaf.initial
begun leaf (Some v) = v

-- and all leaves, in order
abbrev pub all_begun : List Leaf → List (Option Value) → List Value
all_begun leaves kept = each_with begun leaves kept

-- the defaults of memories
abbrev pub all_defaults : List Memory → List Value
all_defaults memories = map default_for memories

-- a store at first: the initial values with the retained ones over them, and each memory at its default
abbrev pub opened : Laid → List (Option Value) → Stored
opened l kept = stored (all_begun l.leaves kept) (all_defaults l.memories) (starts_of l.leaves) (memory_starts_of l.memories)

-- a warm restart keeps what is retained
abbrev pub is_warm : Restart → Bool
is_warm Warm = true
is_warm Cold = false

-- a value after a restart: as it began, unless what is retained is kept and this is
abbrev pub again : Bool → Start → Value → Value
again keeps start v = if keeps && start.retained then v else start.initial

-- and all values, in order
abbrev pub all_again : Bool → List Start → List Value → List Value
all_again keeps starts values = each_with (again keeps) starts values

-- a store after a restart: a warm one keeps what is retained, a cold one nothing
abbrev pub restarted : Bool → Stored → Stored
restarted keeps s = stored (all_again keeps s.starts s.values) (all_again keeps s.memory_starts s.memories) s.starts s.memory_starts
