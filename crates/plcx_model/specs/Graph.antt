-- A body as a graph.
use Rattle.std.specs.Prelude.{◌≡◌, ℕ, pos, ◌<◌, ◌^◌, List, Bool, true, false, None, length, get_or}
use Rattle.std.specs.Ordering.{is_gt}
use Rattle.std.specs.declared.cmp.Ordering.TheVariants.{Less}
use Rattle.plcx_model.specs.declared.key.Key.{Key}
use Rattle.plcx_model.specs.declared.source.Wire.{Wire}
use Rattle.plcx_model.specs.Keys.{key_cmp, place_cmp}

-- Elements go by their place in the body: each has a key, and takes part in networks or doesn't. Connections go by their number.
pub record Graph : Type 0 where
  pub keys : List Key
  pub parts : List Bool
  pub wires : List Wire

-- the number of elements
abbrev pub elements : Graph → ℕ
elements g = length g.keys

abbrev pub key_at : Graph → ℕ → Key
key_at g v = get_or g.keys v (record { order = None; y = pos 0; x = pos 0; local_id = 0 })

-- whether an element can be in a network: rails and skipped elements can't
abbrev pub takes_part : Graph → ℕ → Bool
takes_part g v = get_or g.parts v false

abbrev pub TakesPart : Graph → ℕ → Type 0
TakesPart g v = takes_part g v ≡ true

abbrev pub wire_at : List Wire → ℕ → Wire
wire_at ws i = get_or ws i (record { from = record { element = 0; pin = 0 }; to = record { element = 0; pin = 0 } })

-- the element that a connection comes from, and the one that it leads to
abbrev pub from_at : List Wire → ℕ → ℕ
from_at ws i = (wire_at ws i).from.element

abbrev pub to_at : List Wire → ℕ → ℕ
to_at ws i = (wire_at ws i).to.element

-- the key of u is not greater than that of v
abbrev pub KeyAtMost : Graph → ℕ → ℕ → Type 0
KeyAtMost g u v = is_gt (key_cmp (key_at g u) (key_at g v)) ≡ false

-- u stands before v on the sheet: by y, then by x, then by localId
abbrev pub PlaceBefore : Graph → ℕ → ℕ → Type 0
PlaceBefore g u v = place_cmp (key_at g u) (key_at g v) ≡ Less

-- the ends of connections are elements
abbrev pub AreWithin : ℕ → List Wire → Type 0
AreWithin n ws = (i : ℕ) → i < length ws → (from_at ws i < n) × (to_at ws i < n)

-- no two elements have one localId
abbrev pub IdsDiffer : Graph → Type 0
IdsDiffer g = (u v : ℕ) → u < elements g → v < elements g → (key_at g u).local_id ≡ (key_at g v).local_id → u ≡ v

-- what every body's graph keeps
pub record IsGraph (g : Graph) : Type 0 where
  pub parts : length g.parts ≡ elements g
  pub count : elements g < 2 ^ 32
  pub within : AreWithin (elements g) g.wires
  pub differ : IdsDiffer g
