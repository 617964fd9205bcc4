-- Values by the numbers of leaves, as a side shows them.
use Rattle.std.specs.Prelude.{◌≡◌, ℤ, List, [], ◌∷◌, ◌++◌, if◌then◌else◌}
use Rattle.plcx_types.specs.Value.{Value}
use Rattle.plcx_meaning.specs.Base.{is_declared}
use Rattle.plcx_meaning.specs.Layout.{Leaf as Meant}
use Rattle.plcx_meaning.specs.Run.{Machine, Side}
use Rattle.plcx_state.specs.declared.layout.Leaf.{Leaf}
use Rattle.plcx_state.specs.Layouts.{meant, all_meant}
use Rattle.plcx_state.specs.Retains.{Pairwise, numbers, Agrees}
use Rattle.plcx_scan.specs.Sides.{HasTypeOf}

-- values go by the leaves of a machine's layout, each of its leaf's type, and are those that a side of it shows
pub record AreShown {G : Type 0} (m : Machine G) (g : Side G) (leaves : List Leaf) (values : List Value) : Type 0 where
  pub layout : all_meant leaves ≡ m.layout
  pub shows : Agrees leaves (m.value g.state) (numbers values)
  pub typed : Pairwise HasTypeOf leaves values

-- a leaf with its number, and nothing where a name on its path is the compiler's own
abbrev pub declared_number : Meant → ℤ → List (Meant × ℤ)
declared_number leaf n = if is_declared leaf.path then (leaf, n) ∷ [] else []

-- the leaves that are declared, in order, with their numbers
abbrev pub declared_numbers : List Leaf → List Value → List (Meant × ℤ)
declared_numbers [] vs = []
declared_numbers (leaf ∷ leaves) [] = []
declared_numbers (leaf ∷ leaves) (v ∷ vs) = declared_number (meant leaf) v.n ++ declared_numbers leaves vs
