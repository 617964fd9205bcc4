-- The programs of a file, and which of them a run is of.
use Rattle.std.specs.Prelude.{◌≡◌, ◌≢◌, ℕ, List, [], ◌∷◌, Option, Some, None, length}
use Rattle.plcx_meaning.specs.Run.{Machine}

-- the programs of a file in their order, the program of a name, and the machine of a program
pub record Programs (P G : Type 0) : Type 0 where
  pub all : List P
  pub named : List ℕ → Option P
  pub machine : P → Machine G

-- the program that a run is of: that of the name, or where none is named the only one
abbrev pub IsChosen : {P G : Type 0} → Programs P G → Option (List ℕ) → P → Type 0
IsChosen ps (Some name) p = ps.named name ≡ Some p
IsChosen ps None p = ps.all ≡ p ∷ []

-- there is no program of the name, or where none is named not just one
abbrev pub IsMissing : {P G : Type 0} → Programs P G → Option (List ℕ) → Type 0
IsMissing ps (Some name) = ps.named name ≡ None
IsMissing ps None = length ps.all ≢ 1
