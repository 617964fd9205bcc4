-- Serves proofs: the first of what is broken, as a function.
use Rattle.std.specs.Prelude.{Bool, ◌&&◌, ◌||◌, nat_eq, nat_lt, nat_le, List, [], ◌∷◌, Option, Some, None, if◌then◌else◌}
use Rattle.plcx_conditions.specs.declared.broken.Broken.{Broken}
use Rattle.plcx_conditions.specs.Broken.{rank}

-- b comes before c, or both are one
abbrev pub comes_first : (b c : Broken) → Bool
comes_first b c = nat_lt b.at c.at || nat_eq b.at c.at && nat_le (rank b.condition) (rank c.condition)

-- the one of both that comes first
unfoldable pub sooner : Option Broken → Option Broken → Option Broken
sooner None p = p
sooner (Some b) None = Some b
sooner (Some b) (Some c) = if comes_first b c then Some b else Some c

-- the first of all
unfoldable pub first_of : List Broken → Option Broken
first_of [] = None
first_of (b ∷ bs) = sooner (Some b) (first_of bs)
