-- Serves proofs: what the tables of places tell.
use Rattle.std.specs.Prelude.{ℕ, Bool, false, List, Vec, Option, Some, None, nat_eq, if◌then◌else◌}
use Rattle.std.specs.declared.alloc.Global.{Global}
use Rattle.std.specs.Map.{lookup}
use Rattle.std.specs.Str.{bytes_eq}
use Rattle.plcx_types.specs.Name.{in_lower_case}

-- the place of a name in the table
abbrev pub place_at : List ℕ → List (Vec ℕ Global × ℕ) → Option ℕ
place_at q entries = lookup (λ k. bytes_eq q k.items) entries

-- the place of a number in the table
abbrev pub place_of_number : ℕ → List (ℕ × ℕ) → Option ℕ
place_of_number q entries = lookup (nat_eq q) entries

-- what was found, or else another
abbrev pub found_or : Option ℕ → Option ℕ → Option ℕ
found_or None other = other
found_or (Some x) other = Some x

-- a place, where it counts
abbrev pub place_if : Bool → ℕ → Option ℕ
place_if b place = if b then Some place else None

-- a name, if there is one, is this one in lower case
abbrev pub is_key : List ℕ → Option (List ℕ) → Bool
is_key q None = false
is_key q (Some name) = bytes_eq q (in_lower_case name)
