-- Names in their order, and the first place of each.
use Rattle.std.specs.Prelude.{◌≡◌, ℕ, Bool, false, List, Vec, Option, Some, None, nat_lt}
use Rattle.std.specs.declared.alloc.Global.{Global}
use Rattle.std.specs.List.{position_from}
use Rattle.std.specs.Str.{bytes_eq}
use Rattle.plcx_types.specs.Name.{in_lower_case}
use Rattle.plcx_state.specs.Tables.{number_at}
use Rattle.plcx_conditions.specs.Known.{same_name}

-- the place of the first of these names that is this one, whatever the case of its letters
abbrev pub first_place : List ℕ → List (List ℕ) → Option ℕ
first_place name names = position_from (λ n. same_name n name) 0 names

-- a place was found, and stands before another
abbrev pub is_before : Option ℕ → ℕ → Bool
is_before None place = false
is_before (Some found) place = nat_lt found place

-- ---- Serves proofs: what a table tells.

-- a name is the key in lower case
abbrev pub has_key : (key : List ℕ) → List ℕ → Bool
has_key key name = bytes_eq key (in_lower_case name)

-- a name, if there is one, is the key in lower case
abbrev pub is_key : (key : List ℕ) → Option (List ℕ) → Bool
is_key key None = false
is_key key (Some name) = has_key key name

-- the table has the first place of each name
abbrev pub AreTold : List (List ℕ) → List (Vec ℕ Global × ℕ) → Type 0
AreTold names entries = (key : List ℕ) → number_at key entries ≡ position_from (has_key key) 0 names
