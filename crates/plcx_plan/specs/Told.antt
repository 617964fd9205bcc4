-- For proofs alone: what the table of a file's programs tells.
use Rattle.std.specs.Prelude.{◌≡◌, ℕ, Bool, List, Vec, Option, Some, None, if◌then◌else◌}
use Rattle.std.specs.declared.alloc.Global.{Global}
use Rattle.std.specs.Map.{lookup}
use Rattle.std.specs.Str.{bytes_eq}
use Rattle.plcx_model.specs.declared.project.Pou.{Pou}
use Rattle.plcx_plan.specs.Conditions.{program_at}

-- the place of a name in the table
abbrev pub place_at : List ℕ → List (Vec ℕ Global × ℕ) → Option ℕ
place_at q entries = lookup (λ k. bytes_eq q k.items) entries

-- the place of each name
abbrev pub Tells : List Pou → List (Vec ℕ Global × ℕ) → Type 0
Tells pous entries = (q : List ℕ) → place_at q entries ≡ program_at pous q

-- what was found, or else another
abbrev pub found_or : Option ℕ → Option ℕ → Option ℕ
found_or None other = other
found_or (Some x) other = Some x

-- a place, where it counts
abbrev pub place_if : Bool → ℕ → Option ℕ
place_if b place = if b then Some place else None
