-- Chains of instances, level by level.
use Rattle.std.specs.Prelude.{ℕ, zero, suc, Bool, true, false, List, map, get_or}
use Rattle.std.specs.List.{list_any}
use Rattle.plcx_known.specs.declared.types.VarType.{VarType}
use Rattle.plcx_known.specs.declared.types.VarType.TheVariants as type
use Rattle.plcx_known.specs.Owned.{Typed}

-- an instance of the type is one of a POU that has the mark
abbrev pub leads_on : List Bool → VarType → Bool
leads_on level type.Unknown = false
leads_on level (type.Elementary t) = false
leads_on level (type.Standard k) = false
leads_on level (type.Block place) = get_or level place false

abbrev pub one_leads_on : List Bool → List Typed → Bool
one_leads_on level ts = list_any (λ (t : Typed). leads_on level t.type) ts

-- a mark at each POU that has an instance of one with a mark
abbrev pub next_level : List (List Typed) → List Bool → List Bool
next_level owners level = map (one_leads_on level) owners

-- a mark at each POU from which so many instances of function blocks stand in one another
abbrev pub levels : ℕ → List (List Typed) → List Bool
levels zero owners = map (λ (ts : List Typed). true) owners
levels (suc n) owners = next_level owners (levels n owners)
