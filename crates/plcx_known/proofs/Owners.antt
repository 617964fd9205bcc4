-- The variables of a POU by their names.
use Rattle.std.proofs.Common.{◌≡◌, ℕ, Bool, List, Option, map, take, option_map, option_and_then, slice_get, sym, ap, ◌∙◌}
use Rattle.std.specs.List.{list_any, position_from}
use Rattle.plcx_conditions.specs.Known.{same_name}
use Rattle.plcx_known.specs.declared.owner.Own.{Own}
use Rattle.plcx_known.specs.Names.{first_place}
use Rattle.plcx_known.specs.Owned.{Typed, shown_own, name_of, variable_in, AreNamed}
use Rattle.plcx_known.proofs.Places.{place_map, find_map, at_place, any_take_map}

-- what stands at the first place of a name
pub found_at : (all : List Own) (names : List (List ℕ)) (name : List ℕ) (place : Option ℕ) → AreNamed all names → place ≡ first_place name names
    → option_map shown_own (option_and_then (slice_get all) place) ≡ variable_in name (map shown_own all)
found_at all names name place named is =
    let t : List ℕ → Bool = λ n. same_name n name in
    let same : place ≡ position_from (λ (v : Own). t (name_of (shown_own v))) 0 all = is ∙ ap (first_place name) named ∙ place_map t name_of 0 (map shown_own all) ∙ place_map (λ (v : Typed). t (name_of v)) shown_own 0 all in
    ap (λ (o : Option ℕ). option_map shown_own (option_and_then (slice_get all) o)) same
    ∙ ap (option_map shown_own) (at_place (λ (v : Own). t (name_of (shown_own v))) all)
    ∙ sym (find_map shown_own (λ (v : Typed). t (name_of v)) all)

pub before_is : (all : List Own) (names : List (List ℕ)) (name : List ℕ) (place : ℕ) → AreNamed all names
    → list_any (λ n. same_name n name) (take place names) ≡ list_any (λ (t : Typed). same_name (name_of t) name) (take place (map shown_own all))
before_is all names name place named =
    ap (λ (ns : List (List ℕ)). list_any (λ n. same_name n name) (take place ns)) named
    ∙ any_take_map (λ n. same_name n name) name_of place (map shown_own all)
