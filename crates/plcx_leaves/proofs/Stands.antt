-- Each leaf has a name, and lies outside where it is settable or shown.
use Rattle.std.proofs.Common.{◌≡◌, ℕ, zero, suc, ℤ, pos, Bool, true, false, List, [], ◌∷◌, map, reverse, refl, ap}
use Rattle.std.specs.Prelude.{◌||◌, ◌&&◌, not}
use Rattle.plcx_types.specs.declared.ty.Ty.{Ty}
use Rattle.plcx_types.specs.Lists.{Each}
use Rattle.plcx_std.specs.declared.kind.StdKind.{StdKind}
use Rattle.plcx_std.specs.Pins.{Pin, pins}
use Rattle.plcx_meaning.specs.Layout.{Leaf, Spelling, path_of, is_outside}
use Rattle.plcx_state.specs.declared.layout.Leaf as code
use Rattle.plcx_state.specs.Layouts.{meant, all_meant, HasName, LiesOutside, is_nameless}
use Rattle.plcx_leaves.specs.Leaves.{leaf_by, standard_leaves}

abbrev pub StandsWell : Leaf → Type 0
StandsWell leaf = (leaf.spelled ≡ [] → ⊥) × ((leaf.settable || leaf.shown) ≡ true → is_outside leaf.path ≡ true)

outside_then : (o c : Bool) → ((o && c) || o) ≡ true → o ≡ true
outside_then true c h = refl
outside_then false c h = h

pub one_stands : (x : List ℕ) (names : Spelling) (t : Ty) (n : ℤ) (retained constant : Bool) → StandsWell (leaf_by (x ∷ names) t n retained constant)
one_stands x names t n retained constant = ((λ e. cc), outside_then (is_outside (path_of (x ∷ names))) (not constant))

pins_stand : (names : Spelling) (retained : Bool) (ps : List Pin) → Each StandsWell (map (λ (p : Pin). leaf_by (p.name ∷ names) p.ty (pos 0) retained false) ps)
pins_stand names retained [] = tt
pins_stand names retained (p ∷ ps) = (one_stands p.name names p.ty (pos 0) retained false, pins_stand names retained ps)

pub standard_stand : (n : ℕ) (names : Spelling) (retained : Bool) (k : StdKind) → Each StandsWell (standard_leaves n names retained k)
standard_stand zero names retained k = tt
standard_stand (suc n) names retained k = pins_stand names retained (pins k)

-- ---- leaves of the code

has_name : (leaf : code.Leaf) → ((meant leaf).spelled ≡ [] → ⊥) → HasName leaf
has_name leaf h = by leaf.path refl
  where
    by : (path : List (List ℕ)) → leaf.path ≡ path → is_nameless path ≡ false
    by [] e = absurd (h (ap reverse e))
    by (x ∷ path) e = refl

pub named : (ls : List code.Leaf) → Each StandsWell (all_meant ls) → Each HasName ls
named [] all = tt
named (leaf ∷ ls) all = (has_name leaf all.0.0, named ls all.1)

pub outside : (ls : List code.Leaf) → Each StandsWell (all_meant ls) → Each LiesOutside ls
outside [] all = tt
outside (leaf ∷ ls) all = (all.0.1, outside ls all.1)
