-- The leaves of variables, one level of instances after another.
use Rattle.std.proofs.Common.{◌≡◌, ℕ, zero, suc, ◌-◌, ◌<◌, ◌≤◌, Bool, List, [], ◌∷◌, ◌++◌, Some, None, drop, get_or, map, length, slice_get, option_map, refl, sym, ap, ◌∙◌, subst, arith}
use Rattle.std.specs.List.{flat_map}
use Rattle.std.proofs.lemmas.List.{append-nil, drop_all}
use Rattle.std.proofs.lemmas.Option.{get_or_from_slice_get, slice_get-get_or}
use Rattle.plcx_meaning.specs.Layout.{Leaf, Spelling}
use Rattle.plcx_known.specs.declared.owner.Own.{Own}
use Rattle.plcx_known.specs.Owned.{Typed, shown_own}
use Rattle.plcx_known.proofs.Places.{get_map}
use Rattle.plcx_state.proofs.Eaches.{each_get}
use Rattle.plcx_text_layout.specs.Suits.{Suits, AllSuit, OwnersSuit}
use Rattle.plcx_text_layout.specs.Leaves.{variables_at, variable_leaves, leaves}

-- all variables have their leaves
pub level_done : (owners : List (List Typed)) (names : Spelling) (retained : Bool) (vs : List Own) (levels i : ℕ) (more before : List Leaf) → (levels ≡ 0 → ⊥) → length vs ≤ i
    → more ++ flat_map (variable_leaves (levels - 1) (leaves (levels - 1) owners) owners names retained) (map shown_own (drop i vs))
    ≡ before ++ flat_map (variable_leaves (levels - 1) (leaves (levels - 1) owners) owners names retained) (map shown_own vs)
    → more ≡ before ++ leaves levels owners names retained (map shown_own vs)
level_done owners names retained vs zero i more before some over all = absurd (some refl)
level_done owners names retained vs (suc n) i more before some over all =
    let made = λ (m : ℕ) (us : List Own). flat_map (variable_leaves m (leaves m owners) owners names retained) (map shown_own us) in
    let one : suc n - 1 ≡ n = omega arith in
    sym (append-nil more)
    ∙ ap (λ (us : List Own). more ++ made (suc n - 1) us) (sym (drop_all i vs over))
    ∙ all
    ∙ ap (λ m. before ++ made m vs) one

-- the variables of a POU that is there
pub found_at : (owners : List (List Typed)) (place : ℕ) (ts : List Typed) → slice_get owners place ≡ Some ts → ts ≡ variables_at owners place
found_at owners place ts there = sym (get_or_from_slice_get owners place ts [] there)

-- where there is no POU there are no leaves
pub none_at : (owners : List (List Typed)) (place : ℕ) → slice_get owners place ≡ None → variables_at owners place ≡ []
none_at [] place h = refl
none_at (ts ∷ owners) zero h = absurd (cc)
none_at (ts ∷ owners) (suc i) h = none_at owners i h

-- the initial value of each variable of a POU suits
pub own_suits : (owners : List (List Typed)) (place : ℕ) (ts : List Typed) (vs : List Own) (i : ℕ) (own : Own) → OwnersSuit owners → slice_get owners place ≡ Some ts → map shown_own vs ≡ ts → i < length vs → own ≡ get_or vs i own
    → Suits (shown_own own)
own_suits owners place ts vs i own suit there are less is =
    let all = subst AllSuit (sym are) (each_get AllSuit owners place ts there suit) in
    let at : slice_get vs i ≡ Some own = slice_get-get_or vs i own less ∙ ap Some (sym is) in
    each_get Suits (map shown_own vs) i (shown_own own) (get_map shown_own vs i ∙ ap (option_map shown_own) at) all
