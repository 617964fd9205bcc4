-- Where leaves stand.
use Rattle.std.proofs.Common.{◌≡◌, ℕ, Bool, true, false, List, [], ◌∷◌, ◌++◌, Bor, map, reverse, refl, sym, ap, ◌∙◌}
use Rattle.std.specs.Prelude.{◌&&◌, not, nat_eq, length}
use Rattle.std.proofs.lemmas.Bool.{eqb-true}
use Rattle.std.proofs.lemmas.List.{nil_from_length, reverse-append}
use Rattle.plcx_types.specs.Name.{in_lower_case}
use Rattle.plcx_types.specs.Reserved.{is_own}
use Rattle.plcx_meaning.specs.Base.{is_declared}
use Rattle.plcx_meaning.specs.Layout.{path_of, is_outside}
use Rattle.plcx_state.specs.Layouts.{meant_path}
use Rattle.plcx_leaves.specs.Within.{spelled}

-- the innermost name comes first in a spelling
pub innermost : {X : Type 0} (xs : List X) (x : X) → reverse (xs ++ x ∷ []) ≡ x ∷ reverse xs
innermost xs x = reverse-append xs (x ∷ [])

and_true : (b : Bool) → b ≡ (b && true)
and_true true = refl
and_true false = refl

-- a name alone
pub alone : (path : List (List ℕ)) (name : List ℕ) → path ≡ name ∷ [] → is_declared (meant_path path) ≡ is_outside (path_of (name ∷ []))
alone path name is = ap (λ p. is_declared (meant_path p)) is ∙ sym (and_true (not (is_own (in_lower_case name))))

-- a name within an instance
pub within_other : (outer : Bor (List ℕ)) (within : List (Bor (List ℕ))) (name : List ℕ) → false ≡ is_outside (path_of (name ∷ spelled (outer ∷ within)))
within_other outer within name = by (reverse (map (λ (n : Bor (List ℕ)). n.now) within)) refl
  where
    by : (front : List (List ℕ)) → reverse (map (λ (n : Bor (List ℕ)). n.now) within) ≡ front → false ≡ is_outside (path_of (name ∷ spelled (outer ∷ within)))
    by [] is = ap (λ (names : List (List ℕ)). is_outside (path_of (name ∷ names))) (sym (reverse-append (outer.now ∷ []) (map (λ (n : Bor (List ℕ)). n.now) within) ∙ ap (λ (xs : List (List ℕ)). xs ++ outer.now ∷ []) is))
    by (x ∷ front) is = ap (λ (names : List (List ℕ)). is_outside (path_of (name ∷ names))) (sym (reverse-append (outer.now ∷ []) (map (λ (n : Bor (List ℕ)). n.now) within) ∙ ap (λ (xs : List (List ℕ)). xs ++ outer.now ∷ []) is))

pub not_outside : (within : List (Bor (List ℕ))) (name : List ℕ) → (within ≡ [] → ⊥) → false ≡ is_outside (path_of (name ∷ spelled within))
not_outside [] name some = absurd (some refl)
not_outside (outer ∷ within) name some = within_other outer within name

nothing : {X : Type 0} (xs : List X) → nat_eq (length xs) 0 ≡ true → xs ≡ []
nothing xs h = nil_from_length xs (eqb-true (length xs) 0 h)

-- a name that stands in no instance
pub stands_alone : (within : List (Bor (List ℕ))) (path : List (List ℕ)) (name : List ℕ) → nat_eq (length within) 0 ≡ true → path ≡ map (λ (n : Bor (List ℕ)). n.now) within ++ name ∷ []
    → is_declared (meant_path path) ≡ is_outside (path_of (name ∷ spelled within))
stands_alone within path name none is =
    let empty = nothing within none in
    alone path name (is ∙ ap (λ (w : List (Bor (List ℕ))). map (λ (n : Bor (List ℕ)). n.now) w ++ name ∷ []) empty) ∙ ap (λ (w : List (Bor (List ℕ))). is_outside (path_of (name ∷ spelled w))) (sym empty)

pub stands_within : (within : List (Bor (List ℕ))) (name : List ℕ) → nat_eq (length within) 0 ≡ false → false ≡ is_outside (path_of (name ∷ spelled within))
stands_within within name some = not_outside within name (λ e. let f : false ≡ true = sym some ∙ ap (λ (w : List (Bor (List ℕ))). nat_eq (length w) 0) e in cc)
