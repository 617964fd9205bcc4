-- What is found, and where it stands.
use Rattle.std.proofs.Common.{◌≡◌, ℕ, suc, ◌+◌, List, [], ◌∷◌, Bool, true, false, cond, map, Option, Some, option_map, option_and_then, slice_get, refl, sym, ap, ◌∙◌, arith}
use Rattle.std.specs.List.{find, position_from}

mapped : {X Y : Type 0} (f : X → Y) (b : Bool) (x : X) (o : Option Y) (p : Option X) → o ≡ option_map f p → cond b (Some (f x)) o ≡ option_map f (cond b (Some x) p)
mapped f true x o p h = refl
mapped f false x o p h = h

-- the first of a mapped list
pub find_map : {X Y : Type 0} (f : X → Y) (t : Y → Bool) (xs : List X) → find t (map f xs) ≡ option_map f (find (λ x. t (f x)) xs)
find_map f t [] = refl
find_map f t (x ∷ xs) = mapped f (t (f x)) x _ _ (find_map f t xs)

here : {X : Type 0} (get : ℕ → Option X) (b : Bool) (i : ℕ) (x : X) (o : Option ℕ) (p : Option X) → get i ≡ Some x → option_and_then get o ≡ p → option_and_then get (cond b (Some i) o) ≡ cond b (Some x) p
here get true i x o p at rest = at
here get false i x o p at rest = rest

place_from : {X : Type 0} (t : X → Bool) (all : List X) (i : ℕ) (xs : List X) → ((k : ℕ) → slice_get all (i + k) ≡ slice_get xs k) → option_and_then (slice_get all) (position_from t i xs) ≡ find t xs
place_from t all i [] rest = refl
place_from t all i (x ∷ xs) rest =
    let none : i + 0 ≡ i = omega arith in
    here (slice_get all) (t x) i x (position_from t (i + 1) xs) (find t xs) (ap (slice_get all) (sym none) ∙ rest 0)
    (place_from t all (i + 1) xs (λ k. let next : i + 1 + k ≡ i + suc k = omega arith in ap (slice_get all) next ∙ rest (suc k)))

-- what stands at the first place is what is found first
pub at_place : {X : Type 0} (t : X → Bool) (xs : List X) → option_and_then (slice_get xs) (position_from t 0 xs) ≡ find t xs
at_place t xs = place_from t xs 0 xs (λ k. let same : 0 + k ≡ k = omega arith in ap (slice_get xs) same)

-- what is shown of what stands at the first place
pub shown_at_place : {X Y : Type 0} (f : X → Y) (t : Y → Bool) (xs : List X) (place : Option ℕ) → place ≡ position_from (λ x. t (f x)) 0 xs → option_map f (option_and_then (slice_get xs) place) ≡ find t (map f xs)
shown_at_place f t xs place is =
    ap (λ (p : Option ℕ). option_map f (option_and_then (slice_get xs) p)) is
    ∙ ap (option_map f) (at_place (λ x. t (f x)) xs)
    ∙ sym (find_map f t xs)

-- two tests that agree find the same place
pub same_place : {X : Type 0} (t u : X → Bool) (i : ℕ) (xs : List X) → ((x : X) → t x ≡ u x) → position_from t i xs ≡ position_from u i xs
same_place t u i [] same = refl
same_place t u i (x ∷ xs) same = rw (same x, same_place t u (i + 1) xs same) refl
