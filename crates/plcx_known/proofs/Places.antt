-- First places in lists, and what stands there.
use Rattle.std.proofs.Common.{◌≡◌, ℕ, zero, suc, ◌+◌, ◌<◌, ◌≤◌, inl, inr, Bool, true, false, cond, ◌||◌, List, [], ◌∷◌, Option, Some, map, take, drop, length, option_map, option_and_then, slice_get, refl, sym, ap, ◌∙◌, arith}
use Rattle.std.specs.Prelude.{is_some, nat_lt}
use Rattle.std.specs.List.{find, list_any, position_from}
use Rattle.std.proofs.lemmas.Bool.Decides.{nat_tests}
use Rattle.std.proofs.lemmas.Option.{slice_get_cases}
use Rattle.plcx_types.specs.Name.{in_lower_case}
use Rattle.plcx_state.specs.Tables.{found_or, number_if}
use Rattle.plcx_state.proofs.Tables.{more}
use Rattle.plcx_meaning.proofs.Names.{bytes_swapped}
use Rattle.plcx_conditions.specs.Known.{same_name}
use Rattle.plcx_known.specs.Names.{first_place, is_before, has_key}

-- two tests that agree find the same place
pub same_place : {X : Type 0} (t u : X → Bool) (i : ℕ) (xs : List X) → ((x : X) → t x ≡ u x) → position_from t i xs ≡ position_from u i xs
same_place t u i [] same = refl
same_place t u i (x ∷ xs) same = rw (same x, same_place t u (i + 1) xs same) refl

-- the first of a mapped list
pub place_map : {X Y : Type 0} (t : Y → Bool) (f : X → Y) (i : ℕ) (xs : List X) → position_from t i (map f xs) ≡ position_from (λ x. t (f x)) i xs
place_map t f i [] = refl
place_map t f i (x ∷ xs) = ap (cond (t (f x)) (Some i)) (place_map t f (i + 1) xs)

mapped : {X Y : Type 0} (f : X → Y) (b : Bool) (x : X) (o : Option Y) (p : Option X) → o ≡ option_map f p → cond b (Some (f x)) o ≡ option_map f (cond b (Some x) p)
mapped f true x o p h = refl
mapped f false x o p h = h

pub find_map : {X Y : Type 0} (f : X → Y) (t : Y → Bool) (xs : List X) → find t (map f xs) ≡ option_map f (find (λ x. t (f x)) xs)
find_map f t [] = refl
find_map f t (x ∷ xs) = mapped f (t (f x)) x _ _ (find_map f t xs)

pub any_map : {X Y : Type 0} (t : Y → Bool) (f : X → Y) (xs : List X) → list_any t (map f xs) ≡ list_any (λ x. t (f x)) xs
any_map t f [] = refl
any_map t f (x ∷ xs) = ap (λ b. t (f x) || b) (any_map t f xs)

pub any_take_map : {X Y : Type 0} (t : Y → Bool) (f : X → Y) (i : ℕ) (xs : List X) → list_any t (take i (map f xs)) ≡ list_any (λ x. t (f x)) (take i xs)
any_take_map t f zero xs = refl
any_take_map t f (suc i) [] = refl
any_take_map t f (suc i) (x ∷ xs) = ap (λ b. t (f x) || b) (any_take_map t f i xs)

-- ---- a name by its key

pub by_key : (name : List ℕ) (names : List (List ℕ)) → position_from (has_key (in_lower_case name)) 0 names ≡ first_place name names
by_key name names = same_place (has_key (in_lower_case name)) (λ n. same_name n name) 0 names (λ n. bytes_swapped (in_lower_case name) (in_lower_case n))

-- ---- whether there is one

some_if : (b : Bool) (i : ℕ) (c : Bool) (o : Option ℕ) → c ≡ is_some o → (b || c) ≡ is_some (cond b (Some i) o)
some_if true i c o h = refl
some_if false i c o h = h

pub any_place : {X : Type 0} (t : X → Bool) (i : ℕ) (xs : List X) → list_any t xs ≡ is_some (position_from t i xs)
any_place t i [] = refl
any_place t i (x ∷ xs) = some_if (t x) i _ _ (any_place t (i + 1) xs)

pub has_one : (name : List ℕ) (names : List (List ℕ)) → is_some (first_place name names) ≡ list_any (λ n. same_name n name) names
has_one name names = sym (any_place (λ n. same_name n name) 0 names)

-- ---- whether there is one before a place

not_less : (i k : ℕ) → i ≤ k → nat_lt k i ≡ false
not_less i k h = grind (arith, nat_tests)

less : (i k : ℕ) → nat_lt i (i + suc k) ≡ true
less i k = grind (arith, nat_tests)

none_by : (b : Bool) (k i : ℕ) (o : Option ℕ) → i ≤ k → is_before o i ≡ false → is_before (cond b (Some k) o) i ≡ false
none_by true k i o h rest = not_less i k h
none_by false k i o h rest = rest

none_before : {X : Type 0} (t : X → Bool) (k i : ℕ) (xs : List X) → i ≤ k → is_before (position_from t k xs) i ≡ false
none_before t k i [] h = refl
none_before t k i (x ∷ xs) h = none_by (t x) k i (position_from t (k + 1) xs) h (none_before t (k + 1) i xs (omega (arith, h)))

any_by : (b c : Bool) (k i : ℕ) (o : Option ℕ) → c ≡ is_before o (k + suc i) → (b || c) ≡ is_before (cond b (Some k) o) (k + suc i)
any_by true c k i o rest = sym (less k i)
any_by false c k i o rest = rest

pub any_before : {X : Type 0} (t : X → Bool) (k i : ℕ) (xs : List X) → list_any t (take i xs) ≡ is_before (position_from t k xs) (k + i)
any_before t k zero xs = sym (none_before t k (k + 0) xs (omega arith))
any_before t k (suc i) [] = refl
any_before t k (suc i) (x ∷ xs) =
    let next : k + 1 + i ≡ k + suc i = omega arith in
    any_by (t x) (list_any t (take i xs)) k i (position_from t (k + 1) xs) (any_before t (k + 1) i xs ∙ ap (is_before (position_from t (k + 1) xs)) next)

pub before_one : (name : List ℕ) (names : List (List ℕ)) (place : ℕ) → is_before (first_place name names) place ≡ list_any (λ n. same_name n name) (take place names)
before_one name names place = let same : 0 + place ≡ place = omega arith in ap (is_before (first_place name names)) (sym same) ∙ sym (any_before (λ n. same_name n name) 0 place names)

-- ---- what stands at a place

here : {X : Type 0} (get : ℕ → Option X) (b : Bool) (i : ℕ) (x : X) (o : Option ℕ) (p : Option X) → get i ≡ Some x → option_and_then get o ≡ p → option_and_then get (cond b (Some i) o) ≡ cond b (Some x) p
here get true i x o p at rest = at
here get false i x o p at rest = rest

place_from : {X : Type 0} (t : X → Bool) (all : List X) (i : ℕ) (xs : List X) → ((k : ℕ) → slice_get all (i + k) ≡ slice_get xs k) → option_and_then (slice_get all) (position_from t i xs) ≡ find t xs
place_from t all i [] rest = refl
place_from t all i (x ∷ xs) rest =
    let none : i + 0 ≡ i = omega arith in
    here (slice_get all) (t x) i x (position_from t (i + 1) xs) (find t xs) (ap (slice_get all) (sym none) ∙ rest 0)
    (place_from t all (i + 1) xs (λ k. let next : i + 1 + k ≡ i + suc k = omega arith in ap (slice_get all) next ∙ rest (suc k)))

-- what stands at the first place is what is found first
pub at_place : {X : Type 0} (t : X → Bool) (xs : List X) → option_and_then (slice_get xs) (position_from t 0 xs) ≡ find t xs
at_place t xs = place_from t xs 0 xs (λ k. let same : 0 + k ≡ k = omega arith in ap (slice_get xs) same)

-- what stands in a mapped list
pub get_map : {X Y : Type 0} (f : X → Y) (xs : List X) (i : ℕ) → slice_get (map f xs) i ≡ option_map f (slice_get xs i)
get_map f [] i = refl
get_map f (x ∷ xs) zero = refl
get_map f (x ∷ xs) (suc i) = get_map f xs i

-- ---- a table as it grows

-- one more, which is read by its place
pub more_at : {X : Type 0} (t : X → Bool) (b : Option X → Bool) (i : ℕ) (xs : List X) (o after w : Option ℕ) → i < length xs → ((x : X) → b (Some x) ≡ t x) → after ≡ found_or o (number_if (b (slice_get xs i)) i)
    → found_or o (position_from t i (drop i xs)) ≡ w → found_or after (position_from t (i + 1) (drop (i + 1) xs)) ≡ w
more_at t b i xs o after w h same is before = elim (slice_get_cases xs i).1 [
  | inl c ↦ more t i xs c.0 o after w h (sym c.3) (is ∙ ap (λ v. found_or o (number_if v i)) (ap b c.2 ∙ same c.0)) before
  | inr c ↦ absurd (omega (arith, h, c.0))
]
