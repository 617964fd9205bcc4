-- Lists: what holds of each element, what a list contains, and lists of names in which none stands twice.
use Rattle.std.proofs.Common.{◌≡◌, ℕ, zero, suc, ◌<◌, ◌⊎◌, inl, inr, Bool, true, false, ◌||◌, List, [], ◌∷◌, ◌++◌, map, length, get_or, refl, sym, subst, arith}
use Rattle.std.specs.Prelude.{not}
use Rattle.std.specs.List.{list_any, flat_map, Contains}
use Rattle.std.specs.Str.{bytes_eq}
use Rattle.std.proofs.lemmas.Bool.{and_parts, and_from, or_parts, or_from, not-true, not_from_false}
use Rattle.std.proofs.lemmas.List.Elements.{Contains-append_left, Contains-append_right}
use Rattle.plcx_types.specs.Lists.{Each}
use Rattle.plcx_meaning.specs.Base.{are_distinct}

-- an element is the first, or one of the rest
pub contains_cases : {A : Type 0} (x : A) (xs : List A) (y : A) → Contains (x ∷ xs) y → (x ≡ y) ⊎ Contains xs y
contains_cases x xs y h = at h.0 h.1 h.2
  where
    at : (k : ℕ) → k < length (x ∷ xs) → get_or (x ∷ xs) k y ≡ y → (x ≡ y) ⊎ Contains xs y
    at zero low e = inl e
    at (suc k) low e = inr (k, omega arith, e)

pub contains_first : {A : Type 0} (x : A) (xs : List A) → Contains (x ∷ xs) x
contains_first x xs = (0, omega arith, refl)

pub contains_later : {A : Type 0} (x : A) (xs : List A) (y : A) → Contains xs y → Contains (x ∷ xs) y
contains_later x xs y h = let low = h.1 in (suc h.0, omega arith, h.2)

pub contains_none : {A : Type 0} (y : A) → Contains [] y → ⊥
contains_none y h = let low = h.1 in omega arith

-- what holds of each element holds of one
pub each_at : {A : Type 0} (P : A → Type 0) (xs : List A) (y : A) → Each P xs → Contains xs y → P y
each_at P [] y all h = absurd (contains_none y h)
each_at P (x ∷ xs) y all h = elim (contains_cases x xs y h) [ inl e ↦ subst P e all.0 | inr k ↦ each_at P xs y all.1 k ]

pub each_from : {A : Type 0} (P : A → Type 0) (xs : List A) → ((y : A) → Contains xs y → P y) → Each P xs
each_from P [] f = tt
each_from P (x ∷ xs) f = (f x (contains_first x xs), each_from P xs (λ y h. f y (contains_later x xs y h)))

pub each_weaker : {A : Type 0} (P Q : A → Type 0) (xs : List A) → ((y : A) → P y → Q y) → Each P xs → Each Q xs
each_weaker P Q [] f all = tt
each_weaker P Q (x ∷ xs) f all = (f x all.0, each_weaker P Q xs f all.1)

pub each_append : {A : Type 0} (P : A → Type 0) (xs ys : List A) → Each P xs → Each P ys → Each P (xs ++ ys)
each_append P [] ys all more = more
each_append P (x ∷ xs) ys all more = (all.0, each_append P xs ys all.1 more)

pub each_map : {A B : Type 0} (P : B → Type 0) (f : A → B) (xs : List A) → Each (λ x. P (f x)) xs → Each P (map f xs)
each_map P f [] all = tt
each_map P f (x ∷ xs) all = (all.0, each_map P f xs all.1)

pub each_flat_map : {A B : Type 0} (P : B → Type 0) (f : A → List B) (xs : List A) → Each (λ x. Each P (f x)) xs → Each P (flat_map f xs)
each_flat_map P f [] all = tt
each_flat_map P f (x ∷ xs) all = each_append P (f x) (flat_map f xs) all.0 (each_flat_map P f xs all.1)

-- an element of a part is one of the whole
pub contains_flat_map : {A B : Type 0} (f : A → List B) (xs : List A) (x : A) (y : B) → Contains xs x → Contains (f x) y → Contains (flat_map f xs) y
contains_flat_map f [] x y h k = absurd (contains_none x h)
contains_flat_map f (z ∷ xs) x y h k =
    elim (contains_cases z xs x h) [ inl e ↦ Contains-append_left (f z) (flat_map f xs) y (subst (λ w. Contains (f w) y) (sym e) k) | inr l ↦ Contains-append_right (f z) (flat_map f xs) y (contains_flat_map f xs x y l k) ]

pub contains_map : {A B : Type 0} (f : A → B) (xs : List A) (x : A) → Contains xs x → Contains (map f xs) (f x)
contains_map f [] x h = absurd (contains_none x h)
contains_map f (z ∷ xs) x h =
    elim (contains_cases z xs x h) [ inl e ↦ subst (λ w. Contains (f z ∷ map f xs) (f w)) e (contains_first (f z) (map f xs)) | inr l ↦ contains_later (f z) (map f xs) (f x) (contains_map f xs x l) ]

-- an element that passes a test
pub passing : {A : Type 0} (test : A → Bool) (xs : List A) → list_any test xs ≡ true → (x : A) × Contains xs x × (test x ≡ true)
passing test [] h = absurd (cc)
passing test (x ∷ xs) h = by_test (test x) refl (λ k. passing test xs k) h
  where
    by_test : (b : Bool) → test x ≡ b → (list_any test xs ≡ true → (y : _) × Contains xs y × (test y ≡ true)) → (b || list_any test xs) ≡ true → (y : _) × Contains (x ∷ xs) y × (test y ≡ true)
    by_test true e later k = (x, contains_first x xs, e)
    by_test false e later k = let r = later k in (r.0, contains_later x xs r.0 r.1, r.2)

pub none_passes : {A : Type 0} (test : A → Bool) (xs : List A) (x : A) → list_any test xs ≡ false → Contains xs x → test x ≡ false
none_passes test [] x h k = absurd (contains_none x k)
none_passes test (z ∷ xs) x h k =
    let parts = or_parts (test z) (list_any test xs) h in
    elim (contains_cases z xs x k) [ inl e ↦ subst (λ w. test w ≡ false) e parts.0 | inr l ↦ none_passes test xs x parts.1 l ]

-- none of the names is this one
abbrev pub IsNew : List ℕ → List (List ℕ) → Type 0
IsNew x xs = list_any (bytes_eq x) xs ≡ false

pub distinct_parts : (x : List ℕ) (xs : List (List ℕ)) → are_distinct (x ∷ xs) ≡ true → IsNew x xs × (are_distinct xs ≡ true)
distinct_parts x xs h = let parts = and_parts (not (list_any (bytes_eq x) xs)) (are_distinct xs) h in (not-true (list_any (bytes_eq x) xs) parts.0, parts.1)

pub distinct_from : (x : List ℕ) (xs : List (List ℕ)) → IsNew x xs → are_distinct xs ≡ true → are_distinct (x ∷ xs) ≡ true
distinct_from x xs new h = and_from (not (list_any (bytes_eq x) xs)) (are_distinct xs) (not_from_false (list_any (bytes_eq x) xs) new) h

new_append : (x : List ℕ) (xs ys : List (List ℕ)) → IsNew x xs → IsNew x ys → IsNew x (xs ++ ys)
new_append x [] ys h k = k
new_append x (z ∷ xs) ys h k = let parts = or_parts (bytes_eq x z) (list_any (bytes_eq x) xs) h in or_from (bytes_eq x z) (list_any (bytes_eq x) (xs ++ ys)) parts.0 (new_append x xs ys parts.1 k)

new_left : (x : List ℕ) (xs ys : List (List ℕ)) → IsNew x (xs ++ ys) → IsNew x xs × IsNew x ys
new_left x [] ys h = (refl, h)
new_left x (z ∷ xs) ys h =
    let parts = or_parts (bytes_eq x z) (list_any (bytes_eq x) (xs ++ ys)) h in
    let rest = new_left x xs ys parts.1 in
    (or_from (bytes_eq x z) (list_any (bytes_eq x) xs) parts.0 rest.0, rest.1)

-- two lists that share no name
pub distinct_join : (xs ys : List (List ℕ)) → are_distinct xs ≡ true → are_distinct ys ≡ true → Each (λ x. IsNew x ys) xs → are_distinct (xs ++ ys) ≡ true
distinct_join [] ys h k new = k
distinct_join (x ∷ xs) ys h k new =
    let parts = distinct_parts x xs h in
    distinct_from x (xs ++ ys) (new_append x xs ys parts.0 new.0) (distinct_join xs ys parts.1 k new.1)

pub distinct_split : (xs ys : List (List ℕ)) → are_distinct (xs ++ ys) ≡ true → (are_distinct xs ≡ true) × (are_distinct ys ≡ true) × Each (λ x. IsNew x ys) xs
distinct_split [] ys h = (refl, h, tt)
distinct_split (x ∷ xs) ys h =
    let parts = distinct_parts x (xs ++ ys) h in
    let new = new_left x xs ys parts.0 in
    let rest = distinct_split xs ys parts.1 in
    (distinct_from x xs new.0 rest.0, rest.1, (new.1, rest.2))
