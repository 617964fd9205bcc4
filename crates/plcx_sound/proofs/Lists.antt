-- Lists, and what no item of one breaks.
use Rattle.std.proofs.Common.{◌≡◌, Bool, true, false, List, [], ◌∷◌, ◌++◌, map, refl, subst, ℕ, zero, suc, Some, slice_get}
use Rattle.std.specs.List.{flat_map}
use Rattle.plcx_types.specs.Lists.{Each}
use Rattle.plcx_model.specs.Verdict.{Never}

pub not_true : (b : Bool) → (b ≡ true → ⊥) → b ≡ false
not_true true h = absurd (h refl)
not_true false h = refl

-- no item breaks a test that isn't told those before
pub unbroken : {A : Type 0} (test : List A → A → Bool) (same : A → Bool) → ((before : List A) (x : A) → test before x ≡ same x) → (before xs : List A)
    → Never (λ (b : List A) (x : A). test b x ≡ true) before xs → Each (λ x. same x ≡ false) xs
unbroken test same is before [] never = tt
unbroken test same is before (x ∷ xs) never = (not_true (same x) (λ h. never.0 (rw (is before x) h)), unbroken test same is (x ∷ before) xs never.1)

pub all_front : {A : Type 0} (P : A → Type 0) (xs ys : List A) → Each P (xs ++ ys) → Each P xs
all_front P [] ys h = tt
all_front P (x ∷ xs) ys h = (h.0, all_front P xs ys h.1)

pub all_back : {A : Type 0} (P : A → Type 0) (xs ys : List A) → Each P (xs ++ ys) → Each P ys
all_back P [] ys h = h
all_back P (x ∷ xs) ys h = all_back P xs ys h.1

pub all_flat : {A B : Type 0} (P : B → Type 0) (f : A → List B) (xs : List A) → Each P (flat_map f xs) → Each (λ x. Each P (f x)) xs
all_flat P f [] h = tt
all_flat P f (x ∷ xs) h = (all_front P (f x) (flat_map f xs) h, all_flat P f xs (all_back P (f x) (flat_map f xs) h))

pub all_mapped : {A B : Type 0} (P : B → Type 0) (f : A → B) (xs : List A) → Each P (map f xs) → Each (λ x. P (f x)) xs
all_mapped P f [] h = tt
all_mapped P f (x ∷ xs) h = (h.0, all_mapped P f xs h.1)

pub all_both : {A : Type 0} (P Q R : A → Type 0) → ((x : A) → P x → Q x → R x) → (xs : List A) → Each P xs → Each Q xs → Each R xs
all_both P Q R both [] p q = tt
all_both P Q R both (x ∷ xs) p q = (both x p.0 q.0, all_both P Q R both xs p.1 q.1)

pub all_of : {A : Type 0} (P : A → Type 0) → ((x : A) → P x) → (xs : List A) → Each P xs
all_of P h [] = tt
all_of P h (x ∷ xs) = (h x, all_of P h xs)

pub all_joined : {A : Type 0} (P : A → Type 0) (xs ys : List A) → Each P xs → Each P ys → Each P (xs ++ ys)
all_joined P [] ys h k = k
all_joined P (x ∷ xs) ys h k = (h.0, all_joined P xs ys h.1 k)

pub flat_all : {A B : Type 0} (P : B → Type 0) (f : A → List B) → ((x : A) → Each P (f x)) → (xs : List A) → Each P (flat_map f xs)
flat_all P f h [] = tt
flat_all P f h (x ∷ xs) = all_joined P (f x) (flat_map f xs) (h x) (flat_all P f h xs)

pub map_all : {A B : Type 0} (P : B → Type 0) (f : A → B) → ((x : A) → P (f x)) → (xs : List A) → Each P (map f xs)
map_all P f h [] = tt
map_all P f h (x ∷ xs) = (h x, map_all P f h xs)

-- what holds of none of a list holds of none of its parts, whatever stands before them
pub never_behind : {A : Type 0} (P : List A → A → Type 0) (before xs ys : List A) → Never P before (xs ++ ys) → (b : List A) × Never P b ys
never_behind P before [] ys never = (before, never)
never_behind P before (x ∷ xs) ys never = never_behind P (x ∷ before) xs ys never.1

pub never_front : {A : Type 0} (P : List A → A → Type 0) (before xs ys : List A) → Never P before (xs ++ ys) → Never P before xs
never_front P before [] ys never = tt
never_front P before (x ∷ xs) ys never = (never.0, never_front P (x ∷ before) xs ys never.1)

pub never_flat : {A B : Type 0} (P : List B → B → Type 0) (f : A → List B) (before : List B) (xs : List A) → Never P before (flat_map f xs) → Each (λ x. (b : List B) × Never P b (f x)) xs
never_flat P f before [] never = tt
never_flat P f before (x ∷ xs) never =
    let rest = never_behind P before (f x) (flat_map f xs) never in
    ((before, never_front P before (f x) (flat_map f xs) never), never_flat P f rest.0 xs rest.1)

pub all_at : {A : Type 0} (P : A → Type 0) (xs : List A) (i : ℕ) (x : A) → slice_get xs i ≡ Some x → Each P xs → P x
all_at P [] i x at h = absurd (cc)
all_at P (y ∷ ys) zero x at h = let same : y ≡ x = cc in subst P same h.0
all_at P (y ∷ ys) (suc i) x at h = all_at P ys i x at h.1

pub all_map : {A : Type 0} (P Q : A → Type 0) → ((x : A) → P x → Q x) → (xs : List A) → Each P xs → Each Q xs
all_map P Q h [] p = tt
all_map P Q h (x ∷ xs) p = (h x p.0, all_map P Q h xs p.1)

-- no item has what would break a test, whatever stands before it
pub unbroken_by : {A : Type 0} (test : List A → A → Bool) (P : A → Type 0) → ((before : List A) (x : A) → test before x ≡ false → P x) → (before xs : List A)
    → Never (λ (b : List A) (x : A). test b x ≡ true) before xs → Each P xs
unbroken_by test P gives before [] never = tt
unbroken_by test P gives before (x ∷ xs) never = (gives before x (not_true (test before x) never.0), unbroken_by test P gives (x ∷ before) xs never.1)
