-- Flags and counts of one level more, and the first POU that is too large.
use Rattle.std.proofs.Common.{◌≡◌, ℕ, suc, zero, ◌+◌, Bool, true, List, [], ◌∷◌, map, fold, Option, Some, None, option_map, slice_get, refl, ap, ◌∙◌, arith}
use Rattle.std.specs.List.{list_any}
use Rattle.plcx_profile.specs.declared.sizes.Content.{Content}
use Rattle.plcx_profile.specs.declared.sizes.Size.{Size}
use Rattle.plcx_profile.specs.Rounds.{flag_or, count_or, reached, summed}
use Rattle.plcx_profile.specs.Sizes.{plus, own, holds_at, reaches, count_at, total}

get_map : {A B : Type 0} (f : A → B) (xs : List A) (i : ℕ) → slice_get (map f xs) i ≡ option_map f (slice_get xs i)
get_map f [] i = refl
get_map f (x ∷ xs) zero = refl
get_map f (x ∷ xs) (suc i) = get_map f xs i

flag_of : (f : Content → Bool) (o : Option Content) → flag_or (option_map f o) ≡ holds_at f o
flag_of f None = refl
flag_of f (Some c) = refl

count_of : (f : Content → ℕ) (o : Option Content) → count_or (option_map f o) ≡ count_at f o
count_of f None = refl
count_of f (Some c) = refl

pub flag_at_place : (f : Content → Bool) (cs : List Content) (b : ℕ) → flag_or (slice_get (map f cs) b) ≡ holds_at f (slice_get cs b)
flag_at_place f cs b = ap flag_or (get_map f cs b) ∙ flag_of f (slice_get cs b)

pub count_at_place : (f : Content → ℕ) (cs : List Content) (b : ℕ) → count_or (slice_get (map f cs) b) ≡ count_at f (slice_get cs b)
count_at_place f cs b = ap count_or (get_map f cs b) ∙ count_of f (slice_get cs b)

any_same : (f g : ℕ → Bool) → ((b : ℕ) → f b ≡ g b) → (bs : List ℕ) → list_any f bs ≡ list_any g bs
any_same f g same [] = refl
any_same f g same (b ∷ bs) = rw (same b, any_same f g same bs) refl

fold_same : (f g : ℕ → ℕ) → ((b : ℕ) → f b ≡ g b) → (n : ℕ) (bs : List ℕ) → fold (λ m (b : ℕ). plus m (f b)) n bs ≡ fold (λ m (b : ℕ). plus m (g b)) n bs
fold_same f g same n [] = refl
fold_same f g same n (b ∷ bs) = rw (same b) (fold_same f g same (plus n (g b)) bs)

map_same : {A B : Type 0} (f g : A → B) → ((x : A) → f x ≡ g x) → (xs : List A) → map f xs ≡ map g xs
map_same f g same [] = refl
map_same f g same (x ∷ xs) = rw (same x, map_same f g same xs) refl

pub deeper_is : (cs : List Content) (n : ℕ) → map (reached (map (reaches cs n) cs)) cs ≡ map (reaches cs (suc n)) cs
unfolding reaches reached
deeper_is cs n = map_same _ (reaches cs (suc n)) (λ c. any_same _ _ (flag_at_place (reaches cs n) cs) c.blocks) cs

pub none_deep : (cs : List Content) → map (λ (c : Content). true) cs ≡ map (reaches cs 0) cs
unfolding reaches
none_deep cs = refl

pub larger_is : (cs : List Content) (size : Size) (n : ℕ) → map (summed size (map (total cs size n) cs)) cs ≡ map (total cs size (suc n)) cs
unfolding total summed
larger_is cs size n = map_same _ (total cs size (suc n)) (λ c. fold_same _ _ (count_at_place (total cs size n) cs) (own size c) c.blocks) cs

pub none_large : (cs : List Content) (size : Size) → map (λ (c : Content). 0) cs ≡ map (total cs size 0) cs
unfolding total
none_large cs size = refl

pub deeper_from : (cs : List Content) (flags : List Bool) (n : ℕ) → flags ≡ map (reaches cs n) cs → map (reached flags) cs ≡ map (reaches cs (n + 1)) cs
deeper_from cs flags n is =
    let next : n + 1 ≡ suc n = omega arith in
    rw (is, next) (deeper_is cs n)

pub larger_from : (cs : List Content) (size : Size) (counts : List ℕ) (n : ℕ) → counts ≡ map (total cs size n) cs → map (summed size counts) cs ≡ map (total cs size (n + 1)) cs
larger_from cs size counts n is =
    let next : n + 1 ≡ suc n = omega arith in
    rw (is, next) (larger_is cs size n)
