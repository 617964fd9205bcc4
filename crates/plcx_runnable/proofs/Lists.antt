-- What stands at a place of a list that is made of another.
use Rattle.std.proofs.Common.{◌≡◌, ℕ, zero, suc, ◌+◌, ◌-◌, ◌<◌, ◌≤◌, List, [], ◌∷◌, ◌++◌, length, map, replicate, Some, refl, sym, ap, ap₂, ◌∙◌, subst, arith}
use Rattle.std.specs.Prelude.{slice_get, option_map, min}
use Rattle.std.specs.List.{flat_map}
use Rattle.std.proofs.lemmas.List.{length-take, length-drop, length-replicate, get_or-replicate}
use Rattle.std.proofs.lemmas.Option.{slice_get-map, slice_get-get_or, same_Some}
use Rattle.plcx_types.specs.Lists.{Each}
use Rattle.plcx_numbered.specs.Right.{HasAt}
use Rattle.plcx_numbered.proofs.Elements.{at_parts}

-- what comes of what stands there
pub mapped_at : {A B : Type 0} (f : A → B) (xs : List A) (i : ℕ) (x : A) → slice_get xs i ≡ Some x → slice_get (map f xs) i ≡ Some (f x)
mapped_at f xs i x h = slice_get-map f xs i ∙ ap (option_map f) h

-- and what it comes of
pub mapped_from : {A B : Type 0} (f : A → B) (xs : List A) (i : ℕ) (y : B) → slice_get (map f xs) i ≡ Some y → (x : A) × (slice_get xs i ≡ Some x) × (f x ≡ y)
mapped_from f [] i y h = absurd (cc)
mapped_from f (x ∷ xs) zero y h = (x, refl, same_Some (f x) y h)
mapped_from f (x ∷ xs) (suc i) y h = mapped_from f xs i y h

pub map_map : {A B C : Type 0} (g : B → C) (f : A → B) (xs : List A) → map g (map f xs) ≡ map (λ x. g (f x)) xs
map_map g f [] = refl
map_map g f (x ∷ xs) = ap (λ l. g (f x) ∷ l) (map_map g f xs)

pub flat_all : {A B : Type 0} (f g : A → List B) → ((x : A) → f x ≡ g x) → (xs : List A) → flat_map f xs ≡ flat_map g xs
flat_all f g same [] = refl
flat_all f g same (x ∷ xs) = ap₂ (λ a b. a ++ b) (same x) (flat_all f g same xs)

pub each_get : {A : Type 0} (P : A → Type 0) (xs : List A) → Each P xs → (i : ℕ) (x : A) → slice_get xs i ≡ Some x → P x
each_get P [] all i x h = absurd (cc)
each_get P (y ∷ ys) all zero x h = subst P (same_Some y x h) all.0
each_get P (y ∷ ys) all (suc i) x h = each_get P ys all.1 i x h

pub replicate_at : {A : Type 0} (n i : ℕ) (x : A) → i < n → slice_get (replicate n x) i ≡ Some x
replicate_at n i x low = let long = length-replicate n x in slice_get-get_or (replicate n x) i x (omega arith) ∙ ap Some (get_or-replicate n i x x low)

-- a part stands in a list from a place on that lies within it
pub record StandsAt {A : Type 0} (whole : List A) (i : ℕ) (part : List A) : Type 0 where
  pub begins : i ≤ length whole
  pub has : HasAt whole i part

pub stands_within : {A : Type 0} (whole : List A) (i : ℕ) (part : List A) → StandsAt whole i part → i + length part ≤ length whole
stands_within whole i part s =
    let begins = s.begins in
    let long : length part ≡ min (i + length part - i) (length whole - i) = ap length (sym s.has) ∙ simp (length-take, length-drop) in
    omega arith

pub stands_parts : {A : Type 0} (whole : List A) (i : ℕ) (xs ys : List A) → StandsAt whole i (xs ++ ys) → StandsAt whole i xs × StandsAt whole (i + length xs) ys
stands_parts whole i xs ys s =
    let parts = at_parts whole i xs ys s.has in
    let front : StandsAt whole i xs = record { begins = s.begins; has = parts.0 } in
    (front, record { begins = stands_within whole i xs front; has = parts.1 })
