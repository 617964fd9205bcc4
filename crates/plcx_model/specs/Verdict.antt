-- The first broken rule, and where it is broken: what a rule is may be anything here.
use Rattle.std.specs.Prelude.{Bool, List, [], ◌∷◌, Option, Some, None, if◌then◌else◌}

-- x is the first of which P holds; P is told those before, last first
pub data IsFirst {A : Type 0} (P : List A → A → Type 0) : List A → List A → A → Type 0 where
  Here : {before xs : List A} {x : A} → P before x → IsFirst P before (x ∷ xs) x
  Later : {before xs : List A} {x y : A} → (P before y → ⊥) → IsFirst P (y ∷ before) xs x → IsFirst P before (y ∷ xs) x

-- P holds of none
abbrev pub Never : {A : Type 0} → (List A → A → Type 0) → List A → List A → Type 0
Never P before [] = Unit {0}
Never P before (x ∷ xs) = (P before x → ⊥) × Never P (x ∷ before) xs

-- the rules are tested in their order: the answer is the first that is broken, and its place at the first item that breaks it
pub data Verdict {R A P : Type 0} (Breaks : R → List A → A → Type 0) (place : R → A → P) (items : List A) : List R → Option (R × P) → Type 0 where
  Kept : Verdict Breaks place items [] None
  Broken : {r : R} {rules : List R} {x : A} → IsFirst (Breaks r) [] items x → Verdict Breaks place items (r ∷ rules) (Some (r, place r x))
  Next : {r : R} {rules : List R} {v : Option (R × P)} → Never (Breaks r) [] items → Verdict Breaks place items rules v → Verdict Breaks place items (r ∷ rules) v

-- Serves proofs: the first that passes a test, which is told those before.
abbrev pub first_breaking : {A : Type 0} → (List A → A → Bool) → List A → List A → Option A
first_breaking test before [] = None
first_breaking test before (x ∷ xs) = if test before x then Some x else first_breaking test (x ∷ before) xs
