-- A subject has one verdict.
use Rattle.std.proofs.Common.{◌≡◌, List, [], ◌∷◌, Option, Some, refl, ap}
use Rattle.plcx_model.specs.Verdict.{IsFirst, Here, Later, Never, Verdict, Kept, Broken, Next}

pub one-first : {A : Type 0} (P : List A → A → Type 0) (before xs : List A) (x y : A) → IsFirst P before xs x → IsFirst P before xs y → x ≡ y
one-first P before [] x y p q = elim p [ ]
one-first P before (x ∷ xs) _ _ (Here p) (Here q) = refl
one-first P before (x ∷ xs) _ y (Here p) (Later past q) = absurd (past p)
one-first P before (y ∷ xs) x _ (Later past p) (Here q) = absurd (past q)
one-first P before (z ∷ xs) x y (Later past p) (Later behind q) = one-first P (z ∷ before) xs x y p q

pub first-never : {A : Type 0} (P : List A → A → Type 0) (before xs : List A) (x : A) → IsFirst P before xs x → Never P before xs → ⊥
first-never P before [] x p never = elim p [ ]
first-never P before (x ∷ xs) _ (Here p) never = never.0 p
first-never P before (y ∷ xs) x (Later past p) never = first-never P (y ∷ before) xs x p never.1

pub one-verdict : {R A P : Type 0} (B : R → List A → A → Type 0) (place : R → A → P) (items : List A) (rules : List R) (v w : Option (R × P)) → Verdict B place items rules v → Verdict B place items rules w → v ≡ w
one-verdict B place items [] _ _ Kept Kept = refl
one-verdict B place items (r ∷ rules) v w (Broken p) (Broken q) = ap (λ x. Some (r, place r x)) (one-first (B r) [] items _ _ p q)
one-verdict B place items (r ∷ rules) v w (Broken p) (Next never q) = absurd (first-never (B r) [] items _ p never)
one-verdict B place items (r ∷ rules) v w (Next never p) (Broken q) = absurd (first-never (B r) [] items _ q never)
one-verdict B place items (r ∷ rules) v w (Next _ p) (Next _ q) = one-verdict B place items rules v w p q
