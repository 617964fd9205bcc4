-- The first of what is broken in pieces one after another.
use Rattle.std.proofs.Common.{◌≡◌, ℕ, zero, suc, ◌+◌, ◌<◌, ◌≤◌, List, [], ◌∷◌, ◌++◌, map, take, drop, get_or, slice_get, length, Option, Some, None, refl, sym, ap, ap₂, ◌∙◌, arith}
use Rattle.std.proofs.lemmas.List.{at_drop_more, at_drop_all, map_push, take_more}
use Rattle.plcx_conditions.specs.declared.broken.Broken.{Broken}
use Rattle.plcx_conditions.specs.First.{sooner, first_of}
use Rattle.plcx_conditions.proofs.Firsts.{first_append, sooner_assoc, sooner_none}

-- nothing comes first yet
pub begins : (all : List Broken) → sooner None (first_of all) ≡ first_of all
unfolding sooner
begins all = refl

-- One piece more: rest says what is broken in the pieces from a place on.
pub goes_on : {X : Type 0} (rest : ℕ → List X → List Broken) (xs : List X) (i : ℕ) (x : X) (here : List Broken) (found after whole : Option Broken)
    → i < length xs → x ≡ get_or xs i x → rest i (x ∷ drop (i + 1) xs) ≡ here ++ rest (i + 1) (drop (i + 1) xs) → after ≡ sooner found (first_of here)
    → sooner found (first_of (rest i (drop i xs))) ≡ whole → sooner after (first_of (rest (i + 1) (drop (i + 1) xs))) ≡ whole
goes_on rest xs i x here found after whole less is step more h =
    ap (λ o. sooner o (first_of (rest (i + 1) (drop (i + 1) xs)))) more
    ∙ sooner_assoc found (first_of here) (first_of (rest (i + 1) (drop (i + 1) xs)))
    ∙ ap (sooner found) (sym (first_append here (rest (i + 1) (drop (i + 1) xs))) ∙ ap first_of (sym step))
    ∙ ap (λ y. sooner found (first_of (rest i (y ∷ drop (i + 1) xs)))) is
    ∙ sym (at_drop_more (λ ys. sooner found (first_of (rest i ys))) xs i x less)
    ∙ h

-- no piece more
pub ends : {X : Type 0} (rest : ℕ → List X → List Broken) (xs : List X) (i : ℕ) (found whole : Option Broken)
    → length xs ≤ i → rest i [] ≡ [] → sooner found (first_of (rest i (drop i xs))) ≡ whole → found ≡ whole
unfolding first_of
ends rest xs i found whole more none h =
    sym (sooner_none found) ∙ ap (λ bs. sooner found (first_of bs)) (sym none) ∙ sym (at_drop_all (λ ys. sooner found (first_of (rest i ys))) xs i more) ∙ h

-- ---- several pieces

pub first_two : (xs ys : List Broken) (o p : Option Broken) → o ≡ first_of xs → p ≡ first_of ys → sooner o p ≡ first_of (xs ++ ys)
first_two xs ys o p h k = ap₂ sooner h k ∙ sym (first_append xs ys)

pub first_three : (xs ys zs : List Broken) (o p q : Option Broken) → o ≡ first_of xs → p ≡ first_of ys → q ≡ first_of zs → sooner o (sooner p q) ≡ first_of (xs ++ (ys ++ zs))
first_three xs ys zs o p q h k l = first_two xs (ys ++ zs) o (sooner p q) h (first_two ys zs p q k l)

pub first_four : (xs ys zs ws : List Broken) (o p q r : Option Broken) → o ≡ first_of xs → p ≡ first_of ys → q ≡ first_of zs → r ≡ first_of ws
    → sooner o (sooner p (sooner q r)) ≡ first_of (xs ++ (ys ++ (zs ++ ws)))
first_four xs ys zs ws o p q r h k l m = first_two xs (ys ++ (zs ++ ws)) o (sooner p (sooner q r)) h (first_three ys zs ws p q r k l m)

pub first_five : (xs ys zs ws vs : List Broken) (o p q r t : Option Broken) → o ≡ first_of xs → p ≡ first_of ys → q ≡ first_of zs → r ≡ first_of ws → t ≡ first_of vs
    → sooner o (sooner p (sooner q (sooner r t))) ≡ first_of (xs ++ (ys ++ (zs ++ (ws ++ vs))))
first_five xs ys zs ws vs o p q r t h k l m n = first_two xs (ys ++ (zs ++ (ws ++ vs))) o (sooner p (sooner q (sooner r t))) h (first_four ys zs ws vs p q r t k l m n)

-- ---- lists as they grow

pub grows : {X Y : Type 0} (f : X → Y) (xs : List X) (i : ℕ) (x : X) → i < length xs → x ≡ get_or xs i x → map f (take (i + 1) xs) ≡ map f (take i xs) ++ f x ∷ []
grows f xs i x less is = ap (map f) (take_more xs i x less ∙ ap (λ y. take i xs ++ y ∷ []) (sym is)) ∙ map_push f (take i xs) x

pub stands_at : {X : Type 0} (xs : List X) (i : ℕ) (x : X) → i < length xs → x ≡ get_or xs i x → slice_get xs i ≡ Some x
stands_at [] i x less is = absurd (omega (arith, less))
stands_at (y ∷ ys) zero x less is = ap Some (sym is)
stands_at (y ∷ ys) (suc i) x less is = stands_at ys i x (omega (arith, less)) is
