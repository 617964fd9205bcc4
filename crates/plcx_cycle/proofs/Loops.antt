-- Layouts and sides of instances, one more at the end.
use Rattle.std.proofs.Common.{◌≡◌, ◌<◌, ◌≤◌, ◌+◌, ◌∙◌, ◌∷◌, ◌++◌, ◌⊎◌, inl, inr, ℕ, zero, suc, List, [], Some, take, length, get_or, refl, sym, ap, subst, length-append}
use Rattle.std.specs.Prelude.{slice_get}
use Rattle.std.proofs.lemmas.List.{take_more, take_all}
use Rattle.std.proofs.lemmas.Option.{same_Some, slice_get_read}
use Rattle.plcx_types.specs.Lists.{Each}
use Rattle.plcx_meaning.specs.Diagram.{Project}
use Rattle.plcx_state.specs.Layouts.{Laid}
use Rattle.plcx_state.specs.Retains.{Pairwise, initially_kept}
use Rattle.plcx_state.proofs.Eaches.{each_get}
use Rattle.plcx_state.proofs.Pairing.{pairs_push}
use Rattle.plcx_eval.specs.declared.side.DiagramSide.{DiagramSide}
use Rattle.plcx_eval.specs.Sides.{IsOpened}
use Rattle.plcx_tasks.specs.declared.planning.Instance.{Instance}
use Rattle.plcx_cycle.specs.Sides.{AreOpened}

-- the item that was read at a place
pub item_at : {A : Type 0} (xs : List A) (i : ℕ) (x : A) → i < length xs → x ≡ get_or xs i x → slice_get xs i ≡ Some x
item_at xs i x lt is = slice_get_read xs (length xs) i x refl lt is

pub each_item : {A : Type 0} (P : A → Type 0) (xs : List A) (i : ℕ) (x : A) → i < length xs → x ≡ get_or xs i x → Each P xs → P x
each_item P xs i x lt is all = each_get P xs i x (item_at xs i x lt is) all

module _ {A B : Type 0} (R : A → B → Type 0) where
  pub pairs_more : (xs : List A) (ys : List B) (i : ℕ) (x : A) (y : B) → i < length xs → x ≡ get_or xs i x → Pairwise R (take i xs) ys → R x y → Pairwise R (take (i + 1) xs) (ys ++ y ∷ [])
  pairs_more xs ys i x y lt is h r = subst (λ (zs : List A). Pairwise R zs (ys ++ y ∷ [])) (sym (take_more xs i x lt)) (pairs_push R (take i xs) ys (get_or xs i x) y h (subst (λ z. R z y) is r))

  pub pairs_all : (xs : List A) (ys : List B) (i : ℕ) → length xs ≤ i → Pairwise R (take i xs) ys → Pairwise R xs ys
  pairs_all xs ys i le h = subst (λ (zs : List A). Pairwise R zs ys) (take_all i xs le) h

-- an item of a list with one more
push_at : {A : Type 0} (xs : List A) (x : A) (k : ℕ) (y : A) → slice_get (xs ++ x ∷ []) k ≡ Some y → (slice_get xs k ≡ Some y) ⊎ ((k ≡ length xs) × (y ≡ x))
push_at [] x zero y e = inr (refl, sym (same_Some x y e))
push_at [] x (suc k) y e = absurd (cc)
push_at (z ∷ xs) x zero y e = inl e
push_at {A} (z ∷ xs) x (suc k) y e = by (push_at xs x k y e)
  where
    by : (slice_get xs k ≡ Some y) ⊎ ((k ≡ length xs) × (y ≡ x)) → (slice_get (z ∷ xs) (suc k) ≡ Some y) ⊎ ((suc k ≡ suc (length xs)) × (y ≡ x))
    by (inl h) = inl h
    by (inr h) = inr (ap suc h.0, h.1)

-- sides of the first instances
pub record AreOpenedTo (project : Project) (xs : List Instance) (lays : List Laid) (n : ℕ) (sides : List DiagramSide) : Type 0 where
  pub long : length sides ≡ n
  pub each : (i : ℕ) (x : Instance) (l : Laid) (s : DiagramSide) → slice_get xs i ≡ Some x → slice_get lays i ≡ Some l → slice_get sides i ≡ Some s → IsOpened project x.program (initially_kept l.leaves) s

pub opened_none : (project : Project) (xs : List Instance) (lays : List Laid) → AreOpenedTo project xs lays 0 []
opened_none project xs lays = record { long = refl; each = λ i x l s a b c. absurd (cc) }

pub opened_more : (project : Project) (xs : List Instance) (lays : List Laid) (n : ℕ) (sides : List DiagramSide) (x : Instance) (l : Laid) (s : DiagramSide) → AreOpenedTo project xs lays n sides
    → slice_get xs n ≡ Some x → slice_get lays n ≡ Some l → IsOpened project x.program (initially_kept l.leaves) s → AreOpenedTo project xs lays (n + 1) (sides ++ s ∷ [])
opened_more project xs lays n sides x l s h at there opened = record { long = length-append sides (s ∷ []) ∙ ap (λ k. k + 1) h.long; each = λ i y m t a b c. by i y m t a b (push_at sides s i t c) }
  where
    by : (i : ℕ) (y : Instance) (m : Laid) (t : DiagramSide) → slice_get xs i ≡ Some y → slice_get lays i ≡ Some m → (slice_get sides i ≡ Some t) ⊎ ((i ≡ length sides) × (t ≡ s)) → IsOpened project y.program (initially_kept m.leaves) t
    by i y m t a b (inl c) = h.each i y m t a b c
    by i y m t a b (inr c) =
        let place : i ≡ n = c.0 ∙ h.long in
        let same_x : x ≡ y = same_Some x y (sym at ∙ ap (slice_get xs) (sym place) ∙ a) in
        let same_l : l ≡ m = same_Some l m (sym there ∙ ap (slice_get lays) (sym place) ∙ b) in
        subst (λ (z : DiagramSide). IsOpened project y.program (initially_kept m.leaves) z) (sym c.1)
        (subst (λ (z : Laid). IsOpened project y.program (initially_kept z.leaves) s) same_l (subst (λ (z : Instance). IsOpened project z.program (initially_kept l.leaves) s) same_x opened))

pub opened_all : (project : Project) (xs : List Instance) (lays : List Laid) (n : ℕ) (sides : List DiagramSide) → n ≡ length xs → AreOpenedTo project xs lays n sides → AreOpened project xs lays sides
opened_all project xs lays n sides all h = record { long = h.long ∙ all; each = h.each }
