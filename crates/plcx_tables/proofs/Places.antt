-- What holds at each place of a list, and where in it something stands first.
use Rattle.std.proofs.Common.{◌≡◌, ℕ, zero, suc, ◌+◌, ◌<◌, ◌≤◌, Bool, true, false, cond, List, [], ◌∷◌, ◌++◌, map, drop, take, get_or, length, Option, Some, None, refl, sym, ap, ◌∙◌, subst, arith, inl, inr, ◌⊎◌}
use Rattle.std.specs.Prelude.{slice_get}
use Rattle.std.specs.List.{position_from}
use Rattle.std.proofs.lemmas.List.{at_drop_all, take_more}
use Rattle.std.proofs.lemmas.List.Elements.{filter_map-append}
use Rattle.std.proofs.lemmas.Grind.{flat_map-append}
use Rattle.std.proofs.lemmas.Option.{get_or_from_slice_get, slice_get_within}
use Rattle.plcx_drawn.proofs.Walks.{left}
use Rattle.plcx_meaning.specs.Base.{Memory}
use Rattle.plcx_meaning.specs.Diagram.{DiagramElement, ports}
use Rattle.plcx_drawn.specs.declared.element.Element.{Element}
use Rattle.plcx_drawn.specs.Shown.{shown_element}
use Rattle.plcx_targets.specs.Labels.{network_of}
use Rattle.plcx_tables.specs.Owned.{outputs_of}
use Rattle.plcx_tables.specs.Numbering.{outputs}

less_or_same : (a b : ℕ) → a < b + 1 → (a < b) ⊎ (a ≡ b)
less_or_same zero zero h = inr refl
less_or_same zero (suc b) h = inl (omega arith)
less_or_same (suc a) zero h = absurd (omega arith)
less_or_same (suc a) (suc b) h = elim (less_or_same a b (omega arith)) [ inl l ↦ inl (omega arith) | inr e ↦ inr (ap suc e) ]

-- what holds at each place below one, and there
pub more_hold : {A : Type 0} (Q : A → Type 0) (xs : List A) (i : ℕ) (x : A) → x ≡ get_or xs i x → Q x → ((k : ℕ) (p : A) → k < i → slice_get xs k ≡ Some p → Q p) → (k : ℕ) (p : A) → k < i + 1 → slice_get xs k ≡ Some p → Q p
more_hold Q xs i x is here before k p low there = elim (less_or_same k i low) [
  | inl l ↦ before k p l there
  | inr e ↦ (let same : x ≡ p = is ∙ ap (λ n. get_or xs n x) (sym e) ∙ get_or_from_slice_get xs k p x there in subst Q same here)
]

pub all_hold : {A : Type 0} (Q : A → Type 0) (xs : List A) (i : ℕ) → length xs ≤ i → ((k : ℕ) (p : A) → k < i → slice_get xs k ≡ Some p → Q p) → (k : ℕ) (p : A) → slice_get xs k ≡ Some p → Q p
all_hold Q xs i high below k p there = let low = slice_get_within xs k p there in below k p (omega arith) there

-- the first that passes is here, further on, or nowhere
module _ {X Y : Type 0} (test : Y → Bool) (f : X → Y) (xs : List X) (i : ℕ) (w : Option ℕ) where
  pub is_here : (x : X) → i < length xs → x ≡ get_or xs i x → test (f x) ≡ true → position_from test i (map f (drop i xs)) ≡ w → Some i ≡ w
  is_here x low is passes before =
      sym (ap (λ b. cond b (Some i) (position_from test (i + 1) (map f (drop (i + 1) xs)))) passes) ∙ sym (ap (λ ys. position_from test i (map f ys)) (left xs i x low is)) ∙ before

  pub is_later : (x : X) → i < length xs → x ≡ get_or xs i x → test (f x) ≡ false → position_from test i (map f (drop i xs)) ≡ w → position_from test (i + 1) (map f (drop (i + 1) xs)) ≡ w
  is_later x low is fails before =
      sym (ap (λ b. cond b (Some i) (position_from test (i + 1) (map f (drop (i + 1) xs)))) fails) ∙ sym (ap (λ ys. position_from test i (map f ys)) (left xs i x low is)) ∙ before

  pub is_nowhere : length xs ≤ i → position_from test i (map f (drop i xs)) ≡ w → None ≡ w
  is_nowhere high before = sym (at_drop_all (λ ys. position_from test i (map f ys)) xs i high) ∙ before

-- the outputs of the element at one place more
pub outputs_more : (P : List Memory → Type 0) (elements : List Element) (places : List ℕ) (i d : ℕ) → i < length places
    → P (outputs (network_of elements (take i places)) ++ outputs (network_of elements (get_or places i d ∷ []))) → P (outputs (network_of elements (take (i + 1) places)))
outputs_more P elements places i d low h =
    let split : outputs (network_of elements (take (i + 1) places)) ≡ outputs (network_of elements (take i places)) ++ outputs (network_of elements (get_or places i d ∷ [])) =
    ap (λ ps. outputs (network_of elements ps)) (take_more places i d low)
    ∙ ap outputs (filter_map-append (slice_get (map shown_element elements)) (take i places) (get_or places i d ∷ []))
    ∙ flat_map-append (λ (e : DiagramElement). outputs_of e.id (ports e.kind)) (network_of elements (take i places)) (network_of elements (get_or places i d ∷ [])) in
    subst P (sym split) h
