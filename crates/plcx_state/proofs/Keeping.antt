-- Retained states have values of their types.
use Rattle.std.proofs.Common.{◌≡◌, ◌∷◌, ◌∙◌, ℕ, zero, suc, Bool, true, false, List, [], Option, Some, None, map, refl, sym, ap, subst, arith}
use Rattle.std.specs.Prelude.{slice_get, if◌then◌else◌}
use Rattle.std.specs.Option.{option_map}
use Rattle.std.proofs.lemmas.List.{length-map}
use Rattle.std.proofs.lemmas.Option.{same_Some, slice_get-map}
use Rattle.plcx_types.specs.declared.ty.Ty.{Ty}
use Rattle.plcx_types.specs.declared.literal.Literal.{Literal}
use Rattle.plcx_types.specs.declared.literal.Literal.TheVariants.{Typed, Whole}
use Rattle.plcx_types.specs.Literal.{IsTruth, IsForm, IsValueOf, StandsForValue}
use Rattle.plcx_types.specs.Lists.{Each}
use Rattle.plcx_types.specs.Name.{in_lower_case}
use Rattle.plcx_types.specs.Range.{InRange}
use Rattle.plcx_types.specs.Value.{Value}
use Rattle.plcx_meaning.specs.Base.{Path, same_path}
use Rattle.plcx_meaning.specs.Layout.{Leaf as Meant}
use Rattle.plcx_meaning.proofs.Starts.{path_same}
use Rattle.plcx_state.specs.declared.layout.Leaf.{Leaf}
use Rattle.plcx_state.specs.Layouts.{Laid, IsLaid, BeginsTyped, all_meant, meant_path, is_kept}
use Rattle.plcx_state.specs.Retains.{Pairwise, Suits, IsRetainedOf, kept_of, initially_kept}
use Rattle.plcx_state.specs.Lines.{Said, IsLine, AreLines, said_at, kept_by}
use Rattle.plcx_state.proofs.Pairing.{pairs_from}
use Rattle.plcx_state.proofs.Places.{one_leaf}

-- a literal with a type is in its range
abbrev IsRanged : Literal → Type 0
IsRanged (Typed v) = InRange v.ty v.n
IsRanged (Whole n) = Unit {0}

form_ranged : (text : List ℕ) (literal : Literal) → IsForm text literal → IsRanged literal
form_ranged _ _ (IsForm.truth IsTruth.truth) = (omega arith, omega arith)
form_ranged _ _ (IsForm.truth IsTruth.falsehood) = (omega arith, omega arith)
form_ranged _ _ (IsForm.whole h) = tt
form_ranged _ _ (IsForm.typed h range) = range
form_ranged _ _ (IsForm.short_time h range) = range

value_ranged : (t : Ty) (literal : Literal) (v : Value) → IsRanged literal → IsValueOf t literal v → (v.ty ≡ t) × InRange v.ty v.n
value_ranged t (Typed w) v range h = (ap (λ (x : Value). x.ty) h.1 ∙ h.0, subst (λ (x : Value). InRange x.ty x.n) (sym h.1) range)
value_ranged t (Whole n) v range h = (ap (λ (x : Value). x.ty) h.2, subst (λ (x : Value). InRange x.ty x.n) (sym h.2) h.1)

-- what a literal stands for is a value of the type
pub stands_ranged : (t : Ty) (text : List ℕ) (v : Value) → StandsForValue t text v → (v.ty ≡ t) × InRange v.ty v.n
stands_ranged t text v h = value_ranged t h.0 v (form_ranged (in_lower_case text) h.0 h.1) h.2

-- the leaf's initial value is one of its type
pub begins_ranged : (leaves : List Leaf) → Each BeginsTyped leaves → Each (λ (m : Meant). InRange m.ty m.initial) (all_meant leaves) → (i : ℕ) (leaf : Leaf) → slice_get leaves i ≡ Some leaf → (leaf.initial.ty ≡ leaf.ty) × InRange leaf.initial.ty leaf.initial.n
begins_ranged [] typed range i leaf at = absurd (cc)
begins_ranged (l ∷ leaves) typed range zero leaf at =
    subst (λ (x : Leaf). (x.initial.ty ≡ x.ty) × InRange x.initial.ty x.initial.n) (same_Some l leaf at) (typed.0, subst (λ t. InRange t l.initial.n) (sym typed.0) range.0)
begins_ranged (l ∷ leaves) typed range (suc i) leaf at = begins_ranged leaves typed.1 range.1 i leaf at

module _ (leaves : List Leaf) (f : Leaf → Option Value) where
  -- a value of its type for each leaf makes a retained state
  pub suits_from : ((i : ℕ) (leaf : Leaf) → slice_get leaves i ≡ Some leaf → (leaf.initial.ty ≡ leaf.ty) × InRange leaf.initial.ty leaf.initial.n) → ((i : ℕ) (leaf : Leaf) (v : Value) → slice_get leaves i ≡ Some leaf → f leaf ≡ Some v → (v.ty ≡ leaf.ty) × InRange v.ty v.n)
      → Pairwise Suits leaves (map (λ (leaf : Leaf). kept_of leaf (f leaf)) leaves)
  suits_from begins typed = pairs_from Suits leaves (map (λ (leaf : Leaf). kept_of leaf (f leaf)) leaves) (sym (length-map leaves (λ (leaf : Leaf). kept_of leaf (f leaf)))) each
    where
      suits : (i : ℕ) (leaf : Leaf) → slice_get leaves i ≡ Some leaf → (o : Option Value) → f leaf ≡ o → (b : Bool) → is_kept leaf ≡ b → Suits leaf (elim o [ None ↦ if b then Some leaf.initial else None | Some v ↦ if b then Some v else None ])
      suits i leaf at None is true kept = let b = begins i leaf at in (kept, b.0, b.1)
      suits i leaf at None is false kept = kept
      suits i leaf at (Some v) is true kept = let b = typed i leaf v at is in (kept, b.0, b.1)
      suits i leaf at (Some v) is false kept = kept

      unfolded : (leaf : Leaf) (o : Option Value) → kept_of leaf o ≡ elim o [ None ↦ if is_kept leaf then Some leaf.initial else None | Some v ↦ if is_kept leaf then Some v else None ]
      unfolded leaf None = refl
      unfolded leaf (Some v) = refl

      each : (i : ℕ) (leaf : Leaf) (o : Option Value) → slice_get leaves i ≡ Some leaf → slice_get (map (λ (l : Leaf). kept_of l (f l)) leaves) i ≡ Some o → Suits leaf o
      each i leaf o at there =
          let is : kept_of leaf (f leaf) ≡ o = same_Some (kept_of leaf (f leaf)) o (sym (slice_get-map (λ (l : Leaf). kept_of l (f l)) leaves i ∙ ap (option_map (λ (l : Leaf). kept_of l (f l))) at) ∙ there) in
          subst (Suits leaf) (sym (unfolded leaf (f leaf)) ∙ is) (suits i leaf at (f leaf) refl (is_kept leaf) refl)

-- the initial values
pub initially_suits : (l : Laid) → IsLaid l → IsRetainedOf l.leaves (initially_kept l.leaves)
initially_suits l laid = record { suits = suits_from l.leaves (λ leaf. None) (begins_ranged l.leaves laid.typed laid.layout.initial) (λ i leaf v at e. absurd (cc)) }

-- what is said of a path is said by a line
said_by : (leaves : List Leaf) (lines : List (List ℕ)) (saids : List Said) → Pairwise (IsLine leaves) lines saids → (p : Path) (v : Value) → said_at saids p ≡ Some v → (line : List ℕ) × (s : Said) × IsLine leaves line s × (s.path ≡ p) × (s.value ≡ v)
said_by leaves [] [] h p v e = absurd (cc)
said_by leaves [] (s ∷ saids) h p v e = absurd h
said_by leaves (l ∷ lines) [] h p v e = absurd h
said_by leaves (l ∷ lines) (s ∷ saids) h p v e = by (same_path p s.path) refl e (λ found. said_by leaves lines saids h.1 p v found)
  where
    by : (b : Bool) → same_path p s.path ≡ b → (if b then Some s.value else said_at saids p) ≡ Some v → (said_at saids p ≡ Some v → (line : List ℕ) × (x : Said) × IsLine leaves line x × (x.path ≡ p) × (x.value ≡ v))
        → (line : List ℕ) × (x : Said) × IsLine leaves line x × (x.path ≡ p) × (x.value ≡ v)
    by true is found rest = (l, s, h.0, sym (path_same p s.path is), same_Some s.value v found)
    by false is found rest = rest found

-- and what lines say
pub kept_suits : (l : Laid) → IsLaid l → (lines : List (List ℕ)) (saids : List Said) → AreLines l.leaves lines saids → IsRetainedOf l.leaves (kept_by l.leaves saids)
kept_suits l laid lines saids are = record { suits = suits_from l.leaves (λ leaf. said_at saids (meant_path leaf.path)) (begins_ranged l.leaves laid.typed laid.layout.initial) typed }
  where
    typed : (i : ℕ) (leaf : Leaf) (v : Value) → slice_get l.leaves i ≡ Some leaf → said_at saids (meant_path leaf.path) ≡ Some v → (v.ty ≡ leaf.ty) × InRange v.ty v.n
    typed i leaf v at e =
        let s = said_by l.leaves lines saids are.each (meant_path leaf.path) v e in
        let h = s.2 in
        let r = stands_ranged h.leaf.ty h.literal s.1.value h.stands in
        let same : h.leaf ≡ leaf = one_leaf l.leaves laid.layout.apart h.number i h.leaf leaf h.there at (sym h.same ∙ s.3) in
        (sym (ap (λ (x : Value). x.ty) s.4) ∙ r.0 ∙ ap (λ (x : Leaf). x.ty) same, subst (λ (x : Value). InRange x.ty x.n) s.4 r.1)
