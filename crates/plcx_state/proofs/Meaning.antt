-- Numbers by leaves, and the stores of the meaning.
use Rattle.std.proofs.Common.{◌≡◌, ◌∷◌, ◌∙◌, ℕ, zero, suc, Bool, true, false, true≢false, List, [], Option, Some, None, map, set, refl, sym, ap, subst}
use Rattle.std.specs.Prelude.{slice_get, ℤ, not, ◌&&◌, if◌then◌else◌}
use Rattle.std.specs.List.{list_any}
use Rattle.std.proofs.lemmas.Bool.{and_parts, not-true}
use Rattle.std.specs.Option.{option_map}
use Rattle.std.proofs.lemmas.List.{length-set}
use Rattle.std.proofs.lemmas.Option.{same_Some, slice_get-map}
use Rattle.plcx_types.specs.Lists.{Each}
use Rattle.plcx_types.specs.Range.{InRange}
use Rattle.plcx_types.specs.Value.{Value}
use Rattle.plcx_meaning.specs.Base.{Path, same_path, put, is_declared}
use Rattle.plcx_meaning.specs.Layout.{Scope, Variable, Spelling, Meaning, Elementary, Composed, meaning, is_kept as is_own_kept, leaf_of, variable_leaves, leaves, is_retained, initial_at, Restart, Warm, Cold, begun as begun_at, restarted as restarted_at, all_apart, declared_leaves, IsRetainedState}
use Rattle.plcx_meaning.specs.Layout.{Leaf as Meant}
use Rattle.plcx_meaning.proofs.Lists.{each_flat_map, each_from}
use Rattle.plcx_meaning.proofs.Starts.{path_same}
use Rattle.plcx_state.specs.declared.layout.Leaf.{Leaf}
use Rattle.plcx_state.specs.Layouts.{Laid, IsLaid, meant, all_meant, meant_path}
use Rattle.plcx_state.specs.Retains.{Pairwise, each_with, numbers, at, kept_at, number_of, Suits, IsRetainedOf}
use Rattle.plcx_state.specs.Stores.{Stored, start_of, starts_of, begun, all_begun, again, all_again, is_warm, restarted}
use Rattle.plcx_state.specs.Meanings.{IsLayoutOf, OpensAs, RestartsAs, AgreesAt, SetsAs, KeepsAs}
use Rattle.plcx_state.proofs.Paths.{same_if}
use Rattle.plcx_state.proofs.Pairing.{pairs_from, pair_at, long}
use Rattle.plcx_state.proofs.Places.{paths, swapped, one_place, apart_from}

pub set_there : {A : Type 0} (xs : List A) (i : ℕ) (x y : A) → slice_get (set xs i x) i ≡ Some y → x ≡ y
set_there [] i x y e = absurd (cc)
set_there (z ∷ xs) zero x y e = same_Some x y e
set_there (z ∷ xs) (suc i) x y e = set_there xs i x y e

pub set_elsewhere : {A : Type 0} (xs : List A) (i j : ℕ) (x y : A) → (j ≡ i → ⊥) → slice_get (set xs i x) j ≡ Some y → slice_get xs j ≡ Some y
set_elsewhere [] i j x y other e = e
set_elsewhere (z ∷ xs) zero zero x y other e = absurd (other refl)
set_elsewhere (z ∷ xs) zero (suc j) x y other e = e
set_elsewhere (z ∷ xs) (suc i) zero x y other e = e
set_elsewhere (z ∷ xs) (suc i) (suc j) x y other e = set_elsewhere xs i j x y (λ h. other (ap suc h)) e

-- the number of a leaf stands at its path
pub at_own : (leaves : List Leaf) → all_apart (paths leaves) ≡ true → (ns : List ℤ) (i : ℕ) (leaf : Leaf) (n : ℤ) → slice_get leaves i ≡ Some leaf → slice_get ns i ≡ Some n → at leaves ns (meant_path leaf.path) ≡ n
at_own [] apart ns i leaf n p q = absurd (cc)
at_own (l ∷ leaves) apart [] i leaf n p q = absurd (cc)
at_own (l ∷ leaves) apart (m ∷ ns) zero leaf n p q =
    ap (λ b. if b then m else at leaves ns (meant_path leaf.path)) (same_if (meant_path leaf.path) (meant_path l.path) (ap (λ (x : Leaf). meant_path x.path) (sym (same_Some l leaf p)))) ∙ same_Some m n q
at_own (l ∷ leaves) apart (m ∷ ns) (suc i) leaf n p q =
    let a = and_parts (not (list_any (same_path (meant_path l.path)) (paths leaves))) (all_apart (paths leaves)) apart in
    ap (λ b. if b then m else at leaves ns (meant_path leaf.path)) (swapped (meant_path l.path) (meant_path leaf.path) (apart_from leaves (meant_path l.path) (not-true _ a.0) i leaf p)) ∙ at_own leaves a.1 ns i leaf n p q

pub agrees_at : (l : Laid) → IsLaid l → AgreesAt l
unfolding AgreesAt
agrees_at l laid ns e = record { agrees = pairs_from _ l.leaves ns e (λ i leaf n p q. at_own l.leaves laid.layout.apart ns i leaf n p q) }

pub sets_as : (l : Laid) → IsLaid l → SetsAs l
unfolding SetsAs
sets_as l laid store ns number leaf n there a = record { agrees = pairs_from _ l.leaves (set ns number n) (long _ l.leaves ns a.agrees ∙ sym (length-set ns number n)) each }
  where
    each : (j : ℕ) (x : Leaf) (m : ℤ) → slice_get l.leaves j ≡ Some x → slice_get (set ns number n) j ≡ Some m → put store (meant_path leaf.path) n (meant_path x.path) ≡ m
    each j x m p q = by (same_path (meant_path x.path) (meant_path leaf.path)) refl
      where
        by : (b : Bool) → same_path (meant_path x.path) (meant_path leaf.path) ≡ b → (if b then n else store (meant_path x.path)) ≡ m
        by true is =
            let same : j ≡ number = one_place l.leaves laid.layout.apart j number x leaf p there (path_same (meant_path x.path) (meant_path leaf.path) is) in
            set_there ns j n m (ap (λ k. slice_get (set ns k n) j) same ∙ q)
        by false is =
            let other : j ≡ number → ⊥ = λ e. true≢false (sym (same_if (meant_path x.path) (meant_path leaf.path) (ap (λ (y : Leaf). meant_path y.path) (same_Some x leaf (sym p ∙ ap (slice_get l.leaves) e ∙ there)))) ∙ is) in
            pair_at _ l.leaves ns a.agrees j x m p (set_elsewhere ns number j n m other q)

-- where each leaf begins and whether it is retained
record FromScope (c : Scope) (m : Meant) : Type 0 where
  retained : m.retained ≡ is_retained c m.path
  initial : m.initial ≡ initial_at c m.path

from_leaves : (c : Scope) (n : ℕ) (names : Spelling) (vs : List Variable) → Each (FromScope c) (leaves n c names vs)
from_leaves c zero names vs = tt
from_leaves c (suc n) names vs = each_flat_map (FromScope c) (variable_leaves (leaves n c) c names) vs (each_from _ vs (λ v there. of_variable v (is_own_kept v.class) (meaning c.world v.ty) (λ ws. from_leaves c n (v.name ∷ names) ws)))
  where
    of_variable : (v : Variable) (b : Bool) (m : Meaning) → ((ws : List Variable) → Each (FromScope c) (leaves n c (v.name ∷ names) ws)) → Each (FromScope c) (if b then (elim m [ Elementary t ↦ leaf_of c (v.name ∷ names) t v.mark ∷ [] | Composed ws ↦ leaves n c (v.name ∷ names) ws ]) else [])
    of_variable v false m inner = tt
    of_variable v true (Elementary t) inner = (record { retained = refl; initial = refl }, tt)
    of_variable v true (Composed ws) inner = inner ws

from_layout : (c : Scope) (l : Laid) → IsLayoutOf c l → Each (FromScope c) (all_meant l.leaves)
from_layout c l e = subst (Each (FromScope c)) (sym e.leaves) (from_leaves c 18 [] c.own)

-- what a restart gives one leaf
restart_one : (c : Scope) (r : Restart) (store : Path → ℤ) (leaf : Leaf) (v : Value) → FromScope c (meant leaf) → store (meant_path leaf.path) ≡ v.n
    → restarted_at c r store (meant_path leaf.path) ≡ (again (is_warm r) (start_of leaf) v).n
restart_one c Warm store leaf v from e = by leaf.retained from.retained
  where
    by : (b : Bool) → b ≡ is_retained c (meant_path leaf.path) → (if is_retained c (meant_path leaf.path) then store (meant_path leaf.path) else initial_at c (meant_path leaf.path)) ≡ (if b then v else leaf.initial).n
    by true is = ap (λ b. if b then store (meant_path leaf.path) else initial_at c (meant_path leaf.path)) (sym is) ∙ e
    by false is = ap (λ b. if b then store (meant_path leaf.path) else initial_at c (meant_path leaf.path)) (sym is) ∙ sym from.initial
restart_one c Cold store leaf v from e = sym from.initial

restart_all : (c : Scope) (r : Restart) (store : Path → ℤ) (leaves : List Leaf) (values : List Value) → Each (FromScope c) (all_meant leaves) → Pairwise (λ (leaf : Leaf) n. store (meant_path leaf.path) ≡ n) leaves (numbers values)
    → Pairwise (λ (leaf : Leaf) n. restarted_at c r store (meant_path leaf.path) ≡ n) leaves (numbers (each_with (again (is_warm r)) (starts_of leaves) values))
restart_all c r store [] [] from a = tt
restart_all c r store [] (v ∷ values) from a = absurd a
restart_all c r store (l ∷ leaves) [] from a = absurd a
restart_all c r store (l ∷ leaves) (v ∷ values) from a = (restart_one c r store l v from.0 a.0, restart_all c r store leaves values from.1 a.1)

pub restarts_as : (r : Restart) (old new : Stored) → new.values ≡ all_again (is_warm r) old.starts old.values → RestartsAs r old new
unfolding RestartsAs
restarts_as r old new e l c store of lays a = record {
  agrees = subst (λ vs. Pairwise (λ (leaf : Leaf) n. restarted_at c r store (meant_path leaf.path) ≡ n) l.leaves (numbers vs)) (ap (λ ss. all_again (is_warm r) ss old.values) (sym of.leaves) ∙ sym e)
      (restart_all c r store l.leaves old.values (from_layout c l lays) a.agrees);
}

-- where one leaf begins
begin_one : (c : Scope) (kept : Path → ℤ) (leaf : Leaf) (o : Option Value) → FromScope c (meant leaf) → Suits leaf o → ((v : Value) → o ≡ Some v → kept (meant_path leaf.path) ≡ v.n) → begun_at c kept (meant_path leaf.path) ≡ (begun leaf o).n
begin_one c kept leaf o from suits is = by (is_declared (meant_path leaf.path)) refl leaf.retained from.retained o suits is
  where
    chosen : Bool → Bool → ℤ
    chosen d r = if d && r then kept (meant_path leaf.path) else initial_at c (meant_path leaf.path)

    kept_if : (d r : Bool) → is_declared (meant_path leaf.path) ≡ d → r ≡ is_retained c (meant_path leaf.path) → begun_at c kept (meant_path leaf.path) ≡ chosen d r
    kept_if d r p q = ap (λ x. chosen x (is_retained c (meant_path leaf.path))) p ∙ ap (chosen d) (sym q)

    by : (d : Bool) → is_declared (meant_path leaf.path) ≡ d → (r : Bool) → r ≡ is_retained c (meant_path leaf.path) → (x : Option Value) → Suits leaf x → ((v : Value) → x ≡ Some v → kept (meant_path leaf.path) ≡ v.n) → begun_at c kept (meant_path leaf.path) ≡ (begun leaf x).n
    by true p true q (Some v) s k = kept_if true true p q ∙ k v refl
    by true p true q None s k = absurd (true≢false (sym (ap (λ b. b && is_declared (meant_path leaf.path)) (from.retained ∙ sym q) ∙ p) ∙ s))
    by true p false q (Some v) s k = absurd (true≢false (sym s.0 ∙ ap (λ b. b && is_declared (meant_path leaf.path)) (from.retained ∙ sym q)))
    by true p false q None s k = kept_if true false p q ∙ sym from.initial
    by false p r q (Some v) s k = absurd (true≢false (sym (and_parts leaf.retained (is_declared (meant_path leaf.path)) s.0).1 ∙ p))
    by false p r q None s k = kept_if false r p q ∙ sym from.initial

begin_all : (c : Scope) (kept : Path → ℤ) (leaves : List Leaf) (cells : List (Option Value)) → Each (FromScope c) (all_meant leaves) → Pairwise Suits leaves cells
    → Pairwise (λ (leaf : Leaf) (o : Option Value). (v : Value) → o ≡ Some v → kept (meant_path leaf.path) ≡ v.n) leaves cells → Pairwise (λ (leaf : Leaf) n. begun_at c kept (meant_path leaf.path) ≡ n) leaves (numbers (each_with begun leaves cells))
begin_all c kept [] [] from s k = tt
begin_all c kept [] (o ∷ cells) from s k = absurd s
begin_all c kept (l ∷ leaves) [] from s k = absurd s
begin_all c kept (l ∷ leaves) (o ∷ cells) from s k = (begin_one c kept l o from.0 s.0 k.0, begin_all c kept leaves cells from.1 s.1 k.1)

kept_own : (l : Laid) → IsLaid l → (kept : List (Option Value)) (i : ℕ) (leaf : Leaf) (v : Value) → slice_get l.leaves i ≡ Some leaf → slice_get kept i ≡ Some (Some v) → kept_at l.leaves kept (meant_path leaf.path) ≡ v.n
kept_own l laid kept i leaf v p q = at_own l.leaves laid.layout.apart (map number_of kept) i leaf v.n p (slice_get-map number_of kept i ∙ ap (option_map number_of) q)

pub opens_as : (l : Laid) → IsLaid l → (kept : List (Option Value)) → IsRetainedOf l.leaves kept → (s : Stored) → s.values ≡ all_begun l.leaves kept → OpensAs l kept s
unfolding OpensAs
opens_as l laid kept of s e c lays = record {
  agrees = subst (λ vs. Pairwise (λ (leaf : Leaf) n. begun_at c (kept_at l.leaves kept) (meant_path leaf.path) ≡ n) l.leaves (numbers vs)) (sym e)
      (begin_all c (kept_at l.leaves kept) l.leaves kept (from_layout c l lays) of.suits
      (pairs_from _ l.leaves kept (long Suits l.leaves kept of.suits) (λ i leaf o p q v is. kept_own l laid kept i leaf v p (q ∙ ap Some is))));
}

-- a retained state is one of the meaning
in_range : (kept : Path → ℤ) (leaves : List Leaf) (cells : List (Option Value)) → Pairwise Suits leaves cells → Pairwise (λ (leaf : Leaf) (o : Option Value). (v : Value) → o ≡ Some v → kept (meant_path leaf.path) ≡ v.n) leaves cells → IsRetainedState (all_meant leaves) kept
in_range kept [] cells s k = tt
in_range kept (l ∷ leaves) [] s k = absurd s
in_range kept (l ∷ leaves) (o ∷ cells) s k = by (is_declared (meant_path l.path)) refl (in_range kept leaves cells s.1 k.1)
  where
    own : (x : Option Value) → Suits l x → ((v : Value) → x ≡ Some v → kept (meant_path l.path) ≡ v.n) → is_declared (meant_path l.path) ≡ true → l.retained ≡ true → InRange l.ty (kept (meant_path l.path))
    own None t h d r = absurd (true≢false (sym (ap (λ b. b && is_declared (meant_path l.path)) r ∙ d) ∙ t))
    own (Some v) t h d r = subst (InRange l.ty) (sym (h v refl)) (subst (λ u. InRange u v.n) t.1 t.2)

    by : (b : Bool) → is_declared (meant_path l.path) ≡ b → IsRetainedState (all_meant leaves) kept
        → Each (λ (m : Meant). m.retained ≡ true → InRange m.ty (kept m.path)) (if b then meant l ∷ declared_leaves (all_meant leaves) else declared_leaves (all_meant leaves))
    by true d rest = (own o s.0 k.0 d, rest)
    by false d rest = rest

pub keeps_as : (l : Laid) → IsLaid l → KeepsAs l
unfolding KeepsAs
keeps_as l laid kept of = in_range (kept_at l.leaves kept) l.leaves kept of.suits
    (pairs_from _ l.leaves kept (long Suits l.leaves kept of.suits) (λ i leaf o p q v is. kept_own l laid kept i leaf v p (q ∙ ap Some is)))

pub warm_as : (old new : Stored) → new ≡ restarted true old → RestartsAs Warm old new
warm_as old new e = restarts_as Warm old new (ap (λ (s : Stored). s.values) e)

pub cold_as : (old new : Stored) → new ≡ restarted false old → RestartsAs Cold old new
cold_as old new e = restarts_as Cold old new (ap (λ (s : Stored). s.values) e)
