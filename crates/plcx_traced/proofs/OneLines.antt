-- A retained file stands for one state at most, and has one first wrong line at most.
use Rattle.std.proofs.Common.{◌≡◌, ◌<◌, ◌≤◌, ◌+◌, ◌∷◌, ◌∙◌, ◌⊎◌, ℕ, zero, suc, Bool, true, false, List, [], Option, map, take, inl, inr, refl, sym, ap, ap₂, subst, arith}
use Rattle.std.specs.Prelude.{not, reverse}
use Rattle.std.specs.List.{list_any}
use Rattle.std.proofs.lemmas.Bool.{and_parts, and_from, or_parts, or_from, not-true, not_from_false, cases_lt}
use Rattle.std.proofs.lemmas.List.{reverse-reverse, take-take, take-map}
use Rattle.plcx_types.specs.Lists.{Each}
use Rattle.plcx_types.specs.declared.ty.Ty.{Ty}
use Rattle.plcx_types.specs.Value.{Value}
use Rattle.plcx_meaning.specs.Base.{Path, same_path}
use Rattle.plcx_meaning.specs.Layout.{Leaf as Meant}
use Rattle.plcx_meaning.specs.Layout.{all_apart}
use Rattle.plcx_state.specs.declared.layout.Leaf.{Leaf}
use Rattle.plcx_state.specs.Layouts.{meant, all_meant, BeginsTyped}
use Rattle.plcx_state.specs.Retains.{Pairwise}
use Rattle.plcx_state.specs.Lines.{Said, IsLine, AreLines, StandsForRetained, IsFirstWrong, file_lines, kept_by}
use Rattle.plcx_state.specs.Tables.{IsTold}
use Rattle.plcx_state.specs.ReadLines.{lines_said}
use Rattle.plcx_state.proofs.Reading.{lines_are}

-- a path is known by what it means
pub names_same : (a b : Leaf) → meant a ≡ meant b → a.path ≡ b.path
names_same a b e = sym (reverse-reverse a.path) ∙ ap reverse (ap (λ (l : Meant). l.spelled) e) ∙ reverse-reverse b.path

-- and so are leaves
leaf_same : (a b : Leaf) → BeginsTyped a → BeginsTyped b → meant a ≡ meant b → a ≡ b
leaf_same a b ha hb e =
    let path : a.path ≡ b.path = names_same a b e in
    let ty : a.ty ≡ b.ty = ap (λ (l : Meant). l.ty) e in
    let initial : a.initial ≡ b.initial = ap₂ (λ t n. record { ty = t; n = n }) (ha ∙ ty ∙ sym hb) (ap (λ (l : Meant). l.initial) e) in
    ap₂ (λ (p : List (List ℕ)) (t : Ty). record { path = p; ty = t; initial = a.initial; retained = a.retained; settable = a.settable; shown = a.shown }) path ty
    ∙ ap₂ (λ (v : Value) (r : Bool). record { path = b.path; ty = b.ty; initial = v; retained = r; settable = a.settable; shown = a.shown }) initial (ap (λ (l : Meant). l.retained) e)
    ∙ ap₂ (λ (s h : Bool). record { path = b.path; ty = b.ty; initial = b.initial; retained = b.retained; settable = s; shown = h }) (ap (λ (l : Meant). l.settable) e) (ap (λ (l : Meant). l.shown) e)

pub leaves_same : (xs ys : List Leaf) → Each BeginsTyped xs → Each BeginsTyped ys → all_meant xs ≡ all_meant ys → xs ≡ ys
leaves_same [] [] hx hy e = refl
leaves_same [] (y ∷ ys) hx hy e = absurd (cc)
leaves_same (x ∷ xs) [] hx hy e = absurd (cc)
leaves_same (x ∷ xs) (y ∷ ys) hx hy e =
    let first : meant x ≡ meant y = cc in
    let rest : all_meant xs ≡ all_meant ys = cc in
    ap₂ (λ (z : Leaf) (zs : List Leaf). z ∷ zs) (leaf_same x y hx.0 hy.0 first) (leaves_same xs ys hx.1 hy.1 rest)

pairs_front : {A B : Type 0} (R : A → B → Type 0) (xs : List A) (ys : List B) (n : ℕ) → Pairwise R xs ys → Pairwise R (take n xs) (take n ys)
pairs_front R xs ys zero h = tt
pairs_front R [] [] (suc n) h = tt
pairs_front R [] (y ∷ ys) (suc n) h = absurd h
pairs_front R (x ∷ xs) [] (suc n) h = absurd h
pairs_front R (x ∷ xs) (y ∷ ys) (suc n) h = (h.0, pairs_front R xs ys n h.1)

none_front : {X : Type 0} (t : X → Bool) (xs : List X) (n : ℕ) → list_any t xs ≡ false → list_any t (take n xs) ≡ false
none_front t xs zero h = refl
none_front t [] (suc n) h = refl
none_front t (x ∷ xs) (suc n) h = let p = or_parts (t x) (list_any t xs) h in or_from (t x) (list_any t (take n xs)) p.0 (none_front t xs n p.1)

apart_front : (ps : List Path) (n : ℕ) → all_apart ps ≡ true → all_apart (take n ps) ≡ true
apart_front ps zero h = refl
apart_front [] (suc n) h = refl
apart_front (p ∷ ps) (suc n) h =
    let a = and_parts (not (list_any (same_path p) ps)) (all_apart ps) h in
    and_from (not (list_any (same_path p) (take n ps))) (all_apart (take n ps)) (not_from_false _ (none_front (same_path p) ps n (not-true _ a.0))) (apart_front ps n a.1)

-- a front of lines says a front
front : (leaves : List Leaf) (lines : List (List ℕ)) (saids : List Said) (n : ℕ) → AreLines leaves lines saids → AreLines leaves (take n lines) (take n saids)
front leaves lines saids n h = record {
  each = pairs_front (IsLine leaves) lines saids n h.each;
  apart = subst (λ ps. all_apart ps ≡ true) (take-map (λ (s : Said). s.path) n saids) (apart_front (map (λ (s : Said). s.path) saids) n h.apart);
}

not_before : (leaves : List Leaf) (lines : List (List ℕ)) (p q : ℕ) → p < q → IsFirstWrong leaves lines p → IsFirstWrong leaves lines q → ⊥
not_before leaves lines p q lt h k =
    h.wrong (take (p + 1) k.saids)
    (subst (λ (ls : List (List ℕ)). AreLines leaves ls (take (p + 1) k.saids)) (take-take (p + 1) q lines (omega arith)) (front leaves (take q lines) k.saids (p + 1) k.before))

-- one line is the first that is wrong
pub wrong_line_same : (leaves : List Leaf) (lines : List (List ℕ)) (p q : ℕ) → IsFirstWrong leaves lines p → IsFirstWrong leaves lines q → p ≡ q
wrong_line_same leaves lines p q h k = by (cases_lt p q) (cases_lt q p)
  where
    by : (p < q) ⊎ (q ≤ p) → (q < p) ⊎ (p ≤ q) → p ≡ q
    by (inl lt) o = absurd (not_before leaves lines p q lt h k)
    by (inr le) (inl lt) = absurd (not_before leaves lines q p lt k h)
    by (inr le) (inr ge) = omega arith

-- and none is in a file that stands for a state
pub no_wrong_line : (leaves : List Leaf) (bytes : List ℕ) (kept : List (Option Value)) → StandsForRetained leaves bytes kept → (p : ℕ) → IsFirstWrong leaves (file_lines bytes) p → ⊥
no_wrong_line leaves bytes kept h p w = w.wrong (take (p + 1) h.saids) (front leaves (file_lines bytes) h.saids (p + 1) h.lines)

-- a file stands for one state
pub kept_same : (leaves : List Leaf) → IsTold leaves → (bytes : List ℕ) (a b : List (Option Value)) → StandsForRetained leaves bytes a → StandsForRetained leaves bytes b → a ≡ b
kept_same leaves told bytes a b h k =
    let saids : h.saids ≡ k.saids = lines_are leaves told (file_lines bytes) h.saids h.lines.each ∙ sym (lines_are leaves told (file_lines bytes) k.saids k.lines.each) in
    h.kept_is ∙ ap (kept_by leaves) saids ∙ sym k.kept_is
