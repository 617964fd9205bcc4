-- Retained lines of two programs that declare the same.
use Rattle.std.proofs.Common.{◌≡◌, ◌∷◌, ◌∙◌, ℕ, ℤ, Bool, true, false, true≢false, List, [], map, refl, sym, ap}
use Rattle.std.specs.Prelude.{Option, Some, None, pos, ◌&&◌, if◌then◌else◌}
use Rattle.std.proofs.lemmas.Bool.{and_parts}
use Rattle.plcx_types.specs.Lists.{Each}
use Rattle.plcx_types.specs.Value.{Value}
use Rattle.plcx_meaning.specs.Base.{Path, is_declared, same_path}
use Rattle.plcx_meaning.specs.Layout.{declared_leaves}
use Rattle.plcx_meaning.specs.Layout.{Leaf as Meant}
use Rattle.plcx_meaning.proofs.Starts.{path_same}
use Rattle.plcx_state.specs.declared.layout.Leaf.{Leaf}
use Rattle.plcx_state.specs.Layouts.{meant, all_meant, meant_path, BeginsTyped}
use Rattle.plcx_state.specs.Lines.{Said, IsLine, AreLines, IsFirstWrong, said_at, kept_by}
use Rattle.plcx_state.specs.Retains.{Pairwise, at, kept_at, kept_of, number_of}
use Rattle.plcx_sides.proofs.SameLeaves.{there_too}

pairs_over : {A B : Type 0} (R S : A → B → Type 0) → ((x : A) (y : B) → R x y → S x y) → (xs : List A) (ys : List B) → Pairwise R xs ys → Pairwise S xs ys
pairs_over R S f [] [] h = tt
pairs_over R S f [] (y ∷ ys) h = absurd h
pairs_over R S f (x ∷ xs) [] h = absurd h
pairs_over R S f (x ∷ xs) (y ∷ ys) h = (f x y h.0, pairs_over R S f xs ys h.1)

-- the number that is kept of a declared leaf, by what is said of it
number_for : Meant → Option Value → ℤ
number_for m None = if m.retained then m.initial else pos 0
number_for m (Some v) = if m.retained then v.n else pos 0

-- and at a path, among declared leaves
looked : List Said → List Meant → Path → ℤ
looked saids [] p = pos 0
looked saids (m ∷ ms) p = if same_path p m.path then number_for m (said_at saids m.path) else looked saids ms p

kept_number : (leaf : Leaf) → is_declared (meant_path leaf.path) ≡ true → (o : Option Value) → number_of (kept_of leaf o) ≡ number_for (meant leaf) o
unfolding number_for
kept_number leaf d None = by leaf.retained (is_declared (meant_path leaf.path)) d
  where
    by : (r b : Bool) → b ≡ true → number_of (if r && b then Some leaf.initial else None) ≡ (if r then leaf.initial.n else pos 0)
    by true true e = refl
    by false true e = refl
    by r false e = absurd (cc)
kept_number leaf d (Some v) = by leaf.retained (is_declared (meant_path leaf.path)) d
  where
    by : (r b : Bool) → b ≡ true → number_of (if r && b then Some v else None) ≡ (if r then v.n else pos 0)
    by true true e = refl
    by false true e = refl
    by r false e = absurd (cc)

at_looked : (saids : List Said) (ls : List Leaf) (p : Path) → is_declared p ≡ true → at ls (map number_of (kept_by ls saids)) p ≡ looked saids (declared_leaves (all_meant ls)) p
unfolding looked
at_looked saids [] p d = refl
at_looked saids (l ∷ ls) p d = by (is_declared (meant_path l.path)) refl (same_path p (meant_path l.path)) refl (at_looked saids ls p d)
  where
    by : (b : Bool) → is_declared (meant_path l.path) ≡ b → (t : Bool) → same_path p (meant_path l.path) ≡ t
        → at ls (map number_of (kept_by ls saids)) p ≡ looked saids (declared_leaves (all_meant ls)) p
        → (if t then number_of (kept_of l (said_at saids (meant_path l.path))) else at ls (map number_of (kept_by ls saids)) p)
        ≡ looked saids (if b then meant l ∷ declared_leaves (all_meant ls) else declared_leaves (all_meant ls)) p
    by true is true same rest = kept_number l is (said_at saids (meant_path l.path)) ∙ sym (ap (λ t. if t then number_for (meant l) (said_at saids (meant_path l.path)) else looked saids (declared_leaves (all_meant ls)) p) same)
    by true is false same rest = rest ∙ sym (ap (λ t. if t then number_for (meant l) (said_at saids (meant_path l.path)) else looked saids (declared_leaves (all_meant ls)) p) same)
    by false is true same rest = absurd (true≢false (sym d ∙ ap is_declared (path_same p (meant_path l.path) same) ∙ is))
    by false is false same rest = rest

module _ (xs ys : List Leaf) (hx : Each BeginsTyped xs) (hy : Each BeginsTyped ys) (same : declared_leaves (all_meant xs) ≡ declared_leaves (all_meant ys)) where
  line_over : (line : List ℕ) (said : Said) → IsLine xs line said → IsLine ys line said
  line_over line said h =
      let found = there_too xs ys hx hy same h.leaf h.number h.there (and_parts h.leaf.retained (is_declared (meant_path h.leaf.path)) h.kept).1 in
      record {
        leaf = h.leaf;
        number = found.number;
        there = found.there;
        kept = h.kept;
        path = h.path;
        literal = h.literal;
        line_is = h.line_is;
        path_is = h.path_is;
        same = h.same;
        stands = h.stands;
      }

  pub lines_over : (lines : List (List ℕ)) (saids : List Said) → AreLines xs lines saids → AreLines ys lines saids
  lines_over lines saids h = record { each = pairs_over (IsLine xs) (IsLine ys) line_over lines saids h.each; apart = h.apart }

  -- a retained state has the same numbers where they are declared
  pub kept_over : (saids : List Said) (p : Path) → is_declared p ≡ true → kept_at xs (kept_by xs saids) p ≡ kept_at ys (kept_by ys saids) p
  kept_over saids p d = at_looked saids xs p d ∙ ap (λ (ms : List Meant). looked saids ms p) same ∙ sym (at_looked saids ys p d)

-- the first wrong line of the one is that of the other
pub wrong_over : (xs ys : List Leaf) → Each BeginsTyped xs → Each BeginsTyped ys → declared_leaves (all_meant xs) ≡ declared_leaves (all_meant ys)
    → (lines : List (List ℕ)) (place : ℕ) → IsFirstWrong xs lines place → IsFirstWrong ys lines place
wrong_over xs ys hx hy same lines place h = record {
  there = h.there;
  saids = h.saids;
  before = lines_over xs ys hx hy same _ h.saids h.before;
  wrong = λ more k. h.wrong more (lines_over ys xs hy hx (sym same) _ more k);
}
