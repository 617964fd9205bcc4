-- The values that two sides show of what is declared.
use Rattle.std.proofs.Common.{◌≡◌, ℕ, ℤ, Bool, true, false, List, [], ◌∷◌, ◌++◌, map, filter, codes, append_assoc, refl, sym, ap, ap₂, ◌∙◌, if◌then◌else◌}
use Rattle.std.specs.Prelude.{◌&&◌, reverse}
use Rattle.std.specs.List.{flat_map}
use Rattle.std.proofs.lemmas.List.{append-nil, reverse-reverse}
use Rattle.plcx_types.specs.declared.ty.Ty.{Ty}
use Rattle.plcx_types.specs.Printed.{printed}
use Rattle.plcx_types.specs.Value.{Value}
use Rattle.plcx_types.specs.Literal.{value}
use Rattle.plcx_meaning.specs.Base.{Path, is_declared}
use Rattle.plcx_meaning.specs.Layout.{declared_leaves}
use Rattle.plcx_meaning.specs.Layout.{Leaf as Meant}
use Rattle.plcx_meaning.specs.Run.{Machine, Side}
use Rattle.plcx_meaning.specs.Same.{SameValues}
use Rattle.plcx_state.specs.declared.layout.Leaf.{Leaf}
use Rattle.plcx_state.specs.Layouts.{meant, all_meant, meant_path, dotted, is_kept}
use Rattle.plcx_state.specs.Lines.{line_if_kept, retained_line, retained_lines}
use Rattle.plcx_state.specs.Retains.{Pairwise, numbers}
use Rattle.plcx_scan.specs.Sides.{HasTypeOf}
use Rattle.plcx_alike.specs.Shown.{AreShown, declared_number, declared_numbers}
use Rattle.plcx_alike.specs.Laws.{ShowAlike}

-- declared leaves with what a store has at their paths
abbrev stored : (Path → ℤ) → List Meant → List (Meant × ℤ)
stored store ls = map (λ (l : Meant). (l, store l.path)) ls

-- ---- numbers

one_number : (store : Path → ℤ) (leaf : Meant) (n : ℤ) (rest : List (Meant × ℤ)) (ls : List Meant) → store leaf.path ≡ n → rest ≡ stored store (declared_leaves ls) → declared_number leaf n ++ rest ≡ stored store (declared_leaves (leaf ∷ ls))
one_number store leaf n rest ls is h = by (is_declared leaf.path)
  where
    by : (b : Bool) → (if b then (leaf, n) ∷ [] else []) ++ rest ≡ stored store (if b then leaf ∷ declared_leaves ls else declared_leaves ls)
    by true = ap₂ (λ m (xs : List (Meant × ℤ)). (leaf, m) ∷ xs) (sym is) h
    by false = h

numbers_stored : (store : Path → ℤ) (leaves : List Leaf) (values : List Value) → Pairwise (λ (leaf : Leaf) n. store (meant_path leaf.path) ≡ n) leaves (numbers values) → declared_numbers leaves values ≡ stored store (declared_leaves (all_meant leaves))
numbers_stored store [] [] h = refl
numbers_stored store [] (v ∷ vs) h = refl
numbers_stored store (leaf ∷ leaves) [] h = absurd h
numbers_stored store (leaf ∷ leaves) (v ∷ vs) h = one_number store (meant leaf) v.n (declared_numbers leaves vs) (all_meant leaves) h.0 (numbers_stored store leaves vs h.1)

-- what is declared has the same numbers
same_stored : (s t : Path → ℤ) → ((p : Path) → is_declared p ≡ true → s p ≡ t p) → (ls : List Meant) → stored s (declared_leaves ls) ≡ stored t (declared_leaves ls)
same_stored s t same [] = refl
same_stored s t same (l ∷ ls) = by (is_declared l.path) refl (same_stored s t same ls)
  where
    by : (b : Bool) → is_declared l.path ≡ b → stored s (declared_leaves ls) ≡ stored t (declared_leaves ls)
        → stored s (if b then l ∷ declared_leaves ls else declared_leaves ls) ≡ stored t (if b then l ∷ declared_leaves ls else declared_leaves ls)
    by true is rest = ap₂ (λ n (xs : List (Meant × ℤ)). (l, n) ∷ xs) (same l.path is) rest
    by false is rest = rest

-- ---- lines

-- the line of a leaf with its number, where it is retained
abbrev line_by : Meant → ℤ → List ℕ
line_by leaf n = if leaf.retained then codes "retain," ++ (dotted (reverse leaf.spelled) ++ (codes "," ++ (printed (value leaf.ty n) ++ codes "\n"))) else []

abbrev lines_by : List (Meant × ℤ) → List ℕ
lines_by xs = flat_map (λ (x : Meant × ℤ). line_by x.0 x.1) xs

printed_same : (v : Value) (t : Ty) → v.ty ≡ t → printed v ≡ printed (value t v.n)
printed_same v t is = ap (λ u. printed (value u v.n)) is

-- a leaf whose path is declared has its line where it is retained, and another none
one_line : (leaf : Leaf) (v : Value) → v.ty ≡ leaf.ty → line_if_kept leaf v ≡ lines_by (declared_number (meant leaf) v.n)
one_line leaf v typed = by leaf.retained (is_declared (meant_path leaf.path))
  where
    line : List ℕ
    line = codes "retain," ++ (dotted (reverse (reverse leaf.path)) ++ (codes "," ++ (printed (value leaf.ty v.n) ++ codes "\n")))

    same : retained_line leaf v ≡ line
    same =
        ap (λ names. codes "retain," ++ (dotted names ++ (codes "," ++ (printed v ++ codes "\n")))) (sym (reverse-reverse leaf.path))
        ∙ ap (λ text. codes "retain," ++ (dotted (reverse (reverse leaf.path)) ++ (codes "," ++ (text ++ codes "\n")))) (printed_same v leaf.ty typed)

    by : (r d : Bool) → (if r && d then retained_line leaf v else []) ≡ lines_by (if d then (record (meant leaf) { retained = r }, v.n) ∷ [] else [])
    by true true = same ∙ sym (append-nil line)
    by true false = refl
    by false true = refl
    by false false = refl

joined : (xs ys : List (Meant × ℤ)) → lines_by (xs ++ ys) ≡ lines_by xs ++ lines_by ys
joined [] ys = refl
joined (x ∷ xs) ys = ap (λ rest. line_by x.0 x.1 ++ rest) (joined xs ys) ∙ sym (append_assoc (line_by x.0 x.1) (lines_by xs) (lines_by ys))

lines_stored : (leaves : List Leaf) (values : List Value) → Pairwise HasTypeOf leaves values → retained_lines leaves values ≡ lines_by (declared_numbers leaves values)
lines_stored [] [] h = refl
lines_stored [] (v ∷ vs) h = refl
lines_stored (leaf ∷ leaves) [] h = refl
lines_stored (leaf ∷ leaves) (v ∷ vs) h =
    ap₂ (λ (a b : List ℕ). a ++ b) (one_line leaf v h.0) (lines_stored leaves vs h.1)
    ∙ sym (joined (declared_number (meant leaf) v.n) (declared_numbers leaves vs))

-- ---- both sides

module _ {G H : Type 0} (m : Machine G) (k : Machine H) (layouts : declared_leaves m.layout ≡ declared_leaves k.layout) (g : Side G) (h : Side H) (same : SameValues m k g h) where
  numbers_same : (ls ms : List Leaf) (vs ws : List Value) → AreShown m g ls vs → AreShown k h ms ws → declared_numbers ls vs ≡ declared_numbers ms ws
  numbers_same ls ms vs ws a b =
      numbers_stored (m.value g.state) ls vs a.shows.agrees
      ∙ same_stored (m.value g.state) (k.value h.state) same (all_meant ls)
      ∙ ap (λ (xs : List Meant). stored (k.value h.state) xs) (ap declared_leaves a.layout ∙ layouts ∙ sym (ap declared_leaves b.layout))
      ∙ sym (numbers_stored (k.value h.state) ms ws b.shows.agrees)

  pub show_alike : ShowAlike m k g h
  show_alike = record {
    numbers = numbers_same;
    lines = λ ls ms vs ws a b. lines_stored ls vs a.typed ∙ ap lines_by (numbers_same ls ms vs ws a b) ∙ sym (lines_stored ms ws b.typed);
  }
