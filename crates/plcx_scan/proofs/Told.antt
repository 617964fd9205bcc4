-- The text of rows is that of the trace of the meaning.
use Rattle.std.proofs.Common.{◌≡◌, ◌+◌, ◌∙◌, ◌∷◌, ◌++◌, ℕ, ℤ, Bool, true, false, List, [], map, refl, sym, ap, ap₂, subst, if◌then◌else◌}
use Rattle.std.specs.Prelude.{filter, ◌&&◌}
use Rattle.std.proofs.lemmas.List.{reverse-reverse}
use Rattle.plcx_types.specs.Lists.{Each}
use Rattle.plcx_types.specs.Value.{Value}
use Rattle.plcx_meaning.specs.Base.{Path, is_declared}
use Rattle.plcx_meaning.specs.Layout.{Leaf as Meant}
use Rattle.plcx_meaning.specs.Run as run
use Rattle.plcx_meaning.specs.Run.{Machine}
use Rattle.plcx_meaning.specs.Traces.{trace_of, lines_from, side_at_end}
use Rattle.plcx_state.specs.declared.layout.Leaf.{Leaf}
use Rattle.plcx_state.specs.Layouts.{all_meant, meant, meant_path, dotted}
use Rattle.plcx_state.specs.Lines.{retained_lines, retained_line}
use Rattle.plcx_state.specs.Retains.{Pairwise, each_with, numbers, Agrees}
use Rattle.plcx_scan.specs.declared.row.TraceRow.{TraceRow}
use Rattle.plcx_scan.specs.Sides.{told, HasTypeOf, Shows, BringsAll, HasLines}
use Rattle.plcx_scan.specs.Rows.{shown_leaves, meant_lines, IsRowOf}
use Rattle.plcx_scan.specs.Texts.{typed, spelled_path, event_text, kept_text, lines_text, all_kept_text, all_shown, all_retained, header, layout_header, rows_text, trace_bytes, trace_text, HasTrace}

-- the shown leaves in the words of the meaning
shown_meant : (leaves : List Leaf) → all_shown (all_meant leaves) ≡ all_meant (shown_leaves leaves)
shown_meant [] = refl
shown_meant (leaf ∷ leaves) = by leaf.shown _ _ (shown_meant leaves)
  where
    by : (b : Bool) (ms : List Meant) (ls : List Leaf) → ms ≡ all_meant ls → (if b then meant leaf ∷ ms else ms) ≡ all_meant (if b then leaf ∷ ls else ls)
    by true ms ls e = ap (λ (t : List Meant). meant leaf ∷ t) e
    by false ms ls e = e

-- their names
names_meant : (leaves : List Leaf) → map (λ (leaf : Leaf). dotted leaf.path) leaves ≡ map spelled_path (all_meant leaves)
names_meant [] = refl
names_meant (leaf ∷ leaves) = ap₂ (λ (x : List ℕ) (xs : List (List ℕ)). x ∷ xs) (ap dotted (sym (reverse-reverse leaf.path))) (names_meant leaves)

-- the header of a layout is that of its meaning
pub header_meant : (leaves : List Leaf) → layout_header leaves ≡ header (map spelled_path (all_shown (all_meant leaves)))
header_meant leaves = ap header (names_meant (shown_leaves leaves) ∙ ap (map spelled_path) (sym (shown_meant leaves)))

-- values are their numbers with the types of their leaves
values_meant : (leaves : List Leaf) (values : List Value) → Pairwise HasTypeOf leaves values → values ≡ each_with typed (all_meant leaves) (numbers values)
values_meant [] [] h = refl
values_meant [] (v ∷ vs) h = absurd h
values_meant (leaf ∷ leaves) [] h = absurd h
values_meant (leaf ∷ leaves) (v ∷ vs) h = ap₂ (λ t (us : List Value). record { ty = t; n = v.n } ∷ us) h.0 (values_meant leaves vs h.1)

-- rows are the lines of the meaning
pub rows_meant : (leaves : List Leaf) (number : ℕ) (rows : List TraceRow) → Each (IsRowOf leaves) rows → rows_text number rows ≡ lines_text (all_shown (all_meant leaves)) number (meant_lines rows)
rows_meant leaves number [] h = refl
rows_meant leaves number (row ∷ rows) h =
    ap₂ (λ (x y : List ℕ). x ++ y)
    (ap (event_text number (told row.outcome)) (values_meant (shown_leaves leaves) row.values h.0 ∙ ap (λ (ms : List Meant). each_with typed ms (numbers row.values)) (sym (shown_meant leaves))))
    (rows_meant leaves (number + 1) rows h.1)

-- the retained leaves behind a leaf, or with it
abbrev with_leaf : Leaf → Bool → List Meant → List Meant
with_leaf leaf b ms = if b then meant leaf ∷ ms else ms

retained_first : (leaf : Leaf) (leaves : List Leaf) → all_retained (all_meant (leaf ∷ leaves)) ≡ with_leaf leaf (leaf.retained && is_declared (meant_path leaf.path)) (all_retained (all_meant leaves))
retained_first leaf leaves = by (is_declared (meant_path leaf.path)) leaf.retained refl
  where
    by : (d r : Bool) → leaf.retained ≡ r → filter (λ (m : Meant). m.retained) (if d then meant leaf ∷ filter (λ (m : Meant). is_declared m.path) (all_meant leaves) else filter (λ (m : Meant). is_declared m.path) (all_meant leaves))
        ≡ with_leaf leaf (r && d) (all_retained (all_meant leaves))
    by true true e = ap (λ (b : Bool). with_leaf leaf b (all_retained (all_meant leaves))) e
    by true false e = ap (λ (b : Bool). with_leaf leaf b (all_retained (all_meant leaves))) e
    by false true e = refl
    by false false e = refl

abbrev store_values : (Path → ℤ) → List Meant → List ℤ
store_values store ms = map (λ (m : Meant). store m.path) ms

kept_pairs : (store : Path → ℤ) (leaves : List Leaf) (values : List Value) → Pairwise HasTypeOf leaves values → Pairwise (λ (leaf : Leaf) (n : ℤ). store (meant_path leaf.path) ≡ n) leaves (numbers values)
    → retained_lines leaves values ≡ all_kept_text (all_retained (all_meant leaves)) (store_values store (all_retained (all_meant leaves)))
kept_pairs store [] [] t h = refl
kept_pairs store [] (v ∷ vs) t h = absurd h
kept_pairs store (leaf ∷ leaves) [] t h = absurd h
kept_pairs store (leaf ∷ leaves) (v ∷ vs) t h =
    by (leaf.retained && is_declared (meant_path leaf.path)) (all_retained (all_meant leaves)) (retained_lines leaves vs) (kept_pairs store leaves vs t.1 h.1)
    ∙ ap (λ (ms : List Meant). all_kept_text ms (store_values store ms)) (sym (retained_first leaf leaves))
  where
    by : (b : Bool) (ms : List Meant) (rest : List ℕ) → rest ≡ all_kept_text ms (store_values store ms) → (if b then retained_line leaf v else []) ++ rest ≡ all_kept_text (with_leaf leaf b ms) (store_values store (with_leaf leaf b ms))
    by true ms rest e = ap₂ (λ (x y : List ℕ). x ++ y) (ap₂ kept_text (ap dotted (sym (reverse-reverse leaf.path))) (ap₂ (λ ty n. record { ty = ty; n = n }) t.0 (sym h.0))) e
    by false ms rest e = e

-- and the retained lines are those of the meaning
pub retained_meant : (store : Path → ℤ) (leaves : List Leaf) (values : List Value) → Pairwise HasTypeOf leaves values → Agrees leaves store (numbers values)
    → retained_lines leaves values ≡ all_kept_text (all_retained (all_meant leaves)) (store_values store (all_retained (all_meant leaves)))
retained_meant store leaves values t h = kept_pairs store leaves values t h.agrees

-- the text of a run whose rows, leaves and values are those of the machine
text_of : {G : Type 0} (m : Machine G) (turns : ℕ) (es : List run.Event) (Old New : run.Side G → Type 0) (leaves : List Leaf) (rows : List TraceRow) (values : List Value)
    → all_meant leaves ≡ m.layout → HasLines m turns es Old (meant_lines rows) → Each (IsRowOf leaves) rows → BringsAll m turns es Old New → Pairwise HasTypeOf leaves values → Shows m leaves New values
    → HasTrace m turns es Old (trace_text leaves rows (retained_lines leaves values))
text_of m turns es Old New leaves rows values layout lines are_rows brings typed shows g stands =
    let store = m.value (side_at_end m turns es g).state in
    ap₂ (λ (x y : List ℕ). x ++ y) (header_meant leaves)
    (ap₂ (λ (x y : List ℕ). x ++ y)
    (rows_meant leaves 1 rows are_rows ∙ ap (lines_text (all_shown (all_meant leaves)) 1) (lines g stands))
    (retained_meant store leaves values typed (shows (side_at_end m turns es g) (brings g stands))))
    ∙ ap (λ (ms : List Meant). trace_bytes ms (trace_of (lines_from m turns es g) (store_values store (all_retained ms)))) layout

-- and where machine and leaves are those that there were at first
pub run_text : {G : Type 0} (m k : Machine G) → k ≡ m → (turns : ℕ) (es : List run.Event) (Old New : run.Side G → Type 0) (leaves there : List Leaf) → there ≡ leaves
    → (rows : List TraceRow) (values : List Value) (retained text : List ℕ) → all_meant there ≡ k.layout → HasLines m turns es Old (meant_lines rows) → Each (IsRowOf leaves) rows
    → BringsAll m turns es Old New → Pairwise HasTypeOf there values → Shows k there New values → retained ≡ retained_lines there values → text ≡ trace_text there rows retained → HasTrace m turns es Old text
run_text {G} m k same turns es Old New leaves there laid rows values retained text layout lines are_rows brings typed shows retained_is text_is g stands =
    text_is ∙ ap (trace_text there rows) retained_is ∙ ap (λ (ls : List Leaf). trace_text ls rows (retained_lines ls values)) laid
    ∙ text_of m turns es Old New leaves rows values
    (ap all_meant (sym laid) ∙ layout ∙ ap (λ (x : Machine G). x.layout) same)
    lines are_rows brings
    (subst (λ (ls : List Leaf). Pairwise HasTypeOf ls values) laid typed)
    (subst (λ (x : Machine G). Shows x leaves New values) same (subst (λ (ls : List Leaf). Shows k ls New values) laid shows))
    g stands
