-- Lines of wires with their rows, one after another.
use Rattle.std.proofs.Common.{◌≡◌, ◌∙◌, ◌⊎◌, inl, inr, ℕ, ◌+◌, ◌<◌, ◌≤◌, List, [], ◌∷◌, ◌++◌, Option, Some, None, map, drop, length, get_or, slice_get, refl, sym, ap, ap₂, append_assoc, arith}
use Rattle.std.proofs.lemmas.List.{drop_all, drop_more}
use Rattle.std.proofs.lemmas.Option.{slice_get_cases, slice_get_past, slice_get_read}
use Rattle.std.specs.Borrow.{Bor}
use Rattle.std.specs.Option.{option_map}
use Rattle.std.specs.Slice.{IsItemAt}
use Rattle.plcx_cover.specs.declared.counting.CoverRow.{CoverRow}
use Rattle.plcx_cover.specs.declared.listing.Wire.{Wire}
use Rattle.plcx_cover.specs.Listed.{shown_wire, line_if}
use Rattle.plcx_cover.specs.Texts.{line, lines}
use Rattle.plcx_cover.specs.Wires as wires

lines_of_none : (ws : List wires.Wire) → lines ws [] ≡ []
lines_of_none [] = refl
lines_of_none (w ∷ ws) = refl

first_line : (w : wires.Wire) (ws : List wires.Wire) (rows : List CoverRow) (i : ℕ) → lines (w ∷ ws) (drop i rows) ≡ line_if w (slice_get rows i) ++ lines ws (drop (i + 1) rows)
first_line w ws rows i = by (slice_get_cases rows i).1
  where
    by : ((x : CoverRow) × (i < length rows) × (slice_get rows i ≡ Some x) × (get_or rows i x ≡ x)) ⊎ ((length rows ≤ i) × (slice_get rows i ≡ None))
        → lines (w ∷ ws) (drop i rows) ≡ line_if w (slice_get rows i) ++ lines ws (drop (i + 1) rows)
    by (inl h) =
        let low = h.1 in
        ap (lines (w ∷ ws)) (drop_more rows i h.0 low ∙ ap (λ x. x ∷ drop (i + 1) rows) h.3) ∙ sym (ap (λ o. line_if w o ++ lines ws (drop (i + 1) rows)) h.2)
    by (inr h) =
        let high = h.0 in
        ap (lines (w ∷ ws)) (drop_all i rows high) ∙ sym (ap₂ (λ o rest. line_if w o ++ lines ws rest) h.1 (drop_all (i + 1) rows (omega arith)) ∙ lines_of_none ws)

-- what is got of a slice
pub got : (rows : List CoverRow) (i : ℕ) (o : Option (Bor CoverRow)) → IsItemAt rows i o → option_map (λ (r : Bor CoverRow). r.now) o ≡ slice_get rows i
got rows i None h = sym (slice_get_past rows i h.3)
got rows i (Some x) h = sym (slice_get_read rows (length rows) i x.now refl h.3.0 h.1)

pub more : (ws : List Wire) (rows : List CoverRow) (i : ℕ) (d : Wire) (before after : List ℕ) (o : Option CoverRow) → i < length ws
    → after ≡ before ++ line_if (shown_wire (get_or ws i d)) o → o ≡ slice_get rows i
    → after ++ lines (map shown_wire (drop (i + 1) ws)) (drop (i + 1) rows) ≡ before ++ lines (map shown_wire (drop i ws)) (drop i rows)
more ws rows i d before after o low e there =
    let w = get_or ws i d in
    let rest = lines (map shown_wire (drop (i + 1) ws)) (drop (i + 1) rows) in
    ap (λ text. text ++ rest) (e ∙ ap (λ p. before ++ line_if (shown_wire w) p) there) ∙ append_assoc before (line_if (shown_wire w) (slice_get rows i)) rest
    ∙ ap (λ text. before ++ text) (sym (ap (λ xs. lines (map shown_wire xs) (drop i rows)) (drop_more ws i d low) ∙ first_line (shown_wire w) (map shown_wire (drop (i + 1) ws)) rows i))
