-- The tree of the file breaks no rule on its form.
use Rattle.std.proofs.Common.{◌≡◌, ◌≤◌, ◌<◌, ◌+◌, ◌*◌, ℕ, zero, suc, Bool, true, false, List, [], ◌∷◌, ◌++◌, length, map, refl, ap, sym, subst, ◌∙◌, arith, Some, None, append_assoc, append-nil}
use Rattle.std.specs.Prelude.{codes, pos, ℤ, ◌||◌}
use Rattle.std.specs.List.{range_with_len, list_any}
use Rattle.plcx_bench_project.specs.Bench.{IsMeasured, variable_name, id_in}
use Rattle.plcx_table.specs.Format.{looked_at, root_fate, breaks, Breaks, FormatVerdict}
use Rattle.plcx_xml.specs.declared.tree.Node.{Node, out-Node, out-roll-Node}
use Rattle.plcx_xml.specs.declared.tree.Element.{Element}
use Rattle.plcx_table.specs.declared.row.Row.{Row}
use Rattle.plcx_table.specs.declared.row.Row.TheVariants.{Body, Diagram, VariableList}
use Rattle.plcx_table.specs.declared.row.Fate.{Fate}
use Rattle.plcx_table.specs.declared.row.Fate.TheVariants.{Read}
use Rattle.plcx_table.specs.declared.row.Taken.{Taken}
use Rattle.plcx_table.specs.declared.limits.Counts.{Counts}
use Rattle.plcx_table.specs.Limits.{no_counts, counts_in, with_fate, is_too_much, IsFew}
use Rattle.std.proofs.lemmas.Bool.{le-ltb}
use Rattle.plcx_table.specs.Number.{number_of, coordinate_of, magnitude_of, is_decimal, digits_behind}
use Rattle.plcx_table.specs.Walk.{Item, is_nonblank, at_node, taken_behind, items, items_below, none_taken, fate_of, taken_with, child_for, is_aside, has_text, has_prefix, values_of}
use Rattle.plcx_table.specs.Rules.{breaks_structure, breaks_attributes, lacks_child, taken_by, has_stray_text, has_bad_field, has_bad_namespace, has_form}
use Rattle.plcx_table.specs.Constructs.{is_left_out, attribute_of, referred, diagrams}
use Rattle.plcx_table.specs.declared.row.FormatRule.TheVariants.{Structure, Attributes, Constructs, Limits}
use Rattle.plcx_model.specs.Verdict.{Never, Next, Kept}
use Rattle.std.specs.Fmt.{decimal}
use Rattle.plcx_bench_file.proofs.Digits.{number-decimal, coordinate-decimal}
use Rattle.plcx_bench_file.proofs.Ring.{row-holds}
use Rattle.plcx_bench_file.specs.Markup.{Piece, node_of, nothing, both, in_a_row}
use Rattle.plcx_bench_file.specs.File.{input, addition, output, four, network, networks, declaration, declarations, root, bench_root}

-- an element that breaks none of the rules that look at it alone
record IsGood (namespace : List ℕ) (x : Item) : Type 0 where
  structure : breaks_structure x.fate x.element ≡ false
  attributes : breaks_attributes namespace x.fate x.element ≡ false
  constructs : (references : List (ℕ × ℕ)) (diagram : ℕ) → is_left_out references diagram x.fate x.element ≡ false

abbrev AllGood : List ℕ → List Item → Type 0
AllGood namespace [] = Unit {0}
AllGood namespace (x ∷ xs) = IsGood namespace x × AllGood namespace xs

at_zero : coordinate_of (codes "0") ≡ Some (pos 0)
unfolding coordinate_of magnitude_of is_decimal digits_behind
at_zero = refl

input-good : (namespace : List ℕ) (at : ℕ) (id y text : List ℕ) (k : ℕ) (z : ℤ) → number_of id ≡ Some k → coordinate_of y ≡ Some z → AllGood namespace (items_below (items 58) Diagram none_taken ((input id y text).nodes at))
unfolding items items_below fate_of taken_with child_for is_aside has_prefix lacks_child taken_by has_stray_text has_text has_bad_field has_bad_namespace values_of has_form
input-good namespace at id y text k z i h = simp out-roll-Node (
  record { structure = simp out-roll-Node; attributes = simp i; constructs = λ r d. refl },
  (
    record { structure = refl; attributes = simp (at_zero, h); constructs = λ r d. refl },
    (
      record { structure = refl; attributes = refl; constructs = λ r d. refl },
      tt,
    ),
  ),
)

addition-good : (namespace : List ℕ) (at : ℕ) (id y left right : List ℕ) (k l r : ℕ) (z : ℤ) → number_of id ≡ Some k → number_of left ≡ Some l → number_of right ≡ Some r → coordinate_of y ≡ Some z → AllGood namespace (items_below (items 58) Diagram none_taken ((addition id y left right).nodes at))
unfolding items items_below fate_of taken_with child_for is_aside has_prefix lacks_child taken_by has_stray_text has_text has_bad_field has_bad_namespace values_of has_form
addition-good namespace at id y left right k l r z i hl hr h = simp out-roll-Node ((
  record { structure = simp out-roll-Node; attributes = simp i; constructs = λ r d. refl },
  (
    record { structure = refl; attributes = simp (at_zero, h); constructs = λ r d. refl },
    (
      record { structure = simp out-roll-Node; attributes = refl; constructs = λ r d. refl },
      (
        record { structure = simp out-roll-Node; attributes = refl; constructs = λ r d. refl },
        (
          record { structure = simp out-roll-Node; attributes = refl; constructs = λ r d. refl },
          (
            record { structure = refl; attributes = simp hl; constructs = λ r d. refl },
            (
              record { structure = simp out-roll-Node; attributes = refl; constructs = λ r d. refl },
              (
                record { structure = simp out-roll-Node; attributes = refl; constructs = λ r d. refl },
                (
                  record { structure = refl; attributes = simp hr; constructs = λ r d. refl },
                  (
                    record { structure = simp out-roll-Node; attributes = refl; constructs = λ r d. refl },
                    (
                      record { structure = refl; attributes = refl; constructs = λ r d. refl },
                      tt,
                    ),
                  ),
                ),
              ),
            ),
          ),
        ),
      ),
    ),
  ),
))

output-good : (namespace : List ℕ) (at : ℕ) (id y sum text : List ℕ) (k l : ℕ) (z : ℤ) → number_of id ≡ Some k → number_of sum ≡ Some l → coordinate_of y ≡ Some z → AllGood namespace (items_below (items 58) Diagram none_taken ((output id y sum text).nodes at))
unfolding items items_below fate_of taken_with child_for is_aside has_prefix lacks_child taken_by has_stray_text has_text has_bad_field has_bad_namespace values_of has_form
output-good namespace at id y sum text k l z i hl h = simp out-roll-Node ((
  record { structure = simp out-roll-Node; attributes = simp i; constructs = λ r d. refl },
  (
    record { structure = refl; attributes = simp (at_zero, h); constructs = λ r d. refl },
    (
      record { structure = simp out-roll-Node; attributes = refl; constructs = λ r d. refl },
      (
        record { structure = refl; attributes = simp hl; constructs = λ r d. refl },
        (
          record { structure = refl; attributes = refl; constructs = λ r d. refl },
          tt,
        ),
      ),
    ),
  ),
))

declaration-good : (namespace : List ℕ) (at : ℕ) (name : List ℕ) → AllGood namespace (items_below (items 58) VariableList none_taken ((declaration name).nodes at))
unfolding items items_below fate_of taken_with child_for is_aside has_prefix lacks_child taken_by has_stray_text has_text has_bad_field has_bad_namespace values_of has_form
declaration-good namespace at name = simp out-roll-Node ((
  record { structure = simp out-roll-Node; attributes = refl; constructs = λ r d. refl },
  (
    record { structure = simp out-roll-Node; attributes = refl; constructs = λ r d. refl },
    (
      record { structure = refl; attributes = refl; constructs = λ r d. refl },
      tt,
    ),
  ),
))

good-append : (namespace : List ℕ) (xs ys : List Item) → AllGood namespace xs → AllGood namespace ys → AllGood namespace (xs ++ ys)
good-append namespace [] ys h g = g
good-append namespace (x ∷ xs) ys h g = (h.0, good-append namespace xs ys h.1 g)

-- the seats that are taken behind parts
abbrev taken_through : Row → Taken → List Node → Taken
taken_through row t [] = t
taken_through row t (n ∷ ns) = taken_through row (taken_behind row t (out-Node n)) ns

through-append : (row : Row) (t : Taken) (xs ys : List Node) → taken_through row t (xs ++ ys) ≡ taken_through row (taken_through row t xs) ys
through-append row t [] ys = refl
through-append row t (x ∷ xs) ys = through-append row (taken_behind row t (out-Node x)) xs ys

below-append : (row : Row) (t : Taken) (xs ys : List Node) → items_below (items 58) row t (xs ++ ys) ≡ items_below (items 58) row t xs ++ items_below (items 58) row (taken_through row t xs) ys
unfolding items_below
below-append row t [] ys = refl
below-append row t (x ∷ xs) ys =
    ap (λ (more : List Item). at_node (items 58) row t (out-Node x) ++ more) (below-append row (taken_behind row t (out-Node x)) xs ys)
    ∙ sym (append_assoc (at_node (items 58) row t (out-Node x)) (items_below (items 58) row (taken_behind row t (out-Node x)) xs) (items_below (items 58) row (taken_through row (taken_behind row t (out-Node x)) xs) ys))

-- what is looked at in a piece
abbrev pub found : Row → Piece → ℕ → List Item
found row p at = items_below (items 58) row none_taken (p.nodes at)

-- a piece that takes no seat
record IsFree (row : Row) (p : Piece) : Type 0 where
  free : (at : ℕ) → taken_through row none_taken (p.nodes at) ≡ none_taken

both-free : (row : Row) (p q : Piece) → IsFree row p → IsFree row q → IsFree row (both p q)
both-free row p q h g = record { free = λ at. through-append row none_taken (p.nodes at) (q.nodes (at + length p.bytes)) ∙ (ap (λ (t : Taken). taken_through row t (q.nodes (at + length p.bytes))) (h.free at) ∙ g.free (at + length p.bytes)) }

found-both : (row : Row) (p q : Piece) (at : ℕ) → IsFree row p → found row (both p q) at ≡ found row p at ++ found row q (at + length p.bytes)
found-both row p q at h = below-append row none_taken (p.nodes at) (q.nodes (at + length p.bytes)) ∙ ap (λ (t : Taken). found row p at ++ items_below (items 58) row t (q.nodes (at + length p.bytes))) (h.free at)

-- what no text stands in
abbrev no_text : List Node → Bool
no_text ns = list_any (λ (n : Node). is_nonblank (out-Node n)) ns

none-of : (a b : Bool) → a ≡ false → b ≡ false → (a || b) ≡ false
none-of a b h g = rw (h, g) refl

either-false : (a b : Bool) → (a || b) ≡ false → (a ≡ false) × (b ≡ false)
either-false true b h = cc
either-false false b h = (refl, h)

no-text-append : (xs ys : List Node) → no_text xs ≡ false → no_text ys ≡ false → no_text (xs ++ ys) ≡ false
no-text-append [] ys h g = g
no-text-append (x ∷ xs) ys h g =
    let two = either-false (is_nonblank (out-Node x)) (no_text xs) h in
    none-of (is_nonblank (out-Node x)) (no_text (xs ++ ys)) two.0 (no-text-append xs ys two.1 g)

-- pieces whose elements are all good
record IsGoodPiece (namespace : List ℕ) (row : Row) (p : Piece) : Type 0 where
  free : IsFree row p
  blank : (at : ℕ) → no_text (p.nodes at) ≡ false
  good : (at : ℕ) → AllGood namespace (found row p at)

both-good : (namespace : List ℕ) (row : Row) (p q : Piece) → IsGoodPiece namespace row p → IsGoodPiece namespace row q → IsGoodPiece namespace row (both p q)
both-good namespace row p q h g = record {
  free = both-free row p q h.free g.free;
  blank = λ at. no-text-append (p.nodes at) (q.nodes (at + length p.bytes)) (h.blank at) (g.blank (at + length p.bytes));
  good = λ at. subst (AllGood namespace) (sym (found-both row p q at h.free)) (good-append namespace (found row p at) (found row q (at + length p.bytes)) (h.good at) (g.good (at + length p.bytes)));
}

nothing-good : (namespace : List ℕ) (row : Row) → IsGoodPiece namespace row nothing
unfolding items_below
nothing-good namespace row = record { free = record { free = λ at. refl }; blank = λ at. refl; good = λ at. tt }

input-free : (id y text : List ℕ) → IsFree Diagram (input id y text)
unfolding taken_with child_for is_aside
input-free id y text = record { free = λ at. simp out-roll-Node }

addition-free : (id y left right : List ℕ) → IsFree Diagram (addition id y left right)
unfolding taken_with child_for is_aside
addition-free id y left right = record { free = λ at. simp out-roll-Node }

output-free : (id y sum text : List ℕ) → IsFree Diagram (output id y sum text)
unfolding taken_with child_for is_aside
output-free id y sum text = record { free = λ at. simp out-roll-Node }

declaration-free : (name : List ℕ) → IsFree VariableList (declaration name)
unfolding taken_with child_for is_aside
declaration-free name = record { free = λ at. simp out-roll-Node }

-- texts of numbers, and of a coordinate
record AreNumbers (one two three last y : List ℕ) : Type 0 where
  k1 : ℕ
  k2 : ℕ
  k3 : ℕ
  k4 : ℕ
  z : ℤ
  one_is : number_of one ≡ Some k1
  two_is : number_of two ≡ Some k2
  three_is : number_of three ≡ Some k3
  last_is : number_of last ≡ Some k4
  y_is : coordinate_of y ≡ Some z

declaration-piece : (namespace name : List ℕ) → IsGoodPiece namespace VariableList (declaration name)
declaration-piece namespace name = record { free = declaration-free name; blank = λ at. simp out-roll-Node; good = λ at. declaration-good namespace at name }

four-good : (namespace : List ℕ) (one two three last y name next : List ℕ) → AreNumbers one two three last y → IsGoodPiece namespace Diagram (four one two three last y name next)
four-good namespace one two three last y name next h =
    let p1 = input one y name in
    let p2 = input two y (codes "DINT#1") in
    let p3 = addition three y one two in
    let p4 = output last y three next in
    both-good namespace Diagram p1 (both p2 (both p3 p4)) (record { free = input-free one y name; blank = λ at. simp out-roll-Node; good = λ at. input-good namespace at one y name h.k1 h.z h.one_is h.y_is })
    (both-good namespace Diagram p2 (both p3 p4) (record { free = input-free two y (codes "DINT#1"); blank = λ at. simp out-roll-Node; good = λ at. input-good namespace at two y (codes "DINT#1") h.k2 h.z h.two_is h.y_is })
    (both-good namespace Diagram p3 p4 (record { free = addition-free three y one two; blank = λ at. simp out-roll-Node; good = λ at. addition-good namespace at three y one two h.k3 h.k1 h.k2 h.z h.three_is h.one_is h.two_is h.y_is })
    (record { free = output-free last y three next; blank = λ at. simp out-roll-Node; good = λ at. output-good namespace at last y three next h.k4 h.k3 h.z h.last_is h.three_is h.y_is })))

-- what is counted behind items, and that it is never too much
abbrev after : Counts → List Item → Counts
after c [] = c
after c (x ∷ xs) = after (with_fate x.fate c) xs

abbrev Few : Counts → List Item → Type 0
Few c [] = Unit {0}
Few c (x ∷ xs) = (is_too_much (with_fate x.fate c) ≡ false) × Few (with_fate x.fate c) xs

after-append : (xs ys : List Item) (c : Counts) → after c (xs ++ ys) ≡ after (after c xs) ys
after-append [] ys c = refl
after-append (x ∷ xs) ys c = after-append xs ys (with_fate x.fate c)

few-append : (xs ys : List Item) (c : Counts) → Few c xs → Few (after c xs) ys → Few c (xs ++ ys)
few-append [] ys c h g = g
few-append (x ∷ xs) ys c h g = (h.0, few-append xs ys (with_fate x.fate c) h.1 g)

few : (c : Counts) → IsFew c → is_too_much c ≡ false
unfolding is_too_much
few c h = rw (le-ltb 256 c.pous h.pous, le-ltb 4096 c.variables h.variables, le-ltb 4096 c.elements h.elements, le-ltb 16384 c.connections h.connections, le-ltb 64 c.pin_connections h.pin_connections, le-ltb 64 c.pins h.pins) refl

-- at most so much of each
record UpTo (v e k : ℕ) (c : Counts) : Type 0 where
  pous : c.pous ≤ 256
  variables : c.variables ≤ v
  elements : c.elements ≤ e
  connections : c.connections ≤ k
  pin_connections : c.pin_connections ≤ 64
  pins : c.pins ≤ 64

declaration-few : (v : ℕ) (c : Counts) (name : List ℕ) (at : ℕ) → UpTo v 0 0 c → v < 4096 → Few c (found VariableList (declaration name) at)
unfolding items items_below fate_of taken_with child_for is_aside has_prefix
declaration-few v c name at h lt = simp out-roll-Node (few _ (omega arith), (few _ (omega arith), (few _ (omega arith), tt)))

declaration-after : (v : ℕ) (c : Counts) (name : List ℕ) (at : ℕ) → UpTo v 0 0 c → v < 4096 → UpTo (v + 1) 0 0 (after c (found VariableList (declaration name) at))
unfolding items items_below fate_of taken_with child_for is_aside has_prefix
declaration-after v c name at h lt = simp out-roll-Node (omega arith)

input-few : (e k : ℕ) (c : Counts) (id y text : List ℕ) (at : ℕ) → UpTo 4096 e k c → e < 4096 → k ≤ 16384 → Few c (found Diagram (input id y text) at)
unfolding items items_below fate_of taken_with child_for is_aside has_prefix
input-few e k c id y text at h lt le = simp out-roll-Node (few _ (omega arith), (few _ (omega arith), (few _ (omega arith), tt)))

input-after : (e k : ℕ) (c : Counts) (id y text : List ℕ) (at : ℕ) → UpTo 4096 e k c → UpTo 4096 (e + 1) k (after c (found Diagram (input id y text) at))
unfolding items items_below fate_of taken_with child_for is_aside has_prefix
input-after e k c id y text at h = simp out-roll-Node (omega arith)

addition-few : (e k : ℕ) (c : Counts) (id y left right : List ℕ) (at : ℕ) → UpTo 4096 e k c → e < 4096 → k + 2 ≤ 16384 → Few c (found Diagram (addition id y left right) at)
unfolding items items_below fate_of taken_with child_for is_aside has_prefix
addition-few e k c id y left right at h lt le = simp out-roll-Node (
  few _ (omega arith),
  (
    few _ (omega arith),
    (
      few _ (omega arith),
      (
        few _ (omega arith),
        (
          few _ (omega arith),
          (
            few _ (omega arith),
            (few _ (omega arith), (few _ (omega arith), (few _ (omega arith), (few _ (omega arith), (few _ (omega arith), tt))))),
          ),
        ),
      ),
    ),
  ),
)

addition-after : (e k : ℕ) (c : Counts) (id y left right : List ℕ) (at : ℕ) → UpTo 4096 e k c → UpTo 4096 (e + 1) (k + 2) (after c (found Diagram (addition id y left right) at))
unfolding items items_below fate_of taken_with child_for is_aside has_prefix
addition-after e k c id y left right at h = simp out-roll-Node (omega arith)

output-few : (e k : ℕ) (c : Counts) (id y sum text : List ℕ) (at : ℕ) → UpTo 4096 e k c → e < 4096 → k < 16384 → Few c (found Diagram (output id y sum text) at)
unfolding items items_below fate_of taken_with child_for is_aside has_prefix
output-few e k c id y sum text at h lt le = simp out-roll-Node (few _ (omega arith), (few _ (omega arith), (few _ (omega arith), (few _ (omega arith), (few _ (omega arith), tt)))))

output-after : (e k : ℕ) (c : Counts) (id y sum text : List ℕ) (at : ℕ) → UpTo 4096 e k c → UpTo 4096 (e + 1) (k + 1) (after c (found Diagram (output id y sum text) at))
unfolding items items_below fate_of taken_with child_for is_aside has_prefix
output-after e k c id y sum text at h = simp out-roll-Node (omega arith)

-- what a piece of a diagram adds to the elements and connections
record Draws (a b : ℕ) (p : Piece) : Type 0 where
  free : IsFree Diagram p
  step : (e k : ℕ) (c : Counts) (at : ℕ) → UpTo 4096 e k c → e + a ≤ 4096 → k + b ≤ 16384 → Few c (found Diagram p at) × UpTo 4096 (e + a) (k + b) (after c (found Diagram p at))

both-draw : (a b a_more b_more : ℕ) (p q : Piece) → Draws a b p → Draws a_more b_more q → Draws (a + a_more) (b + b_more) (both p q)
both-draw a b a_more b_more p q h g = record {
  free = both-free Diagram p q h.free g.free;
  step = λ e k c at u le lb.
      let first = h.step e k c at u (omega arith) (omega arith) in
      let xs = found Diagram p at in
      let ys = found Diagram q (at + length p.bytes) in
      let second = g.step (e + a) (k + b) (after c xs) (at + length p.bytes) first.1 (omega arith) (omega arith) in
      let up = second.1 in
      rw (found-both Diagram p q at h.free) (few-append xs ys c first.0 second.0, rw (after-append xs ys c) (omega arith));
}

nothing-draws : Draws 0 0 nothing
unfolding items_below
nothing-draws = record { free = record { free = λ at. refl }; step = λ e k c at u le lb. (tt, omega arith) }

input-draws : (id y text : List ℕ) → Draws 1 0 (input id y text)
input-draws id y text = record {
  free = input-free id y text;
  step = λ e k c at u le lb.
      let up = input-after e k c id y text at u in
      (input-few e k c id y text at u (omega arith) (omega arith), omega arith);
}

addition-draws : (id y left right : List ℕ) → Draws 1 2 (addition id y left right)
addition-draws id y left right = record { free = addition-free id y left right; step = λ e k c at u le lb. (addition-few e k c id y left right at u (omega arith) lb, addition-after e k c id y left right at u) }

output-draws : (id y sum text : List ℕ) → Draws 1 1 (output id y sum text)
output-draws id y sum text = record { free = output-free id y sum text; step = λ e k c at u le lb. (output-few e k c id y sum text at u (omega arith) (omega arith), output-after e k c id y sum text at u) }

four-draws : (one two three last y name next : List ℕ) → Draws 4 3 (four one two three last y name next)
four-draws one two three last y name next =
    let p1 = input one y name in
    let p2 = input two y (codes "DINT#1") in
    let p3 = addition three y one two in
    let p4 = output last y three next in
    both-draw 1 0 3 3 p1 (both p2 (both p3 p4)) (input-draws one y name)
    (both-draw 1 0 2 3 p2 (both p3 p4) (input-draws two y (codes "DINT#1")) (both-draw 1 2 1 1 p3 p4 (addition-draws three y one two) (output-draws last y three next)))

networks-draw : (n m a : ℕ) → Draws (m * 4) (m * 3) (in_a_row (map (network n) (range_with_len a m)))
networks-draw n zero a = nothing-draws
networks-draw n (suc m) a =
    let rest = in_a_row (map (network n) (range_with_len (a + 1) m)) in
    let e : 4 + m * 4 ≡ suc m * 4 = omega arith in
    let k : 3 + m * 3 ≡ suc m * 3 = omega arith in
    subst (λ (x : ℕ). Draws x (suc m * 3) (both (network n a) rest)) e (subst (λ (x : ℕ). Draws (4 + m * 4) x (both (network n a) rest)) k
    (both-draw 4 3 (m * 4) (m * 3) (network n a) rest (four-draws _ _ _ _ _ _ _) (networks-draw n m (a + 1))))

-- what a piece of a list adds to the variables
record Lists (m : ℕ) (p : Piece) : Type 0 where
  free : IsFree VariableList p
  step : (v : ℕ) (c : Counts) (at : ℕ) → UpTo v 0 0 c → v + m ≤ 4096 → Few c (found VariableList p at) × UpTo (v + m) 0 0 (after c (found VariableList p at))

declarations-list : (m a : ℕ) → Lists m (in_a_row (map (λ i. declaration (variable_name i)) (range_with_len a m)))
unfolding items_below
declarations-list zero a = record { free = record { free = λ at. refl }; step = λ v c at u le. (tt, omega arith) }
declarations-list (suc m) a = record {
  free = both-free VariableList (declaration (variable_name a)) (in_a_row (map (λ i. declaration (variable_name i)) (range_with_len (a + 1) m))) (declaration-free (variable_name a)) (declarations-list m (a + 1)).free;
  step = λ v c at u le.
      let p = declaration (variable_name a) in
      let q = in_a_row (map (λ i. declaration (variable_name i)) (range_with_len (a + 1) m)) in
      let xs = found VariableList p at in
      let ys = found VariableList q (at + length p.bytes) in
      let first = declaration-after v c (variable_name a) at u (omega arith) in
      let second = (declarations-list m (a + 1)).step (v + 1) (after c xs) (at + length p.bytes) first (omega arith) in
      let up = second.1 in
      rw (found-both VariableList p q at (declaration-free (variable_name a))) (few-append xs ys c (declaration-few v c (variable_name a) at u (omega arith)) second.0, rw (after-append xs ys c) (omega arith));
}

below-one : (inner : Fate → Element → List Item) (row : Row) (e : Element) → items_below inner row none_taken (node_of e ∷ []) ≡ inner (fate_of row none_taken e) e
unfolding items_below
below-one inner row e = simp out-roll-Node (append-nil (inner (fate_of row none_taken e) e))

below-two : (inner : Fate → Element → List Item) (row : Row) (e f : Element) → items_below inner row none_taken (node_of e ∷ (node_of f ∷ [])) ≡ inner (fate_of row none_taken e) e ++ inner (fate_of row (taken_with row none_taken e) f) f
unfolding items_below
below-two inner row e f = simp out-roll-Node (ap (λ (xs : List Item). inner (fate_of row none_taken e) e ++ xs) (append-nil (inner (fate_of row (taken_with row none_taken e) f) f)))

abbrev at_lists : Counts
at_lists = record { pous = 1; variables = 0; elements = 0; connections = 0; pin_connections = 0; pins = 0 }

-- the two rows, and what stands between them
abbrev rows : Piece → Piece → ℕ → ℕ → Element → Element → List Item
rows variables body at_variables at_body e f = found VariableList variables at_variables ++ (record { fate = Read Body; element = e } ∷ (record { fate = Read Diagram; element = f } ∷ found Diagram body at_body))

rows-few : (variables body : Piece) (n at_variables at_body : ℕ) (e f : Element) → n ≤ 1000 → Lists n variables → Draws (n * 4) (n * 3) body → Few at_lists (rows variables body at_variables at_body e f)
rows-few variables body n at_variables at_body e f le l d =
    let h = l.step 0 at_lists at_variables (omega arith) (omega arith) in
    let c = after at_lists (found VariableList variables at_variables) in
    let more = h.1 in
    let c2 = with_fate (Read Diagram) (with_fate (Read Body) c) in
    few-append (found VariableList variables at_variables) _ at_lists h.0 (few _ (omega arith), (few _ (omega arith), (d.step 0 0 c2 at_body (omega arith) (omega arith) (omega arith)).0))

root-few : (variables body : Piece) (n : ℕ) → n ≤ 1000 → Lists n variables → Draws (n * 4) (n * 3) body → Few no_counts (looked_at (root variables body))
unfolding items fate_of taken_with child_for is_aside has_prefix looked_at root_fate values_of
root-few variables body n le l d =
    simp (below-one, below-two) (few _ (omega arith), (few _ (omega arith), (few _ (omega arith), (few _ (omega arith), (few _ (omega arith), (few _ (omega arith), rows-few variables body n _ _ _ _ le l d))))))

rows-good : (namespace : List ℕ) (variables body : Piece) (at_variables at_body : ℕ) (e f : Element) → IsGoodPiece namespace VariableList variables → IsGoodPiece namespace Diagram body → IsGood namespace (record { fate = Read Body; element = e }) → IsGood namespace (record { fate = Read Diagram; element = f }) → AllGood namespace (rows variables body at_variables at_body e f)
rows-good namespace variables body at_variables at_body e f h g he hf =
    good-append namespace (found VariableList variables at_variables) _ (h.good at_variables) (he, (hf, g.good at_body))

root-good : (variables body : Piece) → IsGoodPiece (codes "http://www.plcopen.org/xml/tc6_0201") VariableList variables → IsGoodPiece (codes "http://www.plcopen.org/xml/tc6_0201") Diagram body → AllGood (codes "http://www.plcopen.org/xml/tc6_0201") (looked_at (root variables body))
unfolding items fate_of taken_with child_for is_aside has_prefix looked_at root_fate lacks_child taken_by has_stray_text has_text has_bad_field has_bad_namespace values_of has_form
root-good variables body h g = simp (below-one, below-two) (
  record { structure = simp out-roll-Node; attributes = refl; constructs = λ r d. refl },
  (
    record { structure = simp out-roll-Node; attributes = refl; constructs = λ r d. refl },
    (
      record { structure = simp out-roll-Node; attributes = refl; constructs = λ r d. refl },
      (
        record { structure = simp out-roll-Node; attributes = refl; constructs = λ r d. refl },
        (
          record { structure = simp out-roll-Node; attributes = refl; constructs = λ r d. refl },
          (
            record { structure = h.blank _; attributes = refl; constructs = λ r d. refl },
            rows-good (codes "http://www.plcopen.org/xml/tc6_0201") variables body _ _ _ _ h g
                (record { structure = simp out-roll-Node; attributes = refl; constructs = λ r d. refl })
                (record { structure = g.blank _; attributes = refl; constructs = λ r d. refl }),
          ),
        ),
      ),
    ),
  ),
)

not-both : (b : Bool) → b ≡ false → b ≡ true → ⊥
not-both true h k = cc
not-both false h k = cc

never-structure : (e : Element) (namespace : List ℕ) (xs before : List Item) → AllGood namespace xs → Never (Breaks e Structure) before xs
unfolding breaks
never-structure e namespace [] before h = tt
never-structure e namespace (x ∷ xs) before h = (λ k. not-both _ h.0.structure k, never-structure e namespace xs (x ∷ before) h.1)

never-attributes : (e : Element) (xs before : List Item) → AllGood (attribute_of (codes "xmlns") e) xs → Never (Breaks e Attributes) before xs
unfolding breaks
never-attributes e [] before h = tt
never-attributes e (x ∷ xs) before h = (λ k. not-both _ h.0.attributes k, never-attributes e xs (x ∷ before) h.1)

never-constructs : (e : Element) (namespace : List ℕ) (xs before : List Item) → AllGood namespace xs → Never (Breaks e Constructs) before xs
unfolding breaks
never-constructs e namespace [] before h = tt
never-constructs e namespace (x ∷ xs) before h = (λ k. not-both _ (h.0.constructs (referred 0 (looked_at e)) (diagrams before)) k, never-constructs e namespace xs (x ∷ before) h.1)

never-limits : (e : Element) (xs before : List Item) → Few (counts_in before) xs → Never (Breaks e Limits) before xs
unfolding breaks
never-limits e [] before h = tt
never-limits e (x ∷ xs) before h = (λ k. not-both _ h.0 k, never-limits e xs (x ∷ before) h.1)

form-of : (e : Element) → AllGood (attribute_of (codes "xmlns") e) (looked_at e) → Few no_counts (looked_at e) → FormatVerdict e None
form-of e h f =
    let xs = looked_at e in
    Next (never-structure e (attribute_of (codes "xmlns") e) xs [] h) (Next (never-attributes e xs [] h) (Next (never-constructs e (attribute_of (codes "xmlns") e) xs [] h) (Next (never-limits e xs [] f) Kept)))

root-namespace : (variables body : Piece) → attribute_of (codes "xmlns") (root variables body) ≡ codes "http://www.plcopen.org/xml/tc6_0201"
unfolding attribute_of values_of
root-namespace variables body = refl

numbers : (n i : ℕ) → n ≤ 1000 → i < n → AreNumbers (decimal (id_in i 1)) (decimal (id_in i 2)) (decimal (id_in i 3)) (decimal (id_in i 4)) (decimal i)
numbers n i le lt = record {
  k1 = id_in i 1;
  k2 = id_in i 2;
  k3 = id_in i 3;
  k4 = id_in i 4;
  z = pos (i * 1000000);
  one_is = number-decimal (id_in i 1) (omega arith);
  two_is = number-decimal (id_in i 2) (omega arith);
  three_is = number-decimal (id_in i 3) (omega arith);
  last_is = number-decimal (id_in i 4) (omega arith);
  y_is = coordinate-decimal i (omega arith);
}

-- the tree of n networks breaks no rule on its form
pub bench-form : (n : ℕ) → IsMeasured n → FormatVerdict (bench_root n) None
bench-form n m =
    let le = m.few in
    let namespace = codes "http://www.plcopen.org/xml/tc6_0201" in
    form-of (bench_root n)
    (subst (λ (u : List ℕ). AllGood u (looked_at (bench_root n))) (sym (root-namespace (declarations n) (networks n)))
    (root-good (declarations n) (networks n)
    (row-holds (IsGoodPiece namespace VariableList) (nothing-good namespace VariableList) (both-good namespace VariableList) (λ i. declaration (variable_name i)) n (λ i lt. declaration-piece namespace (variable_name i)) n 0 (omega arith))
    (row-holds (IsGoodPiece namespace Diagram) (nothing-good namespace Diagram) (both-good namespace Diagram) (network n) n (λ i lt. four-good namespace _ _ _ _ _ _ _ (numbers n i le lt)) n 0 (omega arith))))
    (root-few (declarations n) (networks n) n le (declarations-list n 0) (networks-draw n n 0))
