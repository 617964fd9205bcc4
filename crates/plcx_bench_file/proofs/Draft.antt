-- The draft of the tree of the file.
use Rattle.std.proofs.Common.{◌≡◌, ◌≤◌, ◌<◌, ◌+◌, ◌*◌, ℕ, zero, suc, false, List, [], ◌∷◌, ◌++◌, length, map, refl, ap, ◌∙◌, arith, Some, None}
use Rattle.std.specs.Prelude.{codes, pos, ℤ, filter_map}
use Rattle.std.specs.List.{range_with_len, flat_map}
use Rattle.std.specs.Fmt.{decimal}
use Rattle.plcx_types.specs.declared.ty.Ty.TheVariants as ty
use Rattle.plcx_model.specs.declared.body.Kind.TheVariants as kind
use Rattle.plcx_model.specs.declared.body.BodyElement.{BodyElement}
use Rattle.plcx_model.specs.declared.project.PouKind.TheVariants.{Program}
use Rattle.plcx_model.specs.declared.project.ListClass.TheVariants.{Local}
use Rattle.plcx_xml.specs.declared.tree.Node.{Node, out-Node, out-roll-Node}
use Rattle.plcx_table.specs.Constructs.{attribute_of, number_at}
use Rattle.plcx_table.specs.Number.{number_of, coordinate_of, magnitude_of, is_decimal, digits_behind}
use Rattle.plcx_table.specs.Walk.{child_for, values_of}
use Rattle.plcx_draft.specs.declared.draft.DraftType.TheVariants.{Plain}
use Rattle.plcx_draft.specs.declared.draft.DraftVariable.{DraftVariable}
use Rattle.plcx_draft.specs.declared.draft.Draft.{Draft}
use Rattle.plcx_draft.specs.Parts.{part_in, parts_of, first_part, first_child, text_of, text_under}
use Rattle.plcx_draft.specs.BodyIn.{is_marked, edge_in, storage_in, modifiers_in, connection_in, input_of, input_pin, output_pin, block_in, kind_in, order_in, element_in, diagram_in, body_in}
use Rattle.plcx_draft.specs.DraftIn.{type_of, type_in, initial_in, variable_in, class_named, list_in, pou_in, draft_in}
use Rattle.plcx_bench_project.specs.Bench.{IsMeasured, variable_name, next_name, id_in, plain, to, term}
use Rattle.plcx_bench_project.specs.Bench as bench
use Rattle.plcx_bench_file.specs.Markup.{Piece, start_tag, around_at, element, empty, both, in_a_row}
use Rattle.plcx_bench_file.specs.File.{with, position, expression, point, pins, result, numbered, network, networks, declaration, declarations, namespace, root, bench_root}
use Rattle.plcx_bench_file.proofs.Digits.{number-decimal, coordinate-decimal}

at_zero : coordinate_of (codes "0") ≡ Some (pos 0)
unfolding coordinate_of magnitude_of is_decimal digits_behind
at_zero = refl

input-read : (at : ℕ) (id y text : List ℕ) (k : ℕ) (z : ℤ) → number_of id ≡ Some k → coordinate_of y ≡ Some z → element_in (around_at (codes "inVariable") (numbered id) (both (position y) (expression text)) at) ≡ Some (record { local_id = k; order = None; x = pos 0; y = z; kind = kind.In text plain })
unfolding child_for values_of attribute_of number_at parts_of first_part first_child text_of text_under is_marked edge_in storage_in modifiers_in connection_in input_of input_pin output_pin block_in kind_in order_in element_in
input-read at id y text k z i h = simp (out-roll-Node, i, h, at_zero)

addition-read : (at : ℕ) (id y left right : List ℕ) (k l r : ℕ) (z : ℤ) → number_of id ≡ Some k → number_of left ≡ Some l → number_of right ≡ Some r → coordinate_of y ≡ Some z →
    element_in (around_at (codes "block") (with (codes "localId") id ∷ with (codes "typeName") (codes "ADD") ∷ []) (both (position y) (both (pins left right) result)) at)
    ≡ Some (record { local_id = k; order = None; x = pos 0; y = z; kind = kind.Block (codes "ADD") None (term (codes "IN1") l ∷ term (codes "IN2") r ∷ []) [] (record { formal = codes "OUT"; mods = plain } ∷ []) })
unfolding child_for values_of attribute_of number_at parts_of first_part first_child text_of text_under is_marked edge_in storage_in modifiers_in connection_in input_of input_pin output_pin block_in kind_in order_in element_in
addition-read at id y left right k l r z i hl hr h = simp (out-roll-Node, i, hl, hr, h, at_zero)

output-read : (at : ℕ) (id y sum text : List ℕ) (k l : ℕ) (z : ℤ) → number_of id ≡ Some k → number_of sum ≡ Some l → coordinate_of y ≡ Some z →
    element_in (around_at (codes "outVariable") (numbered id) (both (position y) (both (point (with (codes "refLocalId") sum ∷ with (codes "formalParameter") (codes "OUT") ∷ [])) (expression text))) at)
    ≡ Some (record { local_id = k; order = None; x = pos 0; y = z; kind = kind.Out (to l (codes "OUT")) text plain })
unfolding child_for values_of attribute_of number_at parts_of first_part first_child text_of text_under is_marked edge_in storage_in modifiers_in connection_in input_of input_pin output_pin block_in kind_in order_in element_in
output-read at id y sum text k l z i hl h = simp (out-roll-Node, i, hl, h, at_zero)

-- the declaration of a name, where it begins
abbrev pub declared : List ℕ → ℕ → DraftVariable
declared name start = record { name = name; address = []; ty = Plain ty.Dint; initial = None; start = start }

declaration-read : (at : ℕ) (name : List ℕ) → variable_in (around_at (codes "variable") (with (codes "name") name ∷ []) (element (codes "type") [] (empty (codes "DINT") [])) at) ≡ Some (declared name at)
unfolding values_of attribute_of parts_of first_part first_child type_of type_in initial_in variable_in
declaration-read at name = simp out-roll-Node

-- the elements that parts of a diagram are, and the variables that parts of a list are
abbrev drawn : List Node → List BodyElement
drawn ns = filter_map (λ (n : Node). part_in element_in (out-Node n)) ns

abbrev listed : List Node → List DraftVariable
listed ns = filter_map (λ (n : Node). part_in variable_in (out-Node n)) ns

four-read : (n i at : ℕ) (more : List Node) → i < n → n ≤ 1000 → drawn ((network n i).nodes at ++ more) ≡ bench.network n i ++ drawn more
four-read n i at more lt le =
    let one = number-decimal (id_in i 1) (omega arith) in
    let two = number-decimal (id_in i 2) (omega arith) in
    let three = number-decimal (id_in i 3) (omega arith) in
    let last = number-decimal (id_in i 4) (omega arith) in
    let y = coordinate-decimal i (omega arith) in
    let e1 = λ (k : ℕ). input-read k (decimal (id_in i 1)) (decimal i) (variable_name i) (id_in i 1) (pos (i * 1000000)) one y in
    let e2 = λ (k : ℕ). input-read k (decimal (id_in i 2)) (decimal i) (codes "DINT#1") (id_in i 2) (pos (i * 1000000)) two y in
    let e3 = λ (k : ℕ). addition-read k (decimal (id_in i 3)) (decimal i) (decimal (id_in i 1)) (decimal (id_in i 2)) (id_in i 3) (id_in i 1) (id_in i 2) (pos (i * 1000000)) three one two y in
    let e4 = λ (k : ℕ). output-read k (decimal (id_in i 4)) (decimal i) (decimal (id_in i 3)) (next_name n i) (id_in i 4) (id_in i 3) (pos (i * 1000000)) last three y in
    simp (out-roll-Node, e1, e2, e3, e4)

networks-read : (n m a at : ℕ) → a + m ≤ n → n ≤ 1000 → drawn ((in_a_row (map (network n) (range_with_len a m))).nodes at) ≡ flat_map (bench.network n) (range_with_len a m)
networks-read n zero a at le few = refl
networks-read n (suc m) a at le few =
    let k = at + length (network n a).bytes in
    four-read n a at ((in_a_row (map (network n) (range_with_len (a + 1) m))).nodes k) (omega arith) few
    ∙ ap (λ (es : List BodyElement). bench.network n a ++ es) (networks-read n m (a + 1) k (omega arith) few)

-- the declarations from the a-th on, from an offset on
abbrev pub declared_from : ℕ → ℕ → ℕ → List DraftVariable
declared_from a zero at = []
declared_from a (suc m) at = declared (variable_name a) at ∷ declared_from (a + 1) m (at + length (declaration (variable_name a)).bytes)

declarations-read : (m a at : ℕ) → listed ((in_a_row (map (λ i. declaration (variable_name i)) (range_with_len a m))).nodes at) ≡ declared_from a m at
declarations-read zero a at = refl
declarations-read (suc m) a at =
    let e = λ (k : ℕ). declaration-read k (variable_name a) in
    simp (out-roll-Node, e) (ap (λ (vs : List DraftVariable). declared (variable_name a) at ∷ vs) (declarations-read m (a + 1) (at + length (declaration (variable_name a)).bytes)))

-- where the program begins, what stands in it, its variables and its elements
abbrev pub pou_at : ℕ
pou_at = 0 + length (start_tag (codes "project") namespace) + length (start_tag (codes "types") []) + length (start_tag (codes "pous") [])

abbrev inner_at : ℕ
inner_at = pou_at + length (start_tag (codes "pou") (with (codes "name") (codes "Bench") ∷ with (codes "pouType") (codes "program") ∷ []))

abbrev pub variables_at : ℕ
variables_at = inner_at + length (start_tag (codes "interface") []) + length (start_tag (codes "localVars") [])

abbrev body_at : Piece → ℕ
body_at variables = inner_at + length (element (codes "interface") [] (element (codes "localVars") [] variables)).bytes + length (start_tag (codes "body") []) + length (start_tag (codes "FBD") [])

-- the draft of a program of these variables and elements
abbrev pub draft_of : List DraftVariable → List BodyElement → Draft
draft_of variables elements = record {
  pous = record {
    name = codes "Bench";
    kind = Program;
    lists = record { class = Local; constant = false; retain = false; variables = variables } ∷ [];
    body = record { ladder = false; elements = elements };
    start = pou_at;
  } ∷ [];
}

root-read : (variables body : Piece) → draft_in (root variables body) ≡ draft_of (listed (variables.nodes variables_at)) (drawn (body.nodes (body_at variables)))
unfolding values_of attribute_of parts_of first_part first_child is_marked class_named list_in diagram_in body_in pou_in draft_in
root-read variables body = simp out-roll-Node

-- the draft of n networks
pub bench-draft : (n : ℕ) → IsMeasured n → draft_in (bench_root n) ≡ draft_of (declared_from 0 n variables_at) (bench.ring_elements n)
bench-draft n m =
    root-read (declarations n) (networks n)
    ∙ (ap (λ (vs : List DraftVariable). draft_of vs (drawn ((networks n).nodes (body_at (declarations n))))) (declarations-read n 0 variables_at)
    ∙ ap (draft_of (declared_from 0 n variables_at)) (networks-read n n 0 (body_at (declarations n)) (omega arith) m.few))
