-- The body of a POU is added behind what was prepared of others.
use Rattle.std.proofs.Common.{◌≡◌, List, ◌++◌, length, map, set, sym, ap, ◌∙◌, subst}
use Rattle.std.proofs.lemmas.List.{length-map}
use Rattle.plcx_types.specs.Value.{Value}
use Rattle.plcx_meaning.specs.Layout.{variables_of}
use Rattle.plcx_text_steps.specs.declared.text.Entry.{Entry}
use Rattle.plcx_text_numbered.specs.Numbers.{temporary_values}
use Rattle.plcx_text_numbered.specs.Texts.{Owner}
use Rattle.plcx_text_pieces.specs.Pieces.{Piece, Start, after, boxed}
use Rattle.plcx_text_lines.specs.declared.emitting.Prepared.{Prepared}
use Rattle.plcx_text_lines.specs.Added.{part_of, start_of, AddsBoxed}
use Rattle.plcx_text_order.specs.Made.{body_piece, start_at, AddsPou}
use Rattle.plcx_text_program.specs.declared.pous.Pous.{Pous}
use Rattle.plcx_text_program.specs.Making.{made_of, Begins, Ends}

same_start : (s t : Start) → s.arguments ≡ t.arguments → s.bindings ≡ t.bindings → s.sections ≡ t.sections → s.arms ≡ t.arms → s.wires ≡ t.wires → s ≡ t
same_start s t a b c d e =
    ap (λ n. let u : Start = record { arguments = n; bindings = s.bindings; sections = s.sections; arms = s.arms; wires = s.wires } in u) a
    ∙ ap (λ n. let u : Start = record { arguments = t.arguments; bindings = n; sections = s.sections; arms = s.arms; wires = s.wires } in u) b
    ∙ ap (λ n. let u : Start = record { arguments = t.arguments; bindings = t.bindings; sections = n; arms = s.arms; wires = s.wires } in u) c
    ∙ ap (λ n. let u : Start = record { arguments = t.arguments; bindings = t.bindings; sections = t.sections; arms = n; wires = s.wires } in u) d
    ∙ ap (λ n. let u : Start = record { arguments = t.arguments; bindings = t.bindings; sections = t.sections; arms = t.arms; wires = n } in u) e

-- where a body begins
start_is : (before : Pous) (own : List Value) (first : Prepared) → Begins before.prepared own first → start_of first ≡ start_at (made_of before) own
start_is before own first h =
    same_start (start_of first) (start_at (made_of before) own)
    (ap length h.arguments)
    (ap length h.bindings)
    (ap length h.sections ∙ sym (length-map before.prepared.sections.items part_of))
    (ap length h.arms)
    (ap length h.wires)

-- the same, with what the temporaries begin with
adds_own : (o : Owner) (before more : Pous) (first behind : Prepared) (entry : Entry) → Begins before.prepared (temporary_values (variables_of o.pou.blocks)) first
    → AddsBoxed o.number (body_piece o (start_of first)) first behind entry.section → Ends behind more.prepared entry.wires.items
    → more.entries.items ≡ set before.entries.items o.number entry → AddsPou o (made_of before) (made_of more)
adds_own o before more first behind entry begins adds ends entries = record {
  entry = entry;
  entries = entries;
  wires = ends.wires ∙ here.added.wires ∙ ap (λ ws. ws ++ piece.wires) begins.wires;
  section = here.numbered ∙ ap (λ s. (after s piece).sections) starts;
  arguments = ends.arguments ∙ here.added.arguments ∙ ap (λ xs. xs ++ piece.arguments) begins.arguments;
  bindings = ends.bindings ∙ here.added.bindings ∙ ap (λ xs. xs ++ piece.bindings) begins.bindings;
  sections = ap (map part_of) ends.sections ∙ here.added.sections ∙ ap (λ xs. map part_of xs ++ (boxed o.number piece).sections) begins.sections;
  arms = ends.arms ∙ here.added.arms ∙ ap (λ xs. xs ++ piece.arms) begins.arms;
}
  where
    own : List Value
    own = temporary_values (variables_of o.pou.blocks)

    starts : start_of first ≡ start_at (made_of before) own
    starts = start_is before own first begins

    piece : Piece
    piece = body_piece o (start_at (made_of before) own)

    here : AddsBoxed o.number piece first behind entry.section
    here = subst (λ s. AddsBoxed o.number (body_piece o s) first behind entry.section) starts adds

pub adds_pou : (o : Owner) (before more : Pous) (first behind : Prepared) (own : List Value) (entry : Entry) → Begins before.prepared own first
    → own ≡ temporary_values (variables_of o.pou.blocks) → AddsBoxed o.number (body_piece o (start_of first)) first behind entry.section
    → Ends behind more.prepared entry.wires.items → more.entries.items ≡ set before.entries.items o.number entry → AddsPou o (made_of before) (made_of more)
adds_pou o before more first behind own entry begins own_are adds ends entries =
    adds_own o before more first behind entry (subst (λ ws. Begins before.prepared ws first) own_are begins) adds ends entries
