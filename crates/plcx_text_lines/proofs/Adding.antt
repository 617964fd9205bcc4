-- Pieces behind one another.
use Rattle.std.proofs.Common.{◌≡◌, ℕ, ◌+◌, List, [], ◌∷◌, ◌++◌, length, map, sym, ap, ap₂, ◌∙◌, subst, append_assoc}
use Rattle.std.proofs.lemmas.List.{append-nil, length-append, length-map}
use Rattle.plcx_types.specs.Value.{Value}
use Rattle.plcx_steps.specs.declared.program.Argument.{Argument}
use Rattle.plcx_text_steps.specs.declared.text.Line.{Line}
use Rattle.plcx_text_steps.specs.declared.text.Section.{Section}
use Rattle.plcx_text_pieces.specs.Pieces.{Part, Piece, Start, nothing, joined, after, boxed}
use Rattle.plcx_text_lines.specs.declared.emitting.Prepared.{Prepared}
use Rattle.plcx_text_lines.specs.Added.{part_of, start_of, Adds, Opens, Closes, AddsBoxed}

-- nothing is added
pub adds_nothing : (p : Prepared) → Adds nothing p p
adds_nothing p = record {
  lines = sym (append-nil p.lines.items);
  arguments = sym (append-nil p.arguments.items);
  bindings = sym (append-nil p.bindings.items);
  sections = sym (append-nil (map part_of p.sections.items));
  arms = sym (append-nil p.arms.items);
  wires = sym (append-nil p.wires.items);
}

and_then : {A : Type 0} (a b c xs ys : List A) → b ≡ a ++ xs → c ≡ b ++ ys → c ≡ a ++ (xs ++ ys)
and_then a b c xs ys first second = second ∙ ap (λ zs. zs ++ ys) first ∙ append_assoc a xs ys

-- one piece, and then another
pub adds_then : (p q : Piece) (a b c : Prepared) → Adds p a b → Adds q b c → Adds (joined p q) a c
adds_then p q a b c first second = record {
  lines = and_then a.lines.items b.lines.items c.lines.items p.lines q.lines first.lines second.lines;
  arguments = and_then a.arguments.items b.arguments.items c.arguments.items p.arguments q.arguments first.arguments second.arguments;
  bindings = and_then a.bindings.items b.bindings.items c.bindings.items p.bindings q.bindings first.bindings second.bindings;
  sections = and_then (map part_of a.sections.items) (map part_of b.sections.items) (map part_of c.sections.items) p.sections q.sections first.sections second.sections;
  arms = and_then a.arms.items b.arms.items c.arms.items p.arms q.arms first.arms second.arms;
  wires = and_then a.wires.items b.wires.items c.wires.items p.wires q.wires first.wires second.wires;
}

longer : {A : Type 0} (a b xs : List A) → b ≡ a ++ xs → length b ≡ length a + length xs
longer a b xs is = ap length is ∙ length-append a xs

sections_longer : (a b : List Section) (xs : List Part) → map part_of b ≡ map part_of a ++ xs → length b ≡ length a + length xs
sections_longer a b xs is = sym (length-map b part_of) ∙ longer (map part_of a) (map part_of b) xs is ∙ ap (λ n. n + length xs) (length-map a part_of)

same_start : (s t : Start) → s.arguments ≡ t.arguments → s.bindings ≡ t.bindings → s.sections ≡ t.sections → s.arms ≡ t.arms → s.wires ≡ t.wires → s ≡ t
same_start s t a b c d e =
    ap (λ n. let u : Start = record { arguments = n; bindings = s.bindings; sections = s.sections; arms = s.arms; wires = s.wires } in u) a
    ∙ ap (λ n. let u : Start = record { arguments = t.arguments; bindings = n; sections = s.sections; arms = s.arms; wires = s.wires } in u) b
    ∙ ap (λ n. let u : Start = record { arguments = t.arguments; bindings = t.bindings; sections = n; arms = s.arms; wires = s.wires } in u) c
    ∙ ap (λ n. let u : Start = record { arguments = t.arguments; bindings = t.bindings; sections = t.sections; arms = n; wires = s.wires } in u) d
    ∙ ap (λ n. let u : Start = record { arguments = t.arguments; bindings = t.bindings; sections = t.sections; arms = t.arms; wires = n } in u) e

-- so much is prepared behind a piece
pub start_then : (p : Piece) (a b : Prepared) → Adds p a b → start_of b ≡ after (start_of a) p
start_then p a b h =
    same_start (start_of b) (after (start_of a) p)
    (longer a.arguments.items b.arguments.items p.arguments h.arguments)
    (longer a.bindings.items b.bindings.items p.bindings h.bindings)
    (sections_longer a.sections.items b.sections.items p.sections h.sections)
    (longer a.arms.items b.arms.items p.arms h.arms)
    (longer a.wires.items b.wires.items p.wires h.wires)

-- a piece, and then one that depends on how much was prepared then
pub adds_next : (p : Piece) (q : Start → Piece) (a b c : Prepared) → Adds p a b → Adds (q (start_of b)) b c → Adds (joined p (q (after (start_of a) p))) a c
adds_next p q a b c first second = adds_then p (q (after (start_of a) p)) a b c first (subst (λ s. Adds (q s) b c) (start_then p a b first) second)

-- what is added is a piece that is the same
pub adds_same : (p q : Piece) (a b : Prepared) → p ≡ q → Adds p a b → Adds q a b
adds_same p q a b same h = subst (λ r. Adds r a b) same h

-- lines, inputs and wires, one behind another
pub adds_three : (ls : List Line) (xs : List Argument) (ws : List Value) (a b c d : Prepared) → Adds (record nothing { lines = ls }) a b → Adds (record nothing { arguments = xs }) b c → Adds (record nothing { wires = ws }) c d
    → Adds (record nothing { lines = ls; arguments = xs; wires = ws }) a d
adds_three ls xs ws a b c d first second third =
    adds_same _ _ a d
    (ap₂ (λ (ms : List Line) (ys : List Argument). let p : Piece = record nothing { lines = ms; arguments = ys; wires = ws } in p) (append-nil ls) (append-nil xs))
    (adds_then _ _ a b d first (adds_then _ _ b c d second third))

-- what is prepared without the lines
pub start_opened : (a inner : Prepared) (outer : List Line) → Opens a inner outer → start_of inner ≡ start_of a
start_opened a inner outer h =
    same_start (start_of inner) (start_of a)
    (ap length h.arguments)
    (ap length h.bindings)
    (sym (length-map inner.sections.items part_of) ∙ ap length h.sections ∙ length-map a.sections.items part_of)
    (ap length h.arms)
    (ap length h.wires)

-- a piece that is added there becomes a section
pub adds_boxed : (pou : ℕ) (p : Start → Piece) (a inner done behind : Prepared) (outer : List Line) (number : ℕ)
    → Opens a inner outer → Adds (p (start_of inner)) inner done → Closes pou done outer behind number → AddsBoxed pou (p (start_of a)) a behind number
adds_boxed pou p a inner done behind outer number opens added closes =
    let here : Adds (p (start_of a)) inner done = subst (λ s. Adds (p s) inner done) (start_opened a inner outer opens) added in
    let q = p (start_of a) in
    record {
      added = record {
        lines = closes.lines ∙ opens.outer_lines ∙ sym (append-nil a.lines.items);
        arguments = closes.arguments ∙ here.arguments ∙ ap (λ xs. xs ++ q.arguments) opens.arguments;
        bindings = closes.bindings ∙ here.bindings ∙ ap (λ xs. xs ++ q.bindings) opens.bindings;
        sections =
            closes.sections
            ∙ ap (λ (xs : List Part). xs ++ (pou, done.lines.items) ∷ []) (here.sections ∙ ap (λ (xs : List Part). xs ++ q.sections) opens.sections)
            ∙ append_assoc (map part_of a.sections.items) q.sections ((pou, done.lines.items) ∷ [])
            ∙ ap (λ (ls : List Line). map part_of a.sections.items ++ (q.sections ++ (pou, ls) ∷ [])) (here.lines ∙ ap (λ ls. ls ++ q.lines) opens.lines);
        arms = closes.arms ∙ here.arms ∙ ap (λ xs. xs ++ q.arms) opens.arms;
        wires = closes.wires ∙ here.wires ∙ ap (λ xs. xs ++ q.wires) opens.wires;
      };
      numbered = closes.numbered ∙ sections_longer a.sections.items done.sections.items q.sections (here.sections ∙ ap (λ (xs : List Part). xs ++ q.sections) opens.sections);
    }
