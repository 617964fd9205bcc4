-- The parts of a piece stand where the piece does.
use Rattle.std.proofs.Common.{◌≡◌, ℕ, zero, suc, ◌+◌, ◌-◌, ◌≤◌, List, [], ◌∷◌, ◌++◌, length, map, Some, refl, sym, ap, ◌∙◌, subst, arith, take, drop}
use Rattle.std.specs.Prelude.{slice_get, min}
use Rattle.std.proofs.lemmas.List.{length-append, length-take, length-drop}
use Rattle.plcx_numbered.specs.Right.{HasAt}
use Rattle.plcx_numbered.proofs.Elements.{at_parts}
use Rattle.plcx_text_steps.specs.declared.text.Section.{Section}
use Rattle.plcx_text_steps.specs.declared.text.Line.{Line}
use Rattle.plcx_text_numbered.specs.Texts.{Owner, Parts, IsSectionOf}
use Rattle.plcx_text_pieces.specs.Pieces.{Part, Piece, Start, joined, after, boxed}
use Rattle.plcx_text_pieces.specs.Laws.{StandsIn, part_of, Has}

within : {A : Type 0} (whole : List A) (i : ℕ) (part : List A) → StandsIn whole i part → i + length part ≤ length whole
within whole i part s =
    let begins = s.begins in
    let long : length part ≡ min (i + length part - i) (length whole - i) = ap length (sym s.has) ∙ simp (length-take, length-drop) in
    omega arith

pub room_for : {A : Type 0} (whole : List A) (i n : ℕ) (part : List A) → StandsIn whole i part → length part ≡ n → i + n ≤ length whole
room_for whole i n part s is = let most = within whole i part s in omega (arith, is)

pub two_parts : {A : Type 0} (whole : List A) (i : ℕ) (xs ys : List A) → StandsIn whole i (xs ++ ys) → StandsIn whole i xs × StandsIn whole (i + length xs) ys
two_parts whole i xs ys s =
    let parts = at_parts whole i xs ys s.has in
    let front : StandsIn whole i xs = record { begins = s.begins; has = parts.0 } in
    (front, record { begins = within whole i xs front; has = parts.1 })

-- what stands alone at a place
first_there : {A : Type 0} (whole : List A) (i : ℕ) (x : A) → take 1 (drop i whole) ≡ x ∷ [] → slice_get whole i ≡ Some x
first_there [] zero x h = absurd (cc)
first_there [] (suc i) x h = absurd (cc)
first_there (y ∷ ys) zero x h = cc
first_there (y ∷ ys) (suc i) x h = first_there ys i x h

pub one_there : {A : Type 0} (whole : List A) (i : ℕ) (x : A) → StandsIn whole i (x ∷ []) → slice_get whole i ≡ Some x
one_there whole i x s = first_there whole i x (ap (λ n. take n (drop i whole)) (let one : 1 ≡ i + 1 - i = omega arith in one) ∙ s.has)

-- ---- pieces

pub has_first : (c : Parts) (s : Start) (p q : Piece) → Has c s (joined p q) → Has c s p
has_first c s p q h = record {
  arguments = (two_parts c.arguments s.arguments p.arguments q.arguments h.arguments).0;
  bindings = (two_parts c.bindings s.bindings p.bindings q.bindings h.bindings).0;
  sections = (two_parts (map part_of c.sections) s.sections p.sections q.sections h.sections).0;
  arms = (two_parts c.arms s.arms p.arms q.arms h.arms).0;
  wires = (two_parts c.wires s.wires p.wires q.wires h.wires).0;
}

pub has_second : (c : Parts) (s : Start) (p q : Piece) → Has c s (joined p q) → Has c (after s p) q
has_second c s p q h = record {
  arguments = (two_parts c.arguments s.arguments p.arguments q.arguments h.arguments).1;
  bindings = (two_parts c.bindings s.bindings p.bindings q.bindings h.bindings).1;
  sections = (two_parts (map part_of c.sections) s.sections p.sections q.sections h.sections).1;
  arms = (two_parts c.arms s.arms p.arms q.arms h.arms).1;
  wires = (two_parts c.wires s.wires p.wires q.wires h.wires).1;
}

-- what is within a section
pub has_within : (c : Parts) (s : Start) (pou : ℕ) (p : Piece) → Has c s (boxed pou p) → Has c s p
has_within c s pou p h = record {
  arguments = h.arguments;
  bindings = h.bindings;
  sections = (two_parts (map part_of c.sections) s.sections p.sections ((pou, p.lines) ∷ []) h.sections).0;
  arms = h.arms;
  wires = h.wires;
}

mapped_there : (ss : List Section) (i : ℕ) (x : Part) → slice_get (map part_of ss) i ≡ Some x → (z : Section) × (slice_get ss i ≡ Some z) × (part_of z ≡ x)
mapped_there [] i x h = absurd (cc)
mapped_there (z ∷ ss) zero x h = (z, refl, cc)
mapped_there (z ∷ ss) (suc i) x h = mapped_there ss i x h

-- and the section itself
pub is_section : (o : Owner) (c : Parts) (s : Start) (p : Piece) → Has c s (boxed o.number p) → IsSectionOf o c (after s p).sections p.lines
is_section o c s p h =
    let there = one_there (map part_of c.sections) (s.sections + length p.sections) (o.number, p.lines) (two_parts (map part_of c.sections) s.sections p.sections ((o.number, p.lines) ∷ []) h.sections).1 in
    let z = mapped_there c.sections (s.sections + length p.sections) (o.number, p.lines) there in
    record { section = z.0; is = z.1; part = ap (λ (x : Part). x.0) z.2; are_lines = ap (λ (x : Part). x.1) z.2 }

-- ---- how many sections there are

pub none_more : (s : Start) → s.sections ≡ s.sections + 0
none_more s = omega arith

-- behind a section stands the next
pub next_section : (s : Start) (pou : ℕ) (p : Piece) → (after s (boxed pou p)).sections ≡ (after s p).sections + 1
next_section s pou p = let longer = length-append p.sections ((pou, p.lines) ∷ []) in omega arith
