-- Sources and links: what steps bring into a spare wire is what stands there.
use Rattle.std.proofs.Common.{◌≡◌, ℕ, ◌+◌, ◌<◌, ◌≤◌, ℤ, Bool, true, false, List, [], ◌∷◌, ◌++◌, length, set, map, refl, sym, ap, ap₂, ◌∙◌, arith, get_or-set_other}
use Rattle.std.proofs.lemmas.List.{length-set, get_or-set_same}
use Rattle.plcx_types.specs.declared.ty.Ty.{Ty}
use Rattle.plcx_types.specs.Name.{in_lower_case}
use Rattle.plcx_types.specs.Lists.{Each}
use Rattle.plcx_types.specs.Value.{Value}
use Rattle.plcx_meaning.specs.Base.{AtOutput, or_of, not_of, not_if, Ended, then_do, Site}
use Rattle.plcx_meaning.specs.Diagram as diagram
use Rattle.plcx_meaning.specs.Diagram.{Link}
use Rattle.plcx_meaning.specs.Evaluate.{Heard, DiagramState, Wires, source_value, or_all, link_value}
use Rattle.plcx_steps.specs.declared.program.Source.{Source}
use Rattle.plcx_steps.specs.declared.program.Source.TheVariants.{Wire}
use Rattle.plcx_steps.specs.declared.program.Step.{Step}
use Rattle.plcx_steps.specs.Numbered.{Numbered, Here, Entered, frame, no_value, bit, number_at, cells_of, source_at, read, steps_do}
use Rattle.plcx_numbered.specs.Agreeing.{Holds, plain_cell, plain_pin, Shape, Lies, SameWires}
use Rattle.plcx_numbered.specs.Prepared.{source_of, or_steps, not_steps, joined_steps, link_steps, link_source}
use Rattle.plcx_numbered.specs.Right.{Place, RightSource, RightLink}
use Rattle.plcx_numbered.proofs.Holding.{holds_behind}
use Rattle.plcx_numbered.proofs.Alikes.{steps_append}

-- the memories alone
abbrev pub SameMemories : {M : Type 0} → Shape → DiagramState → Numbered M → Type 0
SameMemories whole d n = Holds plain_cell whole.cells (λ x. d.memories x.0 x.1) n.memories

module _ {M : Type 0} (whole : Shape) (tell : M → Heard → M) (enter : Entered M) (c : Place) (spare : length c.pins ≤ c.num.spare) (site : Site) (here : Here) (lies : Lies whole c.plan.shape site.path here.at) where
  -- sources read memories and wires alone
  pub source_alike : (d : DiagramState) (n : Numbered M) (ws : Wires) (own : List Value) → SameMemories whole d n → SameWires c.pins ws own → (t : Ty) (o : diagram.Source) → RightSource c o
      → source_value site.path d ws o ≡ read here (cells_of n own) (source_of c.num t o)
  source_alike d n ws own mem same t diagram.Rail h = refl
  source_alike d n ws own mem same t (diagram.Literal negated v) h = refl
  source_alike d n ws own mem same t (diagram.Wire id pin) h = same.each (c.num.wire id pin) (id, pin) h
  source_alike d n ws own mem same t (diagram.Back id pin) h =
      mem.each (here.at.memories + c.num.memory (AtOutput id pin)) (site.path, AtOutput id pin) (lies.cells (c.num.memory (AtOutput id pin)) [] (AtOutput id (in_lower_case pin)) h)

  -- Steps leave all but one wire as it was, end with nothing to pass over, and then the source has the value.
  pub record Brought (ws : Wires) (n : Numbered M) (own : List Value) (w : ℕ) (steps : List Step) (source : Source) (v : ℤ) : Type 0 where
    pub after : List Value
    pub does : steps_do tell enter here steps n (frame 0 own) ≡ Ended n (frame 0 after)
    pub same : SameWires c.pins ws after
    pub width : length after ≡ length own
    pub others : (j : ℕ) → (j ≡ w → ⊥) → number_at after j ≡ number_at own j
    pub value : read here (cells_of n after) source ≡ v

  -- a spare wire is set
  pub spare_same : (ws : Wires) (own : List Value) (w : ℕ) (v : Value) → c.num.spare ≤ w → SameWires c.pins ws own → SameWires c.pins ws (set own w v)
  spare_same ws own w v past same = holds_behind plain_pin c.pins (λ p. ws p.0 p.1) own w v (omega arith) same

  pub other_wire : (own : List Value) (w j : ℕ) (v : Value) → (j ≡ w → ⊥) → number_at (set own w v) j ≡ number_at own j
  other_wire own w j v ne = ap (λ (u : Value). u.n) (get_or-set_other own w j v no_value ne)

  pub same_wire : (own : List Value) (w : ℕ) (v : Value) → w < length own → number_at (set own w v) w ≡ v.n
  same_wire own w v low = ap (λ (u : Value). u.n) (get_or-set_same own w v no_value low)

  module _ (d : DiagramState) (n : Numbered M) (ws : Wires) (mem : SameMemories whole d n) (w : ℕ) (past : c.num.spare ≤ w) where
    ors : (t : Ty) (os : List diagram.Source) → Each (RightSource c) os → (own : List Value) → SameWires c.pins ws own → w < length own → (v : ℤ) → number_at own w ≡ v
        → Brought ws n own w (or_steps c.num t w os) (Wire w) (or_all v (map (source_value site.path d ws) os))
    ors t [] h own same low v is = record { after = own; does = refl; same = same; width = refl; others = λ j ne. refl; value = is }
    ors t (o ∷ os) h own same low v is =
        let x = bit (or_of (number_at own w) (read here (cells_of n own) (source_of c.num t o))) in
        let e = ap₂ or_of is (sym (source_alike d n ws own mem same t o h.0)) in
        let long = length-set own w x in
        let r = ors t os h.1 (set own w x) (spare_same ws own w x past same) (omega arith) (or_of v (source_value site.path d ws o)) (same_wire own w x low ∙ e) in
        record { after = r.after; does = r.does; same = r.same; width = r.width ∙ long; others = λ j ne. r.others j ne ∙ other_wire own w j x ne; value = r.value }

    nots : (b : Bool) (own : List Value) → SameWires c.pins ws own → w < length own → (v : ℤ) → number_at own w ≡ v → Brought ws n own w (not_steps b w) (Wire w) (not_if b v)
    nots false own same low v is = record { after = own; does = refl; same = same; width = refl; others = λ j ne. refl; value = is }
    nots true own same low v is =
        let x = bit (not_of (number_at own w)) in
        record { after = set own w x; does = refl; same = spare_same ws own w x past same; width = length-set own w x; others = λ j ne. other_wire own w j x ne; value = same_wire own w x low ∙ ap not_of is }

    -- one after the other
    brought_then : (own : List Value) (xs ys : List Step) (u v : ℤ) → (a : Brought ws n own w xs (Wire w) u) → Brought ws n a.after w ys (Wire w) v → Brought ws n own w (xs ++ ys) (Wire w) v
    brought_then own xs ys u v a b = record {
      after = b.after;
      does = steps_append tell enter here xs ys n (frame 0 own) ∙ ap (λ q. then_do q (λ n' f'. steps_do tell enter here ys n' f')) a.does ∙ b.does;
      same = b.same;
      width = b.width ∙ a.width;
      others = λ j ne. b.others j ne ∙ a.others j ne;
      value = b.value;
    }

    pub joined : (link : Link) → RightLink c link → (own : List Value) → SameWires c.pins ws own → w < length own → Brought ws n own w (joined_steps c.num w link) (Wire w) (link_value site.path d ws link)
    joined link h own same low =
        let x = source_at here (cells_of n own) (source_of c.num link.ty link.first) in
        let one = set own w x in
        let long = length-set own w x in
        let a = ors link.ty link.others h.others one (spare_same ws own w x past same) (omega arith) (source_value site.path d ws link.first) (same_wire own w x low ∙ sym (source_alike d n ws own mem same link.ty link.first h.first)) in
        let wide = a.width in
        let b = brought_then one (or_steps c.num link.ty w link.others) (not_steps link.negated w) _ _ a (nots link.negated a.after a.same (omega arith) _ a.value) in
        record { after = b.after; does = b.does; same = b.same; width = b.width ∙ long; others = λ j ne. b.others j ne ∙ other_wire own w j x ne; value = b.value }

    pub brought : (link : Link) → RightLink c link → (own : List Value) → SameWires c.pins ws own → w < length own → Brought ws n own w (link_steps c.num w link) (link_source c.num w link) (link_value site.path d ws link)
    brought link h own same low = by_parts link.ty link.negated link.first link.others (record { first = h.first; others = h.others })
      where
        by_parts : (t : Ty) (negated : Bool) (first : diagram.Source) (others : List diagram.Source) → RightLink c (record { ty = t; negated = negated; first = first; others = others })
            → Brought ws n own w (link_steps c.num w (record { ty = t; negated = negated; first = first; others = others })) (link_source c.num w (record { ty = t; negated = negated; first = first; others = others })) (link_value site.path d ws (record { ty = t; negated = negated; first = first; others = others }))
        by_parts t true first others k = joined (record { ty = t; negated = true; first = first; others = others }) k own same low
        by_parts t false first (o ∷ os) k = joined (record { ty = t; negated = false; first = first; others = o ∷ os }) k own same low
        by_parts t false first [] k = record { after = own; does = refl; same = same; width = refl; others = λ j ne. refl; value = sym (source_alike d n ws own mem same t first k.first) }

    -- it still has the value where outputs and its own wire are as they were
    pub stays : (link : Link) → RightLink c link → (own later : List Value) → read here (cells_of n own) (link_source c.num w link) ≡ link_value site.path d ws link → SameWires c.pins ws later → number_at later w ≡ number_at own w
        → read here (cells_of n later) (link_source c.num w link) ≡ link_value site.path d ws link
    stays link h own later is same e = by_parts link.ty link.negated link.first link.others (record { first = h.first; others = h.others }) is
      where
        by_parts : (t : Ty) (negated : Bool) (first : diagram.Source) (others : List diagram.Source) → RightLink c (record { ty = t; negated = negated; first = first; others = others })
            → read here (cells_of n own) (link_source c.num w (record { ty = t; negated = negated; first = first; others = others })) ≡ link_value site.path d ws (record { ty = t; negated = negated; first = first; others = others })
            → read here (cells_of n later) (link_source c.num w (record { ty = t; negated = negated; first = first; others = others })) ≡ link_value site.path d ws (record { ty = t; negated = negated; first = first; others = others })
        by_parts t true first others k is = e ∙ is
        by_parts t false first (o ∷ os) k is = e ∙ is
        by_parts t false first [] k is = sym (source_alike d n ws later mem same t first k.first)
