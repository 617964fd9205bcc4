-- What is prepared of all POUs of a ready unit is prepared of the unit.
use Rattle.std.proofs.Common.{◌≡◌, ℕ, zero, suc, ◌+◌, ◌<◌, ◌≤◌, inl, List, [], ◌∷◌, ◌++◌, length, map, Some, refl, sym, ap, ◌∙◌, subst, arith}
use Rattle.std.specs.Prelude.{slice_get, option_map, filter}
use Rattle.std.specs.List.{AllZip, Contains}
use Rattle.std.proofs.lemmas.List.{length-map}
use Rattle.std.proofs.lemmas.Option.{same_Some, slice_get-map, slice_get_within}
use Rattle.plcx_types.specs.Name.{in_lower_case}
use Rattle.plcx_types.specs.Lists.{Each}
use Rattle.plcx_meaning.specs.Tree.{Statement, PouText, Statements, statements}
use Rattle.plcx_meaning.specs.Layout.{Variable, variables_of, Scope}
use Rattle.plcx_meaning.specs.Execute.{scope_of}
use Rattle.plcx_meaning.specs.Ready.{StatementIsReady, StatementsAreReady, user_block, PouIsReady, IsReady}
use Rattle.plcx_meaning.proofs.Lists.{each_at}
use Rattle.plcx_steps.specs.declared.program.Body.{Body}
use Rattle.plcx_steps.specs.declared.program.Program.{Program}
use Rattle.plcx_steps.specs.Sound.{levels}
use Rattle.plcx_numbered.proofs.Numbers.{there_at}
use Rattle.plcx_bodies.specs.Framed.{IsFramed, StandsBehind, AreFramed}
use Rattle.plcx_runnable.proofs.Lists.{each_get}
use Rattle.plcx_text_steps.specs.declared.text.Section.{Section}
use Rattle.plcx_text_steps.specs.declared.text.Entry.{Entry}
use Rattle.plcx_text_steps.specs.declared.text.Text.{Text}
use Rattle.plcx_text_numbered.specs.Numbers.{is_temporary, temporary_names, temporary_values, first_value, place_named}
use Rattle.plcx_text_numbered.specs.Texts.{Parts, prepared, IsSectionOf, AreLinesOf, IsFrameOf, IsPouOf, IsOwned, IsTextOf}
use Rattle.plcx_text_pieces.specs.Called.{numbers_of}
use Rattle.plcx_text_pieces.specs.Pieces.{Part, Piece, Start, after, boxed, statements_piece}
use Rattle.plcx_text_pieces.specs.Laws.{StandsIn, part_of, Has}
use Rattle.plcx_text_pieces.proofs.Standing.{has_within, is_section}
use Rattle.plcx_text_pieces.proofs.Statements as pieces
use Rattle.plcx_text_runnable.proofs.Instances.{IsUserBlock, user_is, place_block, level_low, level_below}
use Rattle.plcx_text_order.specs.Made.{Made, owner, body_piece, level_of, IsMade, IsTaken, Reaches}
use Rattle.plcx_text_order.specs.Laws.{IsBare, AreBare, HasMade}
use Rattle.plcx_text_order.proofs.Growing.{stands_last}

-- what stands at a place of two lists
zip_at : {A B : Type 0} (R : A → B → Type 0) (xs : List A) (ys : List B) → AllZip R xs ys → (i : ℕ) (x : A) → slice_get xs i ≡ Some x → (y : B) × (slice_get ys i ≡ Some y) × R x y
zip_at R [] ys all i x h = absurd (cc)
zip_at R (z ∷ xs) [] all i x h = absurd all
zip_at R (z ∷ xs) (y ∷ ys) all zero x h = (y, refl, subst (λ w. R w y) (same_Some z x h) all.0)
zip_at R (z ∷ xs) (y ∷ ys) all (suc i) x h = zip_at R xs ys all.1 i x h

zip_long : {A B : Type 0} (R : A → B → Type 0) (xs : List A) (ys : List B) → AllZip R xs ys → length ys ≡ length xs
zip_long R [] [] all = refl
zip_long R [] (y ∷ ys) all = absurd all
zip_long R (x ∷ xs) [] all = absurd all
zip_long R (x ∷ xs) (y ∷ ys) all = ap suc (zip_long R xs ys all.1)

there_is : {A : Type 0} (xs : List A) (i : ℕ) → i < length xs → (x : A) × (slice_get xs i ≡ Some x)
there_is [] i low = absurd (omega arith)
there_is (x ∷ xs) zero low = (x, refl)
there_is (x ∷ xs) (suc i) low = there_is xs i (omega arith)

-- statements that are ready one by one
all_ready : (c : Scope) (body : List Statement) → Each (StatementIsReady c) body → StatementsAreReady c (statements body)
all_ready c [] h = tt
all_ready c (s ∷ body) h = (h.0, all_ready c body h.1)

module _ (unit : List PouText) (ready : IsReady unit) (m : Made) (reached : Reaches unit levels 0 m) (program : Program) (text : Text) (has : HasMade program text m) (bare : List Body) (bodies : AreBare unit m.entries bare) (framed : AreFramed bare program.bodies.items) where
  own_ready : (k : ℕ) (p : PouText) → slice_get unit k ≡ Some p → PouIsReady unit p
  own_ready k p there = each_at (PouIsReady unit) unit p ready.pous (there_at unit k p there)

  -- no POU is of a higher level
  made : (k : ℕ) (p : PouText) → slice_get unit k ≡ Some p → IsMade unit m k p
  made k p there = let low = level_low unit 16 p (own_ready k p there).nests 17 in reached.each k p there (inl (omega arith))

  -- the body of a POU, in its place
  record IsPlaced (p : PouText) (entry : Entry) (k : ℕ) : Type 0 where
    before : Body
    after' : Body
    is : slice_get program.bodies.items k ≡ Some after'
    same : IsFramed before after'
    its : IsBare unit p entry before

  placed : (k : ℕ) (p : PouText) → slice_get unit k ≡ Some p → (entry : Entry) → slice_get m.entries k ≡ Some entry → IsPlaced p entry k
  placed k p there entry begins =
      let low = slice_get_within unit k p there in
      let count = bodies.count in
      let b = there_is bare k (omega arith) in
      let a = zip_at IsFramed bare program.bodies.items framed.same k b.0 b.1 in
      record { before = b.0; after' = a.0; is = a.1; same = a.2; its = bodies.each k p entry b.0 there begins b.1 }

  -- what a body keeps in its place
  level_is : (p : PouText) (entry : Entry) (k : ℕ) (b : IsPlaced p entry k) → b.after'.level ≡ level_of unit p
  level_is p entry k b = ap (λ (x : Body). x.level) b.same ∙ b.its.level

  module _ (k : ℕ) (p : PouText) (there : slice_get unit k ≡ Some p) (h : IsMade unit m k p) where
    abbrev piece : Piece
    piece = body_piece (owner unit k p) h.start

    abbrev parts : Parts
    parts = prepared program text h.entry.wires.items

    body : IsPlaced p h.entry k
    body = placed k p there h.entry h.begins

    has_piece : Has parts h.start (boxed k piece)
    has_piece = record {
      arguments = subst (λ xs. StandsIn xs h.start.arguments piece.arguments) (sym has.arguments) h.arguments;
      bindings = subst (λ xs. StandsIn xs h.start.bindings piece.bindings) (sym has.bindings) h.bindings;
      sections = subst (λ xs. StandsIn xs h.start.sections (boxed k piece).sections) (sym has.sections) h.sections;
      arms = subst (λ xs. StandsIn xs h.start.arms piece.arms) (sym has.arms) h.arms;
      wires = subst (λ xs. StandsIn xs h.start.wires piece.wires) (sym h.wires)
          (subst (λ n. StandsIn (temporary_values (variables_of p.blocks) ++ piece.wires) n piece.wires) (sym h.temporaries) (stands_last (temporary_values (variables_of p.blocks)) piece.wires));
    }

    free : length (temporary_names (variables_of p.blocks)) ≤ h.start.wires
    free =
        let names = length-map (filter is_temporary (variables_of p.blocks)) (λ (v : Variable). in_lower_case v.name) in
        let values = length-map (filter is_temporary (variables_of p.blocks)) first_value in
        let e = h.temporaries in
        omega arith

    frame : IsFrameOf unit program text p body.after' h.start.sections
    frame = record {
      level = ap (λ (x : Body). x.level) body.same ∙ body.its.level;
      leaves = ap (λ (x : Body). x.leaves) body.same ∙ body.its.leaves;
      memories = ap (λ (x : Body). x.memories) body.same ∙ body.its.memories;
      in_outs = ap (λ (x : Body). x.in_outs) body.same ∙ body.its.in_outs;
      behind = behind;
    }
      where
        behind : (v : Variable) (q : PouText) (callee : Body) (entry : Entry) → Contains (variables_of p.blocks) v → user_block unit v ≡ Some q → slice_get program.bodies.items (place_named v.ty unit) ≡ Some callee
            → slice_get text.entries.items (place_named v.ty unit) ≡ Some entry
            → (callee.first_wire + callee.width ≤ body.after'.first_wire) × (callee.first_in_out + callee.in_outs ≤ body.after'.first_in_out) × (entry.section < h.start.sections)
        behind v q callee entry among user is begins =
            let u = user_is unit v q user in
            let at = place_block unit ready.distinct v.ty q u.block in
            let inner = made (place_named v.ty unit) q at in
            let b = placed (place_named v.ty unit) q at inner.entry inner.begins in
            let same : b.after' ≡ callee = same_Some b.after' callee (sym b.is ∙ is) in
            let lower = level_below unit p (own_ready k p there) v among q u in
            let its_level = ap (λ (x : Body). x.level) (sym same) ∙ level_is q inner.entry (place_named v.ty unit) b in
            let own_level = level_is p h.entry k body in
            let stands = each_get (StandsBehind callee) program.bodies.items (each_get (λ (x : Body). Each (StandsBehind x) program.bodies.items) program.bodies.items framed.behind (place_named v.ty unit) callee is) k body.after' body.is (omega arith) in
            (stands.0, stands.1, h.behind (place_named v.ty unit) q entry at lower (ap (λ es. slice_get es (place_named v.ty unit)) (sym has.entries) ∙ begins))

    abbrev pou_is : IsPouOf unit program text k p
    pou_is = record {
      body = body.after';
      is_body = body.is;
      entry = h.entry;
      is_entry = ap (λ es. slice_get es k) has.entries ∙ h.begins;
      floor = h.start.sections;
      frame = frame;
      width = ap (λ (x : Body). x.width) body.same ∙ body.its.width;
      spare = piece.wires;
      wires = h.wires;
      lines = piece.lines;
      section = subst (λ n. IsSectionOf (owner unit k p) parts n piece.lines) (sym h.section) (is_section (owner unit k p) parts h.start piece has_piece);
      are_lines = subst (λ n. AreLinesOf (owner unit k p) parts h.start.sections n p.body piece.lines) (sym h.section)
          (pieces.pieces_stand (owner unit k p) parts h.start p.body (all_ready (scope_of unit p) p.body (own_ready k p there).body) (has_within parts h.start k piece has_piece) free);
    }

  pub text_is : IsTextOf unit program text
  text_is = record { pous = λ k p there. pou_is k p there (made k p there); bodies = zip_long IsFramed bare program.bodies.items framed.same ∙ bodies.count; owned = owned }
    where
      owned : (j : ℕ) (s : Section) → slice_get text.sections.items j ≡ Some s → IsOwned unit program text j s.pou
      owned j s h =
          let t = reached.owned j (part_of s) (ap (λ xs. slice_get xs j) (sym has.sections) ∙ slice_get-map part_of text.sections.items j ∙ ap (option_map part_of) h) in
          record { p = t.p; is = t.is; pou = pou_is s.pou t.p t.is t.made; from = t.from; to = t.to }
