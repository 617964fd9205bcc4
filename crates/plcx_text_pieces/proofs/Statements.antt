-- The pieces of statements stand for these.
use Rattle.std.proofs.Common.{◌≡◌, ℕ, ◌+◌, ◌≤◌, List, [], ◌∷◌, ◌++◌, length, map, refl, sym, ap, ap₂, ◌∙◌, subst, arith}
use Rattle.std.specs.Prelude.{slice_range}
use Rattle.std.proofs.lemmas.List.{length-append, append-nil}
use Rattle.plcx_meaning.specs.Tree.{Expression, Argument, Statement, Assign, Call, If, While, Case, Statements, no_statement, statement, Arms, no_arm, arm, statements}
use Rattle.plcx_meaning.specs.Layout.{variables_of}
use Rattle.plcx_meaning.specs.Execute.{Formal, Takes, Binds, NoFormal}
use Rattle.plcx_meaning.specs.Ready.{StatementIsReady, StatementsAreReady, ArmsAreReady}
use Rattle.plcx_text_steps.specs.declared.text.Line.{Line}
use Rattle.plcx_text_steps.specs.declared.text.Line.TheVariants as line
use Rattle.plcx_text_steps.specs.declared.text.Arm.{Arm as Choice}
use Rattle.plcx_text_numbered.specs.Prepared.{Numbering, source_of}
use Rattle.plcx_text_numbered.specs.Statements.{formal_of}
use Rattle.plcx_text_numbered.specs.Numbers.{temporary_names}
use Rattle.plcx_text_numbered.specs.Texts.{Owner, num, Parts, IsValueOf, IsSectionOf, IsStatementOf, AreStatementsOf, AreArmsOf, AreLinesOf}
use Rattle.plcx_text_pieces.specs.Called.{Numbers, numbers_of}
use Rattle.plcx_text_pieces.specs.Pieces.{Part, Piece, Start, joined, after, one_line, boxed, value_piece, taken_piece, all_taken_piece, chosen_piece, statement_piece, statements_piece, arms_piece, choices_of}
use Rattle.plcx_text_pieces.specs.Laws.{PiecesStand, StandsIn, Has}
use Rattle.plcx_text_pieces.proofs.Standing.{room_for, has_first, has_second, has_within, is_section, none_more, next_section}
use Rattle.plcx_text_pieces.proofs.Expressions.{value_stands, assign_stands, call_stands}

-- calls have no sections
taken_none : (c : Numbering) (s : Start) (f : Formal) (a : Argument) → (taken_piece c s f a).sections ≡ []
taken_none c s (Takes t) a = refl
taken_none c s (Binds t) a = refl
taken_none c s NoFormal a = refl

no_sections : (c : Numbering) (s : Start) (i : List ℕ) (args : List Argument) → (all_taken_piece c s i args).sections ≡ []
no_sections c s i [] = refl
no_sections c s i (a ∷ rest) =
    let p = taken_piece c s (formal_of c i a) a in ap₂ (λ (xs ys : List Part). xs ++ ys) (taken_none c s (formal_of c i a) a) (no_sections c (after s p) i rest)

none_taken : (s : Start) (p : Piece) → p.sections ≡ [] → s.sections ≡ s.sections + length (p.sections ++ [])
none_taken s p none = none_more s ∙ ap (λ (xs : List Part). s.sections + length (xs ++ [])) (sym none)

-- the sections of arms have no lines in between
no_lines : (n : Numbers) (arms : Arms) (s : Start) → (arms_piece n arms s).lines ≡ []
no_lines n no_arm s = refl
no_lines n (arm label xs rest) s = no_lines n rest (after s (boxed n.pou (statements_piece n xs s)))

module _ (o : Owner) (c : Parts) where
  abbrev n : Numbers
  n = numbers_of o

  abbrev temporaries : ℕ
  temporaries = length (temporary_names (variables_of o.pou.blocks))

  is_value : (s : Start) (e : Expression) → Has c s (value_piece (num o) s e) → temporaries ≤ s.wires → IsValueOf o c e (value_piece (num o) s e).lines (source_of (num o) s.wires e)
  is_value s e h free = record { wire = s.wires; value = value_stands o c s e h free }

  from_to : (i j k l : ℕ) (ss : Statements) (lines : List Line) → i ≡ k → j ≡ l → AreStatementsOf o c i j ss lines → AreStatementsOf o c k l ss lines
  from_to i j k l ss lines from to h = subst (λ m. AreStatementsOf o c m l ss lines) from (subst (λ m. AreStatementsOf o c i m ss lines) to h)

  arms_from : (i j k l : ℕ) (arms : Arms) (choices : List Choice) → i ≡ k → j ≡ l → AreArmsOf o c i j arms choices → AreArmsOf o c k l arms choices
  arms_from i j k l arms choices from to h = subst (λ m. AreArmsOf o c m l arms choices) from (subst (λ m. AreArmsOf o c i m arms choices) to h)

  later : (s : Start) (p : Piece) → temporaries ≤ s.wires → temporaries ≤ (after s p).wires
  later s p free = omega arith

  mutual
    statement_stands : (x : Statement) (s : Start) → StatementIsReady (num o).scope x → Has c s (statement_piece n x s) → temporaries ≤ s.wires
        → IsStatementOf o c s.sections (after s (statement_piece n x s)).sections x (statement_piece n x s).lines
    statement_stands (Assign x e) s ready h free = (none_more s, assign_stands o c s x e h free)
    statement_stands (Call i args) s ready h free = (none_taken s (all_taken_piece (num o) s i args) (no_sections (num o) s i args), call_stands o c s i args ready.type ready.instance h free)
    statement_stands (If e ss) s ready h free =
        let test = value_piece (num o) s e in
        let inner = statements_piece n ss (after s test) in
        let k = (after (after s test) inner).sections in
        let rest = joined (boxed n.pou inner) (one_line (line.If (source_of (num o) s.wires e) k)) in
        let behind = has_first c (after s test) (boxed n.pou inner) _ (has_second c s test rest h) in
        let longer = length-append (inner.sections ++ (n.pou, inner.lines) ∷ []) [] in
        let one = length-append inner.sections ((n.pou, inner.lines) ∷ []) in (
          test.lines,
          source_of (num o) s.wires e,
          k,
          inner.lines,
          refl,
          omega arith,
          is_value s e (has_first c s test rest h) free,
          is_section o c (after s test) inner behind,
          from_to _ _ _ _ ss inner.lines (sym (none_more s)) refl (statements_stand ss (after s test) ready.1 (has_within c (after s test) n.pou inner behind) (later s test free)),
        )
    statement_stands (While e ss) s ready h free =
        let test = value_piece (num o) s e in
        let from = after s (boxed n.pou test) in
        let inner = statements_piece n ss from in
        let k = (after from inner).sections in
        let rest = joined (boxed n.pou inner) (one_line (line.While (after s test).sections (source_of (num o) s.wires e) k)) in
        let first = has_first c s (boxed n.pou test) rest h in
        let behind = has_first c from (boxed n.pou inner) _ (has_second c s (boxed n.pou test) rest h) in
        let longer = length-append (inner.sections ++ (n.pou, inner.lines) ∷ []) [] in
        let one = length-append inner.sections ((n.pou, inner.lines) ∷ []) in
        let whole = length-append ((n.pou, test.lines) ∷ []) ((inner.sections ++ (n.pou, inner.lines) ∷ []) ++ []) in (
          test.lines,
          source_of (num o) s.wires e,
          k,
          inner.lines,
          ap (λ m. line.While m (source_of (num o) s.wires e) k ∷ []) (sym (none_more s)),
          omega arith,
          is_value s e (has_within c s n.pou test first) free,
          subst (λ m. IsSectionOf o c m test.lines) (sym (none_more s)) (is_section o c s test first),
          is_section o c from inner behind,
          statements_stand ss from ready.1 (has_within c from n.pou inner behind) (later s (boxed n.pou test) free),
        )
    statement_stands (Case e arms) s ready h free =
        let value = value_piece (num o) s e in
        let inner = arms_piece n arms (after s value) in
        let choices = choices_of n arms (after s value) in
        let last = chosen_piece (after (after s value) inner) (source_of (num o) s.wires e) choices in
        let behind = has_second c s value (joined inner last) h in
        let chosen = has_second c (after s value) inner last behind in
        let first = (after (after s value) inner).arms in (
          value.lines,
          source_of (num o) s.wires e,
          first,
          length choices,
          cased value.lines inner.lines _ (no_lines n arms (after s value)),
          room_for c.arms first (length choices) choices chosen.arms refl,
          is_value s e (has_first c s value (joined inner last) h) free,
          (let P : List Choice → Type 0 = λ cs. AreArmsOf o c s.sections (after s (statement_piece n (Case e arms) s)).sections arms cs in subst P (sym chosen.arms.has)
              (arms_from _ _ _ _ arms choices (sym (none_more s)) (arms_end s value inner) (arms_stand arms (after s value) ready.3 (has_first c (after s value) inner last behind) (later s value free)))),
        )
      where
        cased : (xs ys : List Line) (l : Line) → ys ≡ [] → xs ++ (ys ++ l ∷ []) ≡ xs ++ l ∷ []
        cased xs ys l none = ap (λ (zs : List Line). xs ++ (zs ++ l ∷ [])) none

        arms_end : (t : Start) (p q : Piece) → t.sections + length p.sections + length q.sections ≡ t.sections + length (p.sections ++ (q.sections ++ []))
        arms_end t p q = let a = length-append p.sections (q.sections ++ []) in let b = length-append q.sections [] in omega arith

    statements_stand : (ss : Statements) (s : Start) → StatementsAreReady (num o).scope ss → Has c s (statements_piece n ss s) → temporaries ≤ s.wires
        → AreStatementsOf o c s.sections (after s (statements_piece n ss s)).sections ss (statements_piece n ss s).lines
    statements_stand no_statement s ready h free = (none_more s, refl)
    statements_stand (statement x xs) s ready h free =
        let p = statement_piece n x s in
        let q = statements_piece n xs (after s p) in
        let longer = length-append p.sections q.sections in (
          (after s p).sections,
          p.lines,
          q.lines,
          refl,
          statement_stands x s ready.0 (has_first c s p q h) free,
          from_to _ _ _ _ xs q.lines refl (omega arith) (statements_stand xs (after s p) ready.1 (has_second c s p q h) (later s p free)),
        )

    arms_stand : (arms : Arms) (s : Start) → ArmsAreReady (num o).scope arms → Has c s (arms_piece n arms s) → temporaries ≤ s.wires
        → AreArmsOf o c s.sections (after s (arms_piece n arms s)).sections arms (choices_of n arms s)
    arms_stand no_arm s ready h free = (none_more s, refl)
    arms_stand (arm label xs rest) s ready h free =
        let inner = statements_piece n xs s in
        let p = boxed n.pou inner in
        let q = arms_piece n rest (after s p) in
        let first = has_first c s p q h in
        let longer = length-append p.sections q.sections in (
          (after s inner).sections,
          inner.lines,
          choices_of n rest (after s p),
          refl,
          is_section o c s inner first,
          statements_stand xs s ready.0 (has_within c s n.pou inner first) free,
          arms_from _ _ _ _ rest (choices_of n rest (after s p)) (next_section s n.pou inner) (omega arith) (arms_stand rest (after s p) ready.1 (has_second c s p q h) (later s p free)),
        )

  lines_stand : (body : List Statement) (s : Start) → StatementsAreReady (num o).scope (statements body) → Has c s (statements_piece n (statements body) s) → temporaries ≤ s.wires
      → AreLinesOf o c s.sections (after s (statements_piece n (statements body) s)).sections body (statements_piece n (statements body) s).lines
  lines_stand [] s ready h free = (none_more s, refl)
  lines_stand (x ∷ xs) s ready h free =
      let p = statement_piece n x s in
      let q = statements_piece n (statements xs) (after s p) in
      let longer = length-append p.sections q.sections in (
        (after s p).sections,
        p.lines,
        q.lines,
        refl,
        statement_stands x s ready.0 (has_first c s p q h) free,
        subst (λ m. AreLinesOf o c (after s p).sections m xs q.lines) (omega arith) (lines_stand xs (after s p) ready.1 (has_second c s p q h) (later s p free)),
      )

pub pieces_stand : PiecesStand
pieces_stand o c s body ready h free = lines_stand o c body s ready h free
