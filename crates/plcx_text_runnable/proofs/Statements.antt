-- The statements of a POU of a ready unit can be run, and so can the sections of those within them.
use Rattle.std.proofs.Common.{◌≡◌, ℕ, zero, suc, ◌+◌, ◌<◌, ◌≤◌, ◌⊎◌, inl, inr, true, List, [], ◌∷◌, ◌++◌, length, map, Option, Some, None, refl, sym, ap, ◌∙◌, subst, arith}
use Rattle.std.specs.Prelude.{slice_get, slice_range}
use Rattle.std.proofs.lemmas.Option.{same_Some}
use Rattle.plcx_types.specs.declared.ty.Ty.TheVariants as ty
use Rattle.plcx_types.specs.Lists.{Each}
use Rattle.plcx_meaning.specs.Tree.{Expression, Statement, Assign, Call, If, While, Case, Statements, no_statement, statement, Arms, no_arm, arm}
use Rattle.plcx_meaning.specs.Ready.{ExpressionIsReady, StatementIsReady, StatementsAreReady, ArmsAreReady}
use Rattle.plcx_meaning.proofs.Lists.{each_append}
use Rattle.plcx_steps.specs.declared.program.Source.{Source}
use Rattle.plcx_text_steps.specs.declared.text.Line.{Line}
use Rattle.plcx_text_steps.specs.declared.text.Line.TheVariants as line
use Rattle.plcx_text_steps.specs.declared.text.Arm.{Arm as Choice}
use Rattle.plcx_text_steps.specs.declared.text.Section.{Section}
use Rattle.plcx_text_steps.specs.Sound.{HasSection}
use Rattle.plcx_text_numbered.specs.Texts.{IsSectionOf, IsStatementOf, AreStatementsOf, AreArmsOf, AreLinesOf}
use Rattle.plcx_text_runnable.proofs.Grounds.{Ground, scope, owner, parts}
use Rattle.plcx_text_runnable.proofs.Rights.{statement_rises, statements_rise, arms_rise}
use Rattle.plcx_text_runnable.proofs.Lines.{Good, value_runs, assign_runs, call_runs}

-- the last number, or one before
last_or_before : (j k : ℕ) → j < k + 1 → (j < k) ⊎ (j ≡ k)
last_or_before zero zero h = inr refl
last_or_before zero (suc k) h = inl (omega arith)
last_or_before (suc j) zero h = absurd (omega arith)
last_or_before (suc j) (suc k) h = elim (last_or_before j k (omega arith)) [ inl l ↦ inl (omega arith) | inr e ↦ inr (ap suc e) ]

-- the first number, or one behind
first_or_behind : (j k : ℕ) → k ≤ j → (j ≡ k) ⊎ (k + 1 ≤ j)
first_or_behind zero zero h = inl refl
first_or_behind zero (suc k) h = absurd (omega arith)
first_or_behind (suc j) zero h = inr (omega arith)
first_or_behind (suc j) (suc k) h = elim (first_or_behind j k (omega arith)) [ inl e ↦ inl (ap suc e) | inr l ↦ inr (omega arith) ]

before_or_from : (j k : ℕ) → (j < k) ⊎ (k ≤ j)
before_or_from zero zero = inr (omega arith)
before_or_from zero (suc k) = inl (omega arith)
before_or_from (suc j) zero = inr (omega arith)
before_or_from (suc j) (suc k) = elim (before_or_from j k) [ inl l ↦ inl (omega arith) | inr l ↦ inr (omega arith) ]

module _ (g : Ground) where
  -- the sections from one number to another can be run
  abbrev pub Sections : (from to : ℕ) → Type 0
  Sections from to = (j : ℕ) (s : Section) → from ≤ j → j < to → slice_get g.text.sections.items j ≡ Some s → Each (Good g j) s.lines.items

  none_run : (from to : ℕ) → from ≡ to → Sections from to
  none_run from to e j s low high there = absurd (omega arith)

  both_run : (from k to : ℕ) → Sections from k → Sections k to → Sections from to
  both_run from k to first others j s low high there = elim (before_or_from j k) [ inl l ↦ first j s low l there | inr l ↦ others j s l high there ]

  -- a section whose lines can be run
  section_runs : (k : ℕ) (inner : List Line) → IsSectionOf (owner g) (parts g) k inner → Each (Good g k) inner → (s : Section) → slice_get g.text.sections.items k ≡ Some s → Each (Good g k) s.lines.items
  section_runs k inner h good s there = subst (λ (x : Section). Each (Good g k) x.lines.items) (same_Some h.section s (sym h.is ∙ there)) (subst (Each (Good g k)) (sym h.are_lines) good)

  one_more : (from k : ℕ) (inner : List Line) → IsSectionOf (owner g) (parts g) k inner → Each (Good g k) inner → Sections from k → Sections from (k + 1)
  one_more from k inner h good within j s low high there =
      elim (last_or_before j k high) [
        | inl l ↦ within j s low l there
        | inr e ↦ subst (λ n. Each (Good g n) s.lines.items) (sym e) (section_runs k inner h good s (ap (slice_get g.text.sections.items) (sym e) ∙ there))
      ]

  one_before : (k to : ℕ) (inner : List Line) → IsSectionOf (owner g) (parts g) k inner → Each (Good g k) inner → Sections (k + 1) to → Sections k to
  one_before k to inner h good behind j s low high there =
      elim (first_or_behind j k low) [
        | inl e ↦ subst (λ n. Each (Good g n) s.lines.items) (sym e) (section_runs k inner h good s (ap (slice_get g.text.sections.items) (sym e) ∙ there))
        | inr l ↦ behind j s l high there
      ]

  has_section : (below k : ℕ) → k < below → (inner : List Line) → IsSectionOf (owner g) (parts g) k inner → HasSection g.text below g.number k
  has_section below k low inner h = record { section = h.section; is = h.is; part = h.part; low = low }

  mutual
    -- the lines of a statement
    statement_runs : (s : Statement) → StatementIsReady (scope g) s → (from to below : ℕ) → g.at.floor ≤ from → to ≤ below → (lines : List Line) → IsStatementOf (owner g) (parts g) from to s lines → Each (Good g below) lines
    statement_runs (Assign x e) r from to below high low lines h = assign_runs g below x e r.0 r.1 r.2 lines h.1
    statement_runs (Call i args) r from to below high low lines h = let e = h.0 in call_runs g below (omega arith) i args r lines h.1
    statement_runs (If e ss) r from to below high low lines (before, source, k, inner, are, last, value, section, within) =
        let v = value_runs g below value.wire e ty.Bool r.0.typed before source value.value in
        subst (Each (Good g below)) (sym are) (each_append (Good g below) before (line.If source k ∷ []) v.0 ((tt, (v.2, has_section below k (omega arith) inner section)), tt))
    statement_runs (While e ss) r from to below high low lines (before, source, k, inner, are, last, value, test, section, within) =
        let v = value_runs g below value.wire e ty.Bool r.0.typed before source value.value in
        let rise = statements_rise g ss (from + 1) k inner within in
        subst (Each (Good g below)) (sym are) ((tt, (has_section below from (omega arith) before test, v.2, has_section below k (omega arith) inner section)), tt)
    statement_runs (Case e arms) r from to below high low lines (before, source, first, count, are, there, value, choices) =
        let v = value_runs g below value.wire e ty.Dint r.0.typed before source value.value in
        subst (Each (Good g below)) (sym are)
        (each_append (Good g below) before (line.Case source first count ∷ []) v.0 ((tt, (v.2, record { there = there; each = arms_have arms from to below low _ choices })), tt))

    -- and the sections of what is within it
    statement_sections : (s : Statement) → StatementIsReady (scope g) s → (from to : ℕ) → g.at.floor ≤ from → (lines : List Line) → IsStatementOf (owner g) (parts g) from to s lines → Sections from to
    statement_sections (Assign x e) r from to high lines h = none_run from to h.0
    statement_sections (Call i args) r from to high lines h = none_run from to h.0
    statement_sections (If e ss) r from to high lines (before, source, k, inner, are, last, value, section, within) =
        subst (Sections from) (sym last) (one_more from k inner section (statements_run ss r.1 from k k high (omega arith) inner within) (statements_sections ss r.1 from k high inner within))
    statement_sections (While e ss) r from to high lines (before, source, k, inner, are, last, value, test, section, within) =
        let v = value_runs g from value.wire e ty.Bool r.0.typed before source value.value in
        subst (Sections from) (sym last)
        (one_before from (k + 1) before test v.0 (one_more (from + 1) k inner section (statements_run ss r.1 (from + 1) k k (omega arith) (omega arith) inner within) (statements_sections ss r.1 (from + 1) k (omega arith) inner within)))
    statement_sections (Case e arms) r from to high lines (before, source, first, count, are, there, value, choices) = arms_sections arms r.3 from to high _ choices

    statements_run : (ss : Statements) → StatementsAreReady (scope g) ss → (from to below : ℕ) → g.at.floor ≤ from → to ≤ below → (lines : List Line) → AreStatementsOf (owner g) (parts g) from to ss lines → Each (Good g below) lines
    statements_run no_statement r from to below high low lines h = subst (Each (Good g below)) (sym h.1) tt
    statements_run (statement s ss) r from to below high low lines (k, xs, ys, are, one, rest) =
        let a = statement_rises g s from k xs one in
        let b = statements_rise g ss k to ys rest in
        subst (Each (Good g below)) (sym are) (each_append (Good g below) xs ys (statement_runs s r.0 from k below high (omega arith) xs one) (statements_run ss r.1 k to below (omega arith) low ys rest))

    statements_sections : (ss : Statements) → StatementsAreReady (scope g) ss → (from to : ℕ) → g.at.floor ≤ from → (lines : List Line) → AreStatementsOf (owner g) (parts g) from to ss lines → Sections from to
    statements_sections no_statement r from to high lines h = none_run from to h.0
    statements_sections (statement s ss) r from to high lines (k, xs, ys, are, one, rest) =
        let a = statement_rises g s from k xs one in
        both_run from k to (statement_sections s r.0 from k high xs one) (statements_sections ss r.1 k to (omega arith) ys rest)

    -- the sections of arms are there
    arms_have : (arms : Arms) (from to below : ℕ) → to ≤ below → (choices : List Choice) → AreArmsOf (owner g) (parts g) from to arms choices → (i : ℕ) (a : Choice) → slice_get choices i ≡ Some a → HasSection g.text below g.number a.section
    arms_have no_arm from to below low choices h i a at = absurd (none i (ap (λ cs. slice_get cs i) (sym h.1) ∙ at))
      where
        none : (i : ℕ) → slice_get [] i ≡ Some a → ⊥
        none i e = cc
    arms_have (arm label ss rest) from to below low choices (k, inner, more, are, section, within, later) i a at =
        let b = arms_rise g rest (k + 1) to more later in
        by_place i (ap (λ cs. slice_get cs i) (sym are) ∙ at) (has_section below k (omega arith) inner section) (arms_have rest (k + 1) to below low more later)
      where
        by_place : (m : ℕ) → slice_get (record { label = label; section = k } ∷ more) m ≡ Some a → HasSection g.text below g.number k → ((n : ℕ) (c : Choice) → slice_get more n ≡ Some c → HasSection g.text below g.number c.section)
            → HasSection g.text below g.number a.section
        by_place zero e here others = subst (λ (c : Choice). HasSection g.text below g.number c.section) (same_Some (record { label = label; section = k }) a e) here
        by_place (suc m) e here others = others m a e

    arms_sections : (arms : Arms) → ArmsAreReady (scope g) arms → (from to : ℕ) → g.at.floor ≤ from → (choices : List Choice) → AreArmsOf (owner g) (parts g) from to arms choices → Sections from to
    arms_sections no_arm r from to high choices h = none_run from to h.0
    arms_sections (arm label ss rest) r from to high choices (k, inner, more, are, section, within, later) =
        let a = statements_rise g ss from k inner within in
        both_run from (k + 1) to (one_more from k inner section (statements_run ss r.0 from k k high (omega arith) inner within) (statements_sections ss r.0 from k high inner within))
        (arms_sections rest r.1 (k + 1) to (omega arith) more later)

  -- the body
  body_runs : (ss : List Statement) → Each (StatementIsReady (scope g)) ss → (from to below : ℕ) → g.at.floor ≤ from → to ≤ below → (lines : List Line) → AreLinesOf (owner g) (parts g) from to ss lines → (from ≤ to) × Each (Good g below) lines × Sections from to
  body_runs [] r from to below high low lines h = let e = h.0 in (omega arith, subst (Each (Good g below)) (sym h.1) tt, none_run from to e)
  body_runs (s ∷ ss) r from to below high low lines (k, xs, ys, are, one, rest) =
      let a = statement_rises g s from k xs one in
      let more = body_runs ss r.1 k to below (omega arith) low ys rest in
      let b = more.0 in (
        omega arith,
        subst (Each (Good g below)) (sym are) (each_append (Good g below) xs ys (statement_runs s r.0 from k below high (omega arith) xs one) more.1),
        both_run from k to (statement_sections s r.0 from k high xs one) more.2,
      )

  -- all sections of the POU
  pub pou_runs : (j : ℕ) (s : Section) → g.at.floor ≤ j → j ≤ g.at.entry.section → slice_get g.text.sections.items j ≡ Some s → Each (Good g j) s.lines.items
  pou_runs j s low high there =
      let k = g.at.entry.section in
      let body = body_runs g.pou.body g.own.body g.at.floor k k (omega arith) (omega arith) g.at.lines g.at.are_lines in
      one_more g.at.floor k g.at.lines g.at.section body.1 body.2 j s low (omega arith) there
