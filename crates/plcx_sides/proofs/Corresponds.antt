-- The programs of a project and of its text correspond.
use Rattle.std.proofs.Common.{◌≡◌, ◌∷◌, ◌++◌, ◌∙◌, ℕ, Bool, true, false, List, [], map, length, refl, sym, ap, subst}
use Rattle.std.specs.Prelude.{Option, Some, None, Result, Ok, Err, filter, ◌&&◌, if◌then◌else◌}
use Rattle.std.specs.Str.{bytes_eq}
use Rattle.std.proofs.lemmas.List.{length-map}
use Rattle.std.proofs.lemmas.Option.{same_Some}
use Rattle.plcx_types.specs.Lists.{Each}
use Rattle.plcx_types.specs.Name.{in_lower_case}
use Rattle.plcx_meaning.specs.Base.{is_declared}
use Rattle.plcx_meaning.specs.Diagram.{Pou, Project, is_program}
use Rattle.plcx_meaning.specs.Diagram as diagram
use Rattle.plcx_meaning.specs.Evaluate.{diagram_machine, scope_of as drawn_scope}
use Rattle.plcx_meaning.specs.Execute.{TextState, text_machine}
use Rattle.plcx_meaning.specs.Execute as text
use Rattle.plcx_meaning.specs.Laws.{TracesAgree}
use Rattle.plcx_meaning.specs.Layout.{Leaf, Scope, declared_leaves, layout, IsOutside}
use Rattle.plcx_meaning.specs.Run.{Side}
use Rattle.plcx_meaning.specs.Same.{IsSame, Behaves}
use Rattle.plcx_meaning.specs.Templates.{pou_text, unit_of}
use Rattle.plcx_meaning.specs.Traces.{Trace, trace_from, trace_with}
use Rattle.plcx_meaning.specs.Tree.{PouText}
use Rattle.plcx_meaning.specs.Tree as tree
use Rattle.plcx_meaning.proofs.Lists.{each_at}
use Rattle.plcx_meaning.proofs.Names.{bytes_self}
use Rattle.plcx_scan.specs.Texts.{all_shown, all_kept_text, header, lines_text, spelled_path, trace_bytes}
use Rattle.plcx_words.specs.Command.{Run}
use Rattle.plcx_traced.specs.Programs.{Programs, IsChosen, IsMissing}
use Rattle.plcx_traced.specs.Runs.{Chosen, Begun, ComesTo}
use Rattle.plcx_traced.specs.declared.error.RunError.{RunError}
use Rattle.plcx_traced.specs.declared.error.RunError.TheVariants.{NoProgram, RetainedRead, Line, EventsRead, Row, NoMemory}
use Rattle.plcx_alike.proofs.Behind.{begins_same}
use Rattle.plcx_simulate.specs.Programs as diagrams
use Rattle.plcx_execute.specs.Programs as texts
use Rattle.plcx_sides.proofs.SameEvents.{SetsDeclared}
use Rattle.plcx_sides.proofs.SameRuns.{AreAlike, Correspond}

-- ---- programs

named_text : (project : Project) (name : List ℕ) (p : Pou) → diagram.program_named name project ≡ Some p → text.program_named name (map pou_text project) ≡ Some (pou_text p)
named_text [] name p h = absurd (cc)
named_text (q ∷ project) name p h = by (is_program q.kind && bytes_eq (in_lower_case q.name) (in_lower_case name)) h (λ k. named_text project name p k)
  where
    by : (b : Bool) → (if b then Some q else diagram.program_named name project) ≡ Some p → (diagram.program_named name project ≡ Some p → text.program_named name (map pou_text project) ≡ Some (pou_text p))
        → (if b then Some (pou_text q) else text.program_named name (map pou_text project)) ≡ Some (pou_text p)
    by true k rest = ap (λ (x : Pou). Some (pou_text x)) (same_Some q p k)
    by false k rest = rest k

none_text : (project : Project) (name : List ℕ) → diagram.program_named name project ≡ None → text.program_named name (map pou_text project) ≡ None
none_text [] name h = refl
none_text (q ∷ project) name h = by (is_program q.kind && bytes_eq (in_lower_case q.name) (in_lower_case name)) h (λ k. none_text project name k)
  where
    by : (b : Bool) → (if b then Some q else diagram.program_named name project) ≡ None → (diagram.program_named name project ≡ None → text.program_named name (map pou_text project) ≡ None)
        → (if b then Some (pou_text q) else text.program_named name (map pou_text project)) ≡ None
    by true k rest = absurd (cc)
    by false k rest = rest k

abbrev drawn : Project → List Pou
drawn project = filter (λ (p : Pou). is_program p.kind) project

abbrev written : List PouText → List PouText
written unit = filter (λ (p : PouText). tree.is_program p.kind) unit

all_text : (project : Project) → written (map pou_text project) ≡ map pou_text (drawn project)
all_text [] = refl
all_text (q ∷ project) = by (is_program q.kind) (all_text project)
  where
    by : (b : Bool) → written (map pou_text project) ≡ map pou_text (drawn project)
        → (if b then pou_text q ∷ written (map pou_text project) else written (map pou_text project)) ≡ map pou_text (if b then q ∷ drawn project else drawn project)
    by true rest = ap (λ (ps : List PouText). pou_text q ∷ ps) rest
    by false rest = rest

-- the only program has its own name
only_named : (project : Project) (p : Pou) → drawn project ≡ p ∷ [] → diagram.program_named p.name project ≡ Some p
only_named [] p h = absurd (cc)
only_named (q ∷ project) p h = by (is_program q.kind) h (λ k. only_named project p k)
  where
    by : (b : Bool) → (if b then q ∷ drawn project else drawn project) ≡ p ∷ [] → (drawn project ≡ p ∷ [] → diagram.program_named p.name project ≡ Some p)
        → (if b && bytes_eq (in_lower_case q.name) (in_lower_case p.name) then Some q else diagram.program_named p.name project) ≡ Some p
    by true k rest =
        let same : q ≡ p = cc in
        ap (λ b. if b then Some q else diagram.program_named p.name project) (ap (λ (x : Pou). bytes_eq (in_lower_case x.name) (in_lower_case p.name)) same ∙ bytes_self (in_lower_case p.name)) ∙ ap Some same
    by false k rest = rest k

counts : (project : Project) → length (drawn project) ≡ length (written (map pou_text project))
counts project = sym (ap length (all_text project) ∙ length-map (drawn project) pou_text)

-- ---- traces

shown_declared : (ls : List Leaf) → Each IsOutside ls → all_shown ls ≡ all_shown (declared_leaves ls)
shown_declared [] h = refl
shown_declared (l ∷ ls) h = by l.shown (is_declared l.path) refl refl (shown_declared ls h.1)
  where
    by : (s d : Bool) → l.shown ≡ s → is_declared l.path ≡ d → all_shown ls ≡ all_shown (declared_leaves ls)
        → (if s then l ∷ all_shown ls else all_shown ls) ≡ all_shown (if d then l ∷ declared_leaves ls else declared_leaves ls)
    by true true is e rest = ap (λ (xs : List Leaf). l ∷ xs) rest ∙ sym (ap (λ b. if b then l ∷ all_shown (declared_leaves ls) else all_shown (declared_leaves ls)) is)
    by false true is e rest = rest ∙ sym (ap (λ b. if b then l ∷ all_shown (declared_leaves ls) else all_shown (declared_leaves ls)) is)
    by true false is e rest = let no : true ≡ false = sym (h.0.1 is) ∙ e in absurd (cc)
    by false false is e rest = rest

shown_same : (ls ms : List Leaf) → Each IsOutside ls → Each IsOutside ms → declared_leaves ls ≡ declared_leaves ms → all_shown ls ≡ all_shown ms
shown_same ls ms h k same = shown_declared ls h ∙ ap all_shown same ∙ sym (shown_declared ms k)

-- a text of a trace by its shown and its declared leaves
abbrev bytes_by : List Leaf → List Leaf → Trace → List ℕ
bytes_by shown declared t = header (map spelled_path shown) ++ (lines_text shown 1 t.lines ++ all_kept_text (filter (λ (leaf : Leaf). leaf.retained) declared) t.retained)

bytes_same : (ls ms : List Leaf) → all_shown ls ≡ all_shown ms → declared_leaves ls ≡ declared_leaves ms → (t u : Trace) → t ≡ u → trace_bytes ls t ≡ trace_bytes ms u
bytes_same ls ms shown declared t u e =
    ap (λ (s : List Leaf). bytes_by s (declared_leaves ls) t) shown ∙ ap (λ (d : List Leaf). bytes_by (all_shown ms) d t) declared ∙ ap (λ (x : Trace). bytes_by (all_shown ms) (declared_leaves ms) x) e

sets_declared : (ls : List Leaf) → Each IsOutside ls → SetsDeclared ls
sets_declared ls h leaf there settable = (each_at IsOutside ls leaf h there).0 settable

module _ (outside : (c : Scope) → Each IsOutside (layout c)) (project : Project) (behaves : Behaves project (unit_of project))
    (traces : (name : List ℕ) (p : Pou) → diagram.program_named name project ≡ Some p → TracesAgree project p) where
  -- a program and that of its text are alike
  alike : (name : List ℕ) (p : Pou) → diagram.program_named name project ≡ Some p → AreAlike (diagram_machine project p) (text_machine (unit_of project) (pou_text p))
  alike name p named =
      let m = diagram_machine project p in
      let k = text_machine (unit_of project) (pou_text p) in
      let found = behaves name p named in
      let same : found.0 ≡ pou_text p = same_Some found.0 (pou_text p) (sym found.1 ∙ named_text project name p named) in
      let is : IsSame m k = subst (λ (q : PouText). IsSame m (text_machine (unit_of project) q)) same found.2 in
      let drawn_outside = outside (drawn_scope project p) in
      let written_outside = outside (text.scope_of (unit_of project) (pou_text p)) in
      record {
        layouts = is.layouts;
        sets = sets_declared m.layout drawn_outside;
        sets_too = sets_declared k.layout written_outside;
        texts = λ kept other retained same_kept es follow turns.
            bytes_same m.layout k.layout (shown_same m.layout k.layout drawn_outside written_outside is.layouts) is.layouts (trace_with m kept turns es) (trace_with k other turns es)
            (traces name p named kept retained es follow turns
            ∙ ap (λ (s : Side TextState). trace_from k turns es s) (begins_same (unit_of project) (pou_text p) kept other same_kept));
      }

  chosen_text : (program : Option (List ℕ)) (p : Pou) (q : PouText) → IsChosen (diagrams.programs_of project) program p → IsChosen (texts.programs_of (unit_of project)) program q
      → AreAlike (diagram_machine project p) (text_machine (unit_of project) q)
  chosen_text (Some name) p q h k =
      let same : pou_text p ≡ q = same_Some (pou_text p) q (sym (named_text project name p h) ∙ k) in
      subst (λ (x : PouText). AreAlike (diagram_machine project p) (text_machine (unit_of project) x)) same (alike name p h)
  chosen_text None p q h k =
      let one : pou_text p ∷ [] ≡ q ∷ [] = sym (ap (map pou_text) h) ∙ sym (all_text project) ∙ k in
      let same : pou_text p ≡ q = cc in
      subst (λ (x : PouText). AreAlike (diagram_machine project p) (text_machine (unit_of project) x)) same (alike p.name p (only_named project p h))

  not_missing : (program : Option (List ℕ)) (p : Pou) → IsChosen (diagrams.programs_of project) program p → IsMissing (texts.programs_of (unit_of project)) program → ⊥
  not_missing (Some name) p h m = let there = named_text project name p h in cc
  not_missing None p h m = m (sym (counts project) ∙ ap length h)

  not_missing_too : (program : Option (List ℕ)) (q : PouText) → IsChosen (texts.programs_of (unit_of project)) program q → IsMissing (diagrams.programs_of project) program → ⊥
  not_missing_too (Some name) q h m = let gone = none_text project name m in cc
  not_missing_too None q h m = m (counts project ∙ ap length h)

  pub correspond : (program : Option (List ℕ)) → Correspond (diagrams.programs_of project) (texts.programs_of (unit_of project)) program
  correspond program = record {
    counts = counts project;
    alike = chosen_text program;
    missing = not_missing program;
    missing_too = not_missing_too program;
  }

-- ---- runs

module _ {P G : Type 0} (ps : Programs P G) (told : List ℕ → Option (List ℕ)) (r : Run) (file : List ℕ) where
  -- the file of the programs itself is not looked at
  abbrev other : Run
  other = record r { file = file }

  abbrev chosen_over : Chosen ps other → Chosen ps r
  chosen_over c = record { program = c.program; is = c.is; laid = c.laid; is_laid = c.is_laid; leaves_are = c.leaves_are }

  abbrev begun_over : Begun told ps other → Begun told ps r
  begun_over b = record { chosen = chosen_over b.chosen; kept = b.kept; begins = b.begins }

  pub comes_over : (x : Result (List ℕ) RunError) → ComesTo told (λ _. ⊥) ps other x → ComesTo told (λ _. ⊥) ps r x
  comes_over (Ok text) h = record {
    course = record { begun = begun_over h.course.begun; events = h.course.events; tells = h.course.tells };
    plain = h.plain;
    text_is = h.text_is;
  }
  comes_over (Err (NoProgram programs)) h = h
  comes_over (Err RetainedRead) (c, h) = (chosen_over c, h)
  comes_over (Err (Line line)) (c, h) = (chosen_over c, h)
  comes_over (Err EventsRead) (b, h) = (begun_over b, h)
  comes_over (Err (Row row)) (b, h) = (begun_over b, h)
  comes_over (Err NoMemory) h = h
