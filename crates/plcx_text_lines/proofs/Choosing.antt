-- What statements add, by what their parts add.
use Rattle.std.proofs.Common.{◌≡◌, ℕ, ◌+◌, ◌<◌, ◌≤◌, List, [], ◌∷◌, ◌++◌, length, map, drop, get_or, refl, sym, ap, ap₂, ◌∙◌, subst, append_assoc}
use Rattle.std.proofs.lemmas.List.{append-nil}
use Rattle.plcx_types.specs.Lists.{Each}
use Rattle.plcx_meaning.specs.Tree.{Expression, Statement, Statements, statement, statements, Arms, no_arm, arm, arms}
use Rattle.plcx_meaning.specs.Layout.{Scope}
use Rattle.plcx_meaning.specs.Ready.{StatementIsReady, StatementsAreReady, ArmsAreReady}
use Rattle.plcx_st.specs.declared.tree.Stmt.{Stmt}
use Rattle.plcx_st.specs.declared.tree.Arm as st
use Rattle.plcx_st.specs.Meant.{stmt_meant}
use Rattle.plcx_st.specs.Printer.{arm_meant}
use Rattle.plcx_steps.specs.declared.program.Source.{Source}
use Rattle.plcx_steps.specs.declared.program.Argument.{Argument as Input}
use Rattle.plcx_text_steps.specs.declared.text.Line.{Line}
use Rattle.plcx_text_steps.specs.declared.text.Line.TheVariants as line
use Rattle.plcx_text_steps.specs.declared.text.Arm.{Arm}
use Rattle.plcx_text_numbered.specs.Prepared.{source_of}
use Rattle.plcx_text_pieces.specs.Called.{Numbers}
use Rattle.plcx_text_pieces.specs.Pieces.{Piece, Start, after, one_line, boxed, value_piece, if_piece, while_piece, chosen_piece, case_piece, statement_piece, statements_piece, arms_piece, choices_of}
use Rattle.plcx_text_lines.specs.declared.emitting.Prepared.{Prepared}
use Rattle.plcx_text_lines.specs.Added.{start_of, Adds, Brings, AddsBoxed, AddsArms, ArmIsReady}
use Rattle.plcx_text_lines.proofs.Adding.{adds_nothing, adds_then, start_then}
use Rattle.plcx_text_lines.proofs.Bringing.{rest_more, rest_none}
use Rattle.plcx_text_lines.proofs.Calling.{source_is}

-- a section behind a piece
boxed_then : (pou : ℕ) (q : Start → Piece) (s : Start) (given behind : Prepared) (number : ℕ) → start_of given ≡ s → AddsBoxed pou (q (start_of given)) given behind number → Adds (boxed pou (q s)) given behind × (number ≡ (after s (q s)).sections)
boxed_then pou q s given behind number at h =
    (subst (λ (u : Start). Adds (boxed pou (q u)) given behind) at h.added, h.numbered ∙ ap (λ (u : Start). (after u (q u)).sections) at)

module _ (n : Numbers) (e : Expression) (before : Prepared) where
  abbrev s : Start
  s = start_of before

  abbrev value : Source
  value = source_of n.names s.wires e

  abbrev test : Piece
  test = value_piece n.names s e

  pub chooses : (ss : Statements) (tested inner behind : Prepared) (x : Input) (number : ℕ) → Brings n.names e before tested x → AddsBoxed n.pou (statements_piece n ss (start_of tested)) tested inner number → Adds (one_line (line.If x.source number)) inner behind
      → Adds (if_piece n s e (statements_piece n ss)) before behind
  chooses ss tested inner behind x number first second last =
      let within = boxed_then n.pou (statements_piece n ss) (after s test) tested inner number (start_then test before tested first.added) second in
      let here = subst (λ (l : Line). Adds (one_line l) inner behind) (ap₂ line.If (source_is n.names e before tested x first) within.1) last in
      adds_then test _ before tested behind first.added (adds_then _ _ tested inner behind within.0 here)

  pub loops : (ss : Statements) (tested inner behind : Prepared) (source : Source) (b number : ℕ) → AddsBoxed n.pou test before tested b → source ≡ value → AddsBoxed n.pou (statements_piece n ss (start_of tested)) tested inner number
      → Adds (one_line (line.While b source number)) inner behind → Adds (while_piece n s e (statements_piece n ss)) before behind
  loops ss tested inner behind source b number first is second last =
      let from = after s (boxed n.pou test) in
      let within = boxed_then n.pou (statements_piece n ss) from tested inner number (start_then (boxed n.pou test) before tested first.added) second in
      let k = (after from (statements_piece n ss from)).sections in
      let same : line.While b source number ≡ line.While (after s test).sections value k =
      ap (λ m. line.While m source number) first.numbered ∙ ap₂ (λ o m. line.While (after s test).sections o m) is within.1 in
      let here = subst (λ (l : Line). Adds (one_line l) inner behind) same last in
      adds_then (boxed n.pou test) _ before tested behind first.added (adds_then _ _ tested inner behind within.0 here)

  pub selects : (arms : Arms) (valued inner behind : Prepared) (x : Input) (choices : List Arm) → Brings n.names e before valued x → AddsArms n arms valued inner choices → Adds (chosen_piece (start_of inner) x.source choices) inner behind
      → Adds (case_piece n.names s e (arms_piece n arms) (choices_of n arms)) before behind
  selects arms valued inner behind x choices first second last =
      let at = start_then test before valued first.added in
      let sections = arms_piece n arms (after s test) in
      let within : Adds sections valued inner = subst (λ (u : Start). Adds (arms_piece n arms u) valued inner) at second.added in
      let chosen : choices ≡ choices_of n arms (after s test) = second.chosen ∙ ap (λ (u : Start). choices_of n arms u) at in
      let behind_at : start_of inner ≡ after (after s test) sections = start_then sections valued inner within ∙ ap (λ (u : Start). after u sections) at in
      let here : Adds (chosen_piece (after (after s test) sections) value (choices_of n arms (after s test))) inner behind =
      subst (λ (u : Start). Adds (chosen_piece u value (choices_of n arms (after s test))) inner behind) behind_at
      (subst (λ (o : Source). Adds (chosen_piece (start_of inner) o (choices_of n arms (after s test))) inner behind) (source_is n.names e before valued x first)
      (subst (λ (cs : List Arm). Adds (chosen_piece (start_of inner) x.source cs) inner behind) chosen last)) in
      adds_then test _ before valued behind first.added (adds_then sections _ valued inner behind within here)

-- ---- several statements

pub states_next : (n : Numbers) (x : Statement) (xs : Statements) (before next behind : Prepared) → Adds (statement_piece n x (start_of before)) before next → Adds (statements_piece n xs (start_of next)) next behind
    → Adds (statements_piece n (statement x xs) (start_of before)) before behind
states_next n x xs before next behind first then_ =
    let p = statement_piece n x (start_of before) in
    adds_then p _ before next behind first (subst (λ (u : Start). Adds (statements_piece n xs u) next behind) (start_then p before next first) then_)

-- ---- several arms

pub arms_none : (n : Numbers) (before : Prepared) → AddsArms n no_arm before before []
arms_none n before = record { added = adds_nothing before; chosen = refl }

pub arms_next : (n : Numbers) (label : ℕ) (xs : Statements) (rest : Arms) (before next behind : Prepared) (number : ℕ) (more : List Arm) → AddsBoxed n.pou (statements_piece n xs (start_of before)) before next number → AddsArms n rest next behind more
    → AddsArms n (arm label xs rest) before behind (record { label = label; section = number } ∷ more)
arms_next n label xs rest before next behind number more first then_ =
    let p = boxed n.pou (statements_piece n xs (start_of before)) in
    let at = start_then p before next first.added in
    record {
      added = adds_then p _ before next behind first.added (subst (λ (u : Start). Adds (arms_piece n rest u) next behind) at then_.added);
      chosen = ap₂ (λ (m : ℕ) (cs : List Arm). record { label = label; section = m } ∷ cs) first.numbered (then_.chosen ∙ ap (λ (u : Start). choices_of n rest u) at);
    }

-- ---- loops

-- the statements so far, whatever the rest adds
abbrev pub Goes : Numbers → List Stmt → ℕ → Prepared → (whole : Statements) → Prepared → Type 0
Goes n body i all whole before = (behind : Prepared) → Adds (statements_piece n (statements (map stmt_meant (drop i body))) (start_of all)) all behind → Adds (statements_piece n whole (start_of before)) before behind

pub states_more : (n : Numbers) (body : List Stmt) (i : ℕ) (x : Stmt) (all next before : Prepared) (whole : Statements) → i < length body → x ≡ get_or body i x → Adds (statement_piece n (stmt_meant x) (start_of all)) all next → Goes n body i all whole before
    → Goes n body (i + 1) next whole before
states_more n body i x all next before whole less is one inv behind h =
    inv behind
    (subst (λ (xs : List Statement). Adds (statements_piece n (statements xs) (start_of all)) all behind) (sym (rest_more stmt_meant body i x less is))
    (states_next n (stmt_meant x) (statements (map stmt_meant (drop (i + 1) body))) all next behind one h))

pub states_end : (n : Numbers) (body : List Stmt) (i : ℕ) (all before : Prepared) (whole : Statements) → length body ≤ i → Goes n body i all whole before → Adds (statements_piece n whole (start_of before)) before all
states_end n body i all before whole more inv =
    inv all (subst (λ (xs : List Statement). Adds (statements_piece n (statements xs) (start_of all)) all all) (sym (rest_none stmt_meant body i more)) (adds_nothing all))

-- the arms so far, whatever the rest adds
abbrev pub GoesArms : Numbers → List st.Arm → ℕ → Prepared → List Arm → (whole : Arms) → Prepared → Type 0
GoesArms n body i all choices whole before = (behind : Prepared) (more : List Arm) → AddsArms n (arms (map arm_meant (drop i body))) all behind more → AddsArms n whole before behind (choices ++ more)

pub arms_more : (n : Numbers) (body : List st.Arm) (i : ℕ) (x : st.Arm) (all next before : Prepared) (choices later : List Arm) (number : ℕ) (whole : Arms) → i < length body → x ≡ get_or body i x
    → AddsBoxed n.pou (statements_piece n (statements (map stmt_meant x.body)) (start_of all)) all next number → later ≡ choices ++ record { label = x.label; section = number } ∷ [] → GoesArms n body i all choices whole before
    → GoesArms n body (i + 1) next later whole before
arms_more n body i x all next before choices later number whole less is one grown inv behind more h =
    let here : Arm = record { label = x.label; section = number } in
    let rest : AddsArms n (arms (map arm_meant (drop i body))) all behind (here ∷ more) =
    subst (λ (xs : List (ℕ × List Statement)). AddsArms n (arms xs) all behind (here ∷ more)) (sym (rest_more arm_meant body i x less is))
    (arms_next n x.label (statements (map stmt_meant x.body)) (arms (map arm_meant (drop (i + 1) body))) all next behind number more one h) in
    subst (λ (cs : List Arm). AddsArms n whole before behind cs) (sym (ap (λ cs. cs ++ more) grown ∙ append_assoc choices (here ∷ []) more)) (inv behind (here ∷ more) rest)

pub arms_end : (n : Numbers) (body : List st.Arm) (i : ℕ) (all before : Prepared) (choices : List Arm) (whole : Arms) → length body ≤ i → GoesArms n body i all choices whole before → AddsArms n whole before all choices
arms_end n body i all before choices whole more inv =
    subst (λ (cs : List Arm). AddsArms n whole before all cs) (append-nil choices)
    (inv all [] (subst (λ (xs : List (ℕ × List Statement)). AddsArms n (arms xs) all all []) (sym (rest_none arm_meant body i more)) (arms_none n all)))

-- statements within a statement that are ready
pub all_ready : (c : Scope) (xs : List Statement) → StatementsAreReady c (statements xs) → Each (StatementIsReady c) xs
all_ready c [] h = tt
all_ready c (x ∷ xs) h = (h.0, all_ready c xs h.1)

pub arms_ready : (c : Scope) (xs : List (ℕ × List Statement)) → ArmsAreReady c (arms xs) → Each (ArmIsReady c) xs
arms_ready c [] h = tt
arms_ready c (x ∷ xs) h = (all_ready c x.1 h.0, arms_ready c xs h.1)
