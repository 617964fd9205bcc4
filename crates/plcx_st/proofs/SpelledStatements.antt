-- The tokens of printed statements are those statements.
use Rattle.std.proofs.Common.{◌≡◌, ℕ, suc, ◌+◌, max, min, List, [], ◌∷◌, ◌++◌, map, refl, sym, ap, subst, ◌∙◌, append_assoc, arith}
use Rattle.std.specs.Prelude.{codes}
use Rattle.std.specs.Fmt.{decimal}
use Rattle.std.proofs.lemmas.List.{append-nil}
use Rattle.std.proofs.lemmas.Grind.{flat_map-append}
use Rattle.plcx_types.specs.Numeral.{number_from}
use Rattle.plcx_lex.specs.Token.{Token}
use Rattle.plcx_lex.specs.declared.token.TokenKind.TheVariants as kind
use Rattle.plcx_types.specs.Lists.{Each}
use Rattle.plcx_meaning.specs.Tree.{Expression, Argument, Statement, Assign, Call, If, While, Case, Statements, no_statement, statement, statements, Arms, no_arm, arm, arms}
use Rattle.plcx_st.specs.declared.tree.Arg.{Arg}
use Rattle.plcx_st.specs.declared.tree.Arm.{Arm}
use Rattle.plcx_st.specs.declared.tree.Stmt.{Stmt}
use Rattle.plcx_st.specs.declared.tree.Stmt.TheVariants as s
use Rattle.plcx_lex.specs.Terminal.{terminal, terminal_of}
use Rattle.plcx_st.specs.Grammar as grammar
use Rattle.plcx_st.specs.Grammar.{IsExpr, IsArg, AreArgs, IsStmt, AreStmts, AreArms}
use Rattle.plcx_st.specs.Meant.{expr_meant, arg_meant, stmt_meant}
use Rattle.plcx_st.specs.Printer.{arm_meant}
use Rattle.plcx_st.specs.Print.{Shape, shape, word, sign, name, in_brackets, expression_shapes, argument_shapes, arguments_shapes, further_arguments, Line, line, opening, closing, ended, statement_lines, statements_lines, arms_lines}
use Rattle.plcx_st.specs.Depth.{expression_depth, arguments_depth, statement_depth, statements_depth, arms_depth}
use Rattle.plcx_st.specs.InRange.{ArgumentInRange, StatementInRange, StatementsInRange, ArmsInRange}
use Rattle.plcx_st.specs.Fitting.{ArgumentFits, StatementFits, StatementsFit, ArmsFit}
use Rattle.plcx_st.proofs.Views.{assign_view, call_statement_view, if_view, while_view, case_view}
use Rattle.plcx_st.proofs.Literals.{label_number}
use Rattle.plcx_st.proofs.Lexed.{shapes_of}
use Rattle.plcx_st.proofs.Split.{Shaped, Headed, split, headed, empty, last_one, terminal_is, text_is}
use Rattle.plcx_st.proofs.SpelledExpressions.{spelled}

-- ---- the shapes of statements, on whatever lines

abbrev semicolon : Shape
semicolon = sign (codes ";")

abbrev pub held : List ℕ → Expression → List ℕ → List Shape → List ℕ → List Shape
held first e last inside end = word first ∷ (expression_shapes 0 e ++ word last ∷ (inside ++ word end ∷ semicolon ∷ []))

unfoldable mutual
  pub statement_shapes : Statement → List Shape
  statement_shapes (Assign x e) = name x ∷ sign (codes ":=") ∷ (expression_shapes 0 e ++ semicolon ∷ [])
  statement_shapes (Call x args) = name x ∷ sign (codes "(") ∷ (arguments_shapes args ++ sign (codes ")") ∷ semicolon ∷ [])
  statement_shapes (If e body) = held (codes "IF") e (codes "THEN") (statements_shapes body) (codes "END_IF")
  statement_shapes (While e body) = held (codes "WHILE") e (codes "DO") (statements_shapes body) (codes "END_WHILE")
  statement_shapes (Case e arms) = held (codes "CASE") e (codes "OF") (arms_shapes arms) (codes "END_CASE")

  pub statements_shapes : Statements → List Shape
  statements_shapes no_statement = []
  statements_shapes (statement s ss) = statement_shapes s ++ statements_shapes ss

  pub arms_shapes : Arms → List Shape
  arms_shapes no_arm = []
  arms_shapes (arm label body arms) = shape kind.Digits (decimal label) ∷ sign (codes ":") ∷ (statements_shapes body ++ arms_shapes arms)

pub shapes_append : (a b : List Line) → shapes_of (a ++ b) ≡ shapes_of a ++ shapes_of b
shapes_append a b = flat_map-append (λ (l : Line). l.shapes) a b

held_lines : (n : ℕ) (first last end : List ℕ) (e : Expression) (inside : List Line) → shapes_of (line n (opening first e last) ∷ (inside ++ line n (closing end) ∷ [])) ≡ held first e last (shapes_of inside) end
held_lines n first last end e inside =
    let close : List Shape = word end ∷ semicolon ∷ [] in
    let front : List Shape = expression_shapes 0 e in
    ap (λ (z : List Shape). opening first e last ++ z) (shapes_append inside (line n (closing end) ∷ []))
    ∙ ap (λ (z : List Shape). word first ∷ z) (append_assoc front (word last ∷ []) (shapes_of inside ++ close))

mutual
  unfolding statement_lines statement_shapes

  statement_is : (n : ℕ) (s : Statement) → shapes_of (statement_lines n s) ≡ statement_shapes s
  statement_is n (Assign x e) = append-nil (name x ∷ sign (codes ":=") ∷ ended (expression_shapes 0 e))
  statement_is n (Call x args) = append-nil (name x ∷ ended (in_brackets (arguments_shapes args))) ∙ ap (λ (z : List Shape). name x ∷ sign (codes "(") ∷ z) (append_assoc (arguments_shapes args) (sign (codes ")") ∷ []) (semicolon ∷ []))
  statement_is n (If e body) = held_lines n (codes "IF") (codes "THEN") (codes "END_IF") e (statements_lines (n + 2) body) ∙ ap (λ z. held (codes "IF") e (codes "THEN") z (codes "END_IF")) (statements_are (n + 2) body)
  statement_is n (While e body) = held_lines n (codes "WHILE") (codes "DO") (codes "END_WHILE") e (statements_lines (n + 2) body) ∙ ap (λ z. held (codes "WHILE") e (codes "DO") z (codes "END_WHILE")) (statements_are (n + 2) body)
  statement_is n (Case e arms) = held_lines n (codes "CASE") (codes "OF") (codes "END_CASE") e (arms_lines (n + 2) arms) ∙ ap (λ z. held (codes "CASE") e (codes "OF") z (codes "END_CASE")) (arms_are (n + 2) arms)

  pub statements_are : (n : ℕ) (ss : Statements) → shapes_of (statements_lines n ss) ≡ statements_shapes ss
  statements_are n no_statement = refl
  statements_are n (statement s ss) = shapes_append (statement_lines n s) (statements_lines n ss) ∙ ap (λ (z : List Shape). z ++ shapes_of (statements_lines n ss)) (statement_is n s) ∙ ap (λ (z : List Shape). statement_shapes s ++ z) (statements_are n ss)

  arms_are : (n : ℕ) (arms : Arms) → shapes_of (arms_lines n arms) ≡ arms_shapes arms
  arms_are n no_arm = refl
  arms_are n (arm label body arms) =
      let front : List Shape = shape kind.Digits (decimal label) ∷ sign (codes ":") ∷ [] in
      ap (λ (z : List Shape). front ++ z) (shapes_append (statements_lines (n + 2) body) (arms_lines n arms) ∙ ap (λ (z : List Shape). z ++ shapes_of (arms_lines n arms)) (statements_are (n + 2) body) ∙ ap (λ (z : List Shape). statements_shapes body ++ z) (arms_are n arms))

-- ---- arguments

record ArgOf (ts : List Token) (a : Argument) (depth : ℕ) : Type 0 where
  value : Arg
  stands : IsArg ts value depth
  is : arg_meant value ≡ a

record ArgsOf (ts : List Token) (x : Arg) (more : List Argument) (depth : ℕ) : Type 0 where
  values : List Arg
  listed : AreArgs ts (x ∷ values) depth
  is : map arg_meant values ≡ more

abbrev argument_of : List ℕ → Expression → Argument
argument_of formal value = record { formal = formal; value = value }

spelled_argument : (a : Argument) (ts : List Token) → ArgumentInRange a → ArgumentFits a → Shaped ts (argument_shapes a) → ArgOf ts a (expression_depth 0 a.value)
spelled_argument a ts good fits h =
    let assign = sign (codes ":=") in
    let w = headed ts (name a.formal) (assign ∷ expression_shapes 0 a.value) h in
    let c = headed w.back assign (expression_shapes 0 a.value) w.second in
    let y = spelled a.value 0 c.back good.1 fits c.second in
    let parts : w.token ∷ c.token ∷ c.back ≡ ts = sym (w.parts ∙ ap (λ (z : List Token). w.token ∷ z) c.parts) in
    record {
      value = record { formal = grammar.word w.token; value = y.value };
      stands = subst (λ (z : List Token). IsArg z (record { formal = grammar.word w.token; value = y.value }) (expression_depth 0 a.value)) parts
          (grammar.arg (terminal_is w.token (name a.formal) w.is) (terminal_is c.token assign c.is) y.stands);
      is = ap (λ (z : List ℕ). argument_of z (expr_meant y.value)) (text_is w.token (name a.formal) w.is) ∙ ap (λ (z : Expression). argument_of a.formal z) y.is;
    }

spelled_further : (more : List Argument) (ts us : List Token) (x : Arg) (d : ℕ) → Each ArgumentInRange more → Each ArgumentFits more → Shaped ts (further_arguments more) → IsArg us x d → ArgsOf (us ++ ts) x more (max d (arguments_depth more))
unfolding further_arguments arguments_depth
spelled_further [] ts us x d good fits h stands =
    let same : us ≡ us ++ ts = sym (append-nil us) ∙ ap (λ (z : List Token). us ++ z) (sym (empty ts h)) in
    let deep : d ≡ max d 0 = omega arith in
    record { values = []; listed = subst (λ (n : ℕ). AreArgs (us ++ ts) (x ∷ []) n) deep (subst (λ (z : List Token). AreArgs z (x ∷ []) d) same (grammar.one_arg stands)); is = refl }
spelled_further (a ∷ more) ts us x d good fits h stands =
    let comma = sign (codes ",") in
    let c = headed ts comma (argument_shapes a ++ further_arguments more) h in
    let p = split c.back (argument_shapes a) (further_arguments more) c.second in
    let y = spelled_argument a p.front good.0 fits.0 p.first in
    let l = spelled_further more p.back p.front y.value (expression_depth 0 a.value) good.1 fits.1 p.second y.stands in
    let parts : us ++ c.token ∷ (p.front ++ p.back) ≡ us ++ ts = ap (λ (z : List Token). us ++ z) (ap (λ (z : List Token). c.token ∷ z) (sym p.parts) ∙ sym c.parts) in
    record {
      values = y.value ∷ l.values;
      listed = subst (λ (z : List Token). AreArgs z (x ∷ y.value ∷ l.values) (max d (max (expression_depth 0 a.value) (arguments_depth more)))) parts (grammar.more_args c.token stands (terminal_is c.token comma c.is) l.listed);
      is = ap (λ (z : Argument). z ∷ map arg_meant l.values) y.is ∙ ap (λ (z : List Argument). a ∷ z) l.is;
    }

-- ---- statements

pub record StmtOf (ts : List Token) (x : Statement) (depth : ℕ) : Type 0 where
  pub value : Stmt
  pub stands : IsStmt ts value depth
  pub is : stmt_meant value ≡ x

pub record StmtsOf (ts : List Token) (ss : Statements) (depth : ℕ) : Type 0 where
  pub values : List Stmt
  pub stand : AreStmts ts values depth
  pub is : statements (map stmt_meant values) ≡ ss

record ArmsOf (ts : List Token) (these : Arms) (depth : ℕ) : Type 0 where
  values : List Arm
  stand : AreArms ts values depth
  is : arms (map arm_meant values) ≡ these

along : (ts us : List Token) (x : Statement) (d : ℕ) → ts ≡ us → StmtOf us x d → StmtOf ts x d
along ts us x d e r = subst (λ (z : List Token). StmtOf z x d) (sym e) r

-- one token and then the last
last_two : (ts : List Token) (a b : Shape) (h : Headed ts a (b ∷ [])) (k : Headed h.back b []) → ts ≡ h.token ∷ k.token ∷ []
last_two ts a b h k = h.parts ∙ ap (λ (z : List Token). h.token ∷ z) (last_one h.back b k)

spelled_assign : (x : List ℕ) (e : Expression) (ts : List Token) → StatementInRange (Assign x e) → StatementFits (Assign x e) → Shaped ts (name x ∷ sign (codes ":=") ∷ (expression_shapes 0 e ++ semicolon ∷ [])) → StmtOf ts (Assign x e) (suc (expression_depth 0 e))
spelled_assign x e ts good fits h =
    let assign = sign (codes ":=") in
    let w = headed ts (name x) (assign ∷ (expression_shapes 0 e ++ semicolon ∷ [])) h in
    let a = headed w.back assign (expression_shapes 0 e ++ semicolon ∷ []) w.second in
    let r = split a.back (expression_shapes 0 e) (semicolon ∷ []) a.second in
    let z = headed r.back semicolon [] r.second in
    let y = spelled e 0 r.front good.1 fits r.first in
    along ts (w.token ∷ a.token ∷ (r.front ++ z.token ∷ [])) (Assign x e) (suc (expression_depth 0 e))
    (w.parts ∙ ap (λ (l : List Token). w.token ∷ l) (a.parts ∙ ap (λ (l : List Token). a.token ∷ l) (r.parts ∙ ap (λ (l : List Token). r.front ++ l) (last_one r.back semicolon z))))
    (record {
      value = s.Assign (grammar.word w.token) y.value;
      stands = grammar.assigns z.token (terminal_is w.token (name x) w.is) (terminal_is a.token assign a.is) y.stands (terminal_is z.token semicolon z.is);
      is = assign_view (grammar.word w.token) y.value ∙ ap (λ (l : List ℕ). Assign l (expr_meant y.value)) (text_is w.token (name x) w.is) ∙ ap (λ (l : Expression). Assign x l) y.is;
    })

spelled_call : (x : List ℕ) (args : List Argument) (ts : List Token) → StatementInRange (Call x args) → StatementFits (Call x args) → Shaped ts (name x ∷ sign (codes "(") ∷ (arguments_shapes args ++ sign (codes ")") ∷ semicolon ∷ [])) → StmtOf ts (Call x args) (suc (arguments_depth args))
unfolding arguments_shapes arguments_depth
spelled_call x [] ts good fits h =
    let open' = sign (codes "(") in
    let close = sign (codes ")") in
    let w = headed ts (name x) (open' ∷ close ∷ semicolon ∷ []) h in
    let o = headed w.back open' (close ∷ semicolon ∷ []) w.second in
    let c = headed o.back close (semicolon ∷ []) o.second in
    let z = headed c.back semicolon [] c.second in
    along ts (w.token ∷ o.token ∷ c.token ∷ z.token ∷ []) (Call x []) 1
    (w.parts ∙ ap (λ (l : List Token). w.token ∷ l) (o.parts ∙ ap (λ (l : List Token). o.token ∷ l) (last_two o.back close semicolon c z)))
    (record {
      value = s.Call (grammar.word w.token) [];
      stands = grammar.calls_bare (terminal_is w.token (name x) w.is) (terminal_is o.token open' o.is) (terminal_is c.token close c.is) (terminal_is z.token semicolon z.is);
      is = call_statement_view (grammar.word w.token) [] ∙ ap (λ (l : List ℕ). Call l []) (text_is w.token (name x) w.is);
    })
spelled_call x (a ∷ more) ts good fits h =
    let open' = sign (codes "(") in
    let close = sign (codes ")") in
    let inner : List Shape = argument_shapes a ++ further_arguments more in
    let w = headed ts (name x) (open' ∷ (inner ++ close ∷ semicolon ∷ [])) h in
    let o = headed w.back open' (inner ++ close ∷ semicolon ∷ []) w.second in
    let r = split o.back inner (close ∷ semicolon ∷ []) o.second in
    let c = headed r.back close (semicolon ∷ []) r.second in
    let z = headed c.back semicolon [] c.second in
    let p = split r.front (argument_shapes a) (further_arguments more) r.first in
    let y = spelled_argument a p.front good.1.0 fits.0 p.first in
    let l = spelled_further more p.back p.front y.value (expression_depth 0 a.value) good.1.1 fits.1 p.second y.stands in
    let deep : ℕ = max (expression_depth 0 a.value) (arguments_depth more) in
    let listed : AreArgs r.front (y.value ∷ l.values) deep = subst (λ (q : List Token). AreArgs q (y.value ∷ l.values) deep) (sym p.parts) l.listed in
    along ts (w.token ∷ o.token ∷ (r.front ++ c.token ∷ z.token ∷ [])) (Call x (a ∷ more)) (suc deep)
    (w.parts ∙ ap (λ (q : List Token). w.token ∷ q) (o.parts ∙ ap (λ (q : List Token). o.token ∷ q) (r.parts ∙ ap (λ (q : List Token). r.front ++ q) (last_two r.back close semicolon c z))))
    (record {
      value = s.Call (grammar.word w.token) (y.value ∷ l.values);
      stands = grammar.calls c.token z.token (terminal_is w.token (name x) w.is) (terminal_is o.token open' o.is) listed (terminal_is c.token close c.is) (terminal_is z.token semicolon z.is);
      is = call_statement_view (grammar.word w.token) (y.value ∷ l.values) ∙ ap (λ (q : List ℕ). Call q (arg_meant y.value ∷ map arg_meant l.values)) (text_is w.token (name x) w.is)
          ∙ ap (λ (q : Argument). Call x (q ∷ map arg_meant l.values)) y.is ∙ ap (λ (q : List Argument). Call x (a ∷ q)) l.is;
    })

-- the tokens of a word, an expression, a word, what is inside, and the end
record Parted (ts : List Token) (first : List ℕ) (e : Expression) (last : List ℕ) (inside : List Shape) (end : List ℕ) : Type 0 where
  h : Token
  m : Token
  c : Token
  z : Token
  condition : List Token
  body : List Token
  parts : ts ≡ h ∷ (condition ++ m ∷ (body ++ c ∷ z ∷ []))
  at-first : terminal h ≡ terminal_of kind.Keyword first
  at-last : terminal m ≡ terminal_of kind.Keyword last
  at-end : terminal c ≡ terminal_of kind.Keyword end
  at-semicolon : terminal z ≡ terminal_of kind.Sign (codes ";")
  spells : Shaped condition (expression_shapes 0 e)
  contains : Shaped body inside

parted : (ts : List Token) (first : List ℕ) (e : Expression) (last : List ℕ) (inside : List Shape) (end : List ℕ) → Shaped ts (held first e last inside end) → Parted ts first e last inside end
parted ts first e last inside end h =
    let close : List Shape = word end ∷ semicolon ∷ [] in
    let f = headed ts (word first) (expression_shapes 0 e ++ word last ∷ (inside ++ close)) h in
    let r = split f.back (expression_shapes 0 e) (word last ∷ (inside ++ close)) f.second in
    let m = headed r.back (word last) (inside ++ close) r.second in
    let b = split m.back inside close m.second in
    let c = headed b.back (word end) (semicolon ∷ []) b.second in
    let z = headed c.back semicolon [] c.second in
    record {
      h = f.token;
      m = m.token;
      c = c.token;
      z = z.token;
      condition = r.front;
      body = b.front;
      parts = f.parts ∙ ap (λ (l : List Token). f.token ∷ l) (r.parts ∙ ap (λ (l : List Token). r.front ++ l) (m.parts ∙ ap (λ (l : List Token). m.token ∷ l) (b.parts ∙ ap (λ (l : List Token). b.front ++ l) (last_two b.back (word end) semicolon c z))));
      at-first = terminal_is f.token (word first) f.is;
      at-last = terminal_is m.token (word last) m.is;
      at-end = terminal_is c.token (word end) c.is;
      at-semicolon = terminal_is z.token semicolon z.is;
      spells = r.first;
      contains = b.first;
    }

mutual
  unfolding statement_shapes statement_depth

  spelled_statement : (x : Statement) (ts : List Token) → StatementInRange x → StatementFits x → Shaped ts (statement_shapes x) → StmtOf ts x (statement_depth x)
  spelled_statement (Assign x e) ts good fits h = spelled_assign x e ts good fits h
  spelled_statement (Call x args) ts good fits h = spelled_call x args ts good fits h
  spelled_statement (If e body) ts good fits h =
      let p = parted ts (codes "IF") e (codes "THEN") (statements_shapes body) (codes "END_IF") h in
      let x = spelled e 0 p.condition good.0 fits.0 p.spells in
      let b = spelled_statements body p.body good.1 fits.1 p.contains in
      along ts (p.h ∷ (p.condition ++ p.m ∷ (p.body ++ p.c ∷ p.z ∷ []))) (If e body) (suc (max (expression_depth 0 e) (statements_depth body))) p.parts
      (record {
        value = s.If x.value b.values;
        stands = grammar.chooses p.m p.c p.z p.at-first x.stands p.at-last b.stand p.at-end p.at-semicolon;
        is = if_view x.value b.values ∙ ap (λ (q : Expression). If q (statements (map stmt_meant b.values))) x.is ∙ ap (λ (q : Statements). If e q) b.is;
      })
  spelled_statement (While e body) ts good fits h =
      let p = parted ts (codes "WHILE") e (codes "DO") (statements_shapes body) (codes "END_WHILE") h in
      let x = spelled e 0 p.condition good.0 fits.0 p.spells in
      let b = spelled_statements body p.body good.1 fits.1 p.contains in
      along ts (p.h ∷ (p.condition ++ p.m ∷ (p.body ++ p.c ∷ p.z ∷ []))) (While e body) (suc (max (expression_depth 0 e) (statements_depth body))) p.parts
      (record {
        value = s.While x.value b.values;
        stands = grammar.repeats p.m p.c p.z p.at-first x.stands p.at-last b.stand p.at-end p.at-semicolon;
        is = while_view x.value b.values ∙ ap (λ (q : Expression). While q (statements (map stmt_meant b.values))) x.is ∙ ap (λ (q : Statements). While e q) b.is;
      })
  spelled_statement (Case e these) ts good fits h =
      let p = parted ts (codes "CASE") e (codes "OF") (arms_shapes these) (codes "END_CASE") h in
      let x = spelled e 0 p.condition good.0 fits.0 p.spells in
      let b = spelled_arms these p.body good.1 fits.1 p.contains in
      along ts (p.h ∷ (p.condition ++ p.m ∷ (p.body ++ p.c ∷ p.z ∷ []))) (Case e these) (suc (max (expression_depth 0 e) (arms_depth these))) p.parts
      (record {
        value = s.Case x.value b.values;
        stands = grammar.selects p.m p.c p.z p.at-first x.stands p.at-last b.stand p.at-end p.at-semicolon;
        is = case_view x.value b.values ∙ ap (λ (q : Expression). Case q (arms (map arm_meant b.values))) x.is ∙ ap (λ (q : Arms). Case e q) b.is;
      })

  pub spelled_statements : (ss : Statements) (ts : List Token) → StatementsInRange ss → StatementsFit ss → Shaped ts (statements_shapes ss) → StmtsOf ts ss (statements_depth ss)
  spelled_statements no_statement ts good fits h = record { values = []; stand = subst (λ (z : List Token). AreStmts z [] 0) (sym (empty ts h)) grammar.no_stmt; is = refl }
  spelled_statements (statement x ss) ts good fits h =
      let p = split ts (statement_shapes x) (statements_shapes ss) h in
      let y = spelled_statement x p.front good.0 fits.0 p.first in
      let l = spelled_statements ss p.back good.1 fits.1 p.second in
      record {
        values = y.value ∷ l.values;
        stand = subst (λ (z : List Token). AreStmts z (y.value ∷ l.values) (max (statement_depth x) (statements_depth ss))) (sym p.parts) (grammar.stmt y.stands l.stand);
        is = ap (λ (q : Statement). statement q (statements (map stmt_meant l.values))) y.is ∙ ap (λ (q : Statements). statement x q) l.is;
      }

  spelled_arms : (these : Arms) (ts : List Token) → ArmsInRange these → ArmsFit these → Shaped ts (arms_shapes these) → ArmsOf ts these (arms_depth these)
  spelled_arms no_arm ts good fits h = record { values = []; stand = subst (λ (z : List Token). AreArms z [] 0) (sym (empty ts h)) grammar.no_arm; is = refl }
  spelled_arms (arm label body others) ts good fits h =
      let colon = sign (codes ":") in
      let digits = shape kind.Digits (decimal label) in
      let n = headed ts digits (colon ∷ (statements_shapes body ++ arms_shapes others)) h in
      let m = headed n.back colon (statements_shapes body ++ arms_shapes others) n.second in
      let p = split m.back (statements_shapes body) (arms_shapes others) m.second in
      let b = spelled_statements body p.front good.0 fits.1 p.first in
      let l = spelled_arms others p.back good.1 fits.2 p.second in
      let here : Arm = record { label = grammar.label n.token; span = n.token.span; body = b.values } in
      let same : grammar.label n.token ≡ label = ap (λ (w : List ℕ). min (number_from 10 0 w) 2147483648) (text_is n.token digits n.is) ∙ label_number label fits.0 in
      let parts : n.token ∷ m.token ∷ (p.front ++ p.back) ≡ ts = sym (n.parts ∙ ap (λ (z : List Token). n.token ∷ z) (m.parts ∙ ap (λ (z : List Token). m.token ∷ z) p.parts)) in
      record {
        values = here ∷ l.values;
        stand = subst (λ (z : List Token). AreArms z (here ∷ l.values) (max (statements_depth body) (arms_depth others))) parts
            (grammar.arm (terminal_is n.token digits n.is) (terminal_is m.token colon m.is) b.stand l.stand);
        is = ap (λ q. arm q (statements (map stmt_meant b.values)) (arms (map arm_meant l.values))) same ∙ ap (λ (q : Statements). arm label q (arms (map arm_meant l.values))) b.is ∙ ap (λ (q : Arms). arm label body q) l.is;
      }
