-- What is read as a statement is one.
use Rattle.std.proofs.Common.{◌≡◌, ℕ, zero, suc, ◌+◌, ◌≤◌, true, max, List, [], ◌∷◌, ◌++◌, drop, Ok, refl, sym, ap, subst, ◌∙◌, append_assoc, arith}
use Rattle.plcx_lex.specs.Token.{Token}
use Rattle.plcx_lex.specs.declared.terminal.Terminal.{Terminal}
use Rattle.plcx_lex.specs.declared.terminal.Terminal.TheVariants as t
use Rattle.plcx_lex.specs.Terminal.{terminal}
use Rattle.plcx_st.specs.Grammar.{word, label, IsExpr, IsArg, AreArgs, IsStmt, AreStmts, AreArms}
use Rattle.plcx_st.specs.Grammar as g
use Rattle.plcx_st.specs.declared.tree.Expr.{Expr}
use Rattle.plcx_st.specs.declared.tree.Arg.{Arg}
use Rattle.plcx_st.specs.declared.tree.Arm.{Arm}
use Rattle.plcx_st.specs.declared.tree.Stmt.{Stmt}
use Rattle.plcx_st.specs.declared.tree.Stmt.TheVariants as s
use Rattle.plcx_read.specs.Reading.{syntax, Read, ◌>>=◌, ◌>>◌, same, next, sees, expect, room, room_told, all_of, list_of, expr, begins_stmt, is_digits, closed, assigned, argument, called_with, called_bare, named_stmt_by, head, conditional, repeated, arm, selected, statement_by, statement_of, statement}
use Rattle.plcx_read.proofs.Steady.{Reader, done, done_is, bind_ok}
use Rattle.plcx_read.proofs.Sound.{Took, took, TookParted, by_test, passed, same_is, sees_found, next_found, expect_found, all_sound, list_sound}
use Rattle.plcx_read.proofs.SoundExprs.{as_took, expr_sound}

-- a label and its statements
pub record OneArm (w : List Token) (v : Arm) (d : ℕ) : Type 0 where
  pub label : Token
  pub colon : Token
  pub behind : List Token
  pub stmts : List Stmt
  pub digits : terminal label ≡ t.Digits
  pub sign : terminal colon ≡ t.Colon
  pub parts : w ≡ label ∷ colon ∷ behind
  pub value : v ≡ record { label = g.label label; span = label.span; body = stmts }
  pub whole : AreStmts behind stmts d

pub also_arm : (w u : List Token) (v : Arm) (vs : List Arm) (d c : ℕ) → OneArm w v d → AreArms u vs c → AreArms (w ++ u) (v ∷ vs) (max d c)
also_arm w u v vs d c m r =
    let made : Arm = record { label = label m.label; span = m.label.span; body = m.stmts } in
    subst (λ (y : Arm). AreArms (w ++ u) (y ∷ vs) (max d c)) (sym m.value) (subst (λ (y : List Token). AreArms (y ++ u) (made ∷ vs) (max d c)) (sym m.parts) (g.arm m.digits m.sign m.whole r))

-- an expression and the word behind it, at another word
pub record Headed (b : ℕ) (q : Terminal) (ts : List Token) (x : Read Expr) : Type 0 where
  pub value : List Token
  pub middle : Token
  pub is : IsExpr 0 value x.0 x.1
  pub mid : terminal middle ≡ q
  pub within : x.1 ≤ b
  pub parts : ts ≡ value ++ middle ∷ x.2

-- the two tokens that end a statement
pub record Ended (z : Terminal) (ts rest : List Token) : Type 0 where
  pub close : Token
  pub semicolon : Token
  pub shut : terminal close ≡ z
  pub ends : terminal semicolon ≡ t.Semicolon
  pub parts : ts ≡ close ∷ semicolon ∷ rest

pub closed_sound : (z : Terminal) (ts rest : List Token) → closed z ts ≡ Ok rest → Ended z ts rest
unfolding closed
closed_sound z ts rest h =
    let b = bind_ok (expect z ts) (λ rest. expect t.Semicolon rest) rest h in
    let c = expect_found z ts b.0 b.1 in
    let e = expect_found t.Semicolon b.0 rest b.2 in
    record { close = c.token; semicolon = e.token; shut = c.is; ends = e.is; parts = c.parts ∙ ap (λ (u : List Token). c.token ∷ u) e.parts }

module _ (b : ℕ) where
  pub value_sound : (ts : List Token) (x : Read Expr) → expr b 0 ts ≡ Ok x → Took (IsExpr 0) b ts x
  value_sound ts x h = as_took b 0 ts x (expr_sound b 0 ts x (omega arith) h)

  abbrev arg_of : Token → Read Expr → Read Arg
  arg_of x v = (record { formal = word x; value = v.0 }, v.1, v.2)

  pub argument_sound : (ts : List Token) (r : Read Arg) → argument b ts ≡ Ok r → Took IsArg b ts r
  unfolding argument
  argument_sound [] r h = absurd cc
  argument_sound (x ∷ xs) r h =
      let p = passed (same (terminal x) t.Name) (room b (x ∷ xs) >> (expect t.Assign xs >>= λ rest. expr b 0 rest >>= λ v. Ok (arg_of x v))) (syntax, x ∷ xs) r h in
      let y = bind_ok (room b (x ∷ xs)) (λ _. expect t.Assign xs >>= λ rest. expr b 0 rest >>= λ v. done (arg_of x v)) r p.1 in
      let z = bind_ok (expect t.Assign xs) (λ rest. expr b 0 rest >>= λ v. done (arg_of x v)) r y.2 in
      let o = expect_found t.Assign xs z.0 z.1 in
      let v = bind_ok (expr b 0 z.0) (λ v. done (arg_of x v)) r z.2 in
      let m = value_sound z.0 v.0 v.1 in
      took IsArg b (x ∷ xs) (x ∷ o.token ∷ m.tokens) v.0.2 (record { formal = word x; value = v.0.0 }) v.0.1 v.0.1 r (g.arg (same_is (terminal x) t.Name p.0) o.is m.is) refl
      (ap (λ (u : List Token). x ∷ u) (o.parts ∙ ap (λ (u : List Token). o.token ∷ u) m.parts)) m.within v.2

  pub args_sound : (ts : List Token) (x : Read (List Arg)) → list_of (argument b) ts ≡ Ok x → TookParted AreArgs b ts x
  args_sound ts x h = list_sound (argument b) IsArg AreArgs b (λ w v d i. g.one_arg i) (λ c w u v vs d e i is j. g.more_args c i is j) argument_sound ts x h

  abbrev Statement : List Token → Read Stmt → Type 0
  Statement ts x = Took IsStmt (suc b) ts x

  assigned_sound : (w a : Token) (ts : List Token) (x : Read Stmt) → terminal w ≡ t.Name → terminal a ≡ t.Assign → assigned b w (a ∷ ts) ≡ Ok x → Statement (w ∷ a ∷ ts) x
  unfolding assigned
  assigned_sound w a ts x name sign h =
      let r = bind_ok (room_told b w (a ∷ ts)) (λ _. expr b 0 ts >>= λ v. expect t.Semicolon v.2 >>= λ rest. done (s.Assign (word w) v.0, v.1 + 1, rest)) x h in
      let v = bind_ok (expr b 0 ts) (λ v. expect t.Semicolon v.2 >>= λ rest. done (s.Assign (word w) v.0, v.1 + 1, rest)) x r.2 in
      let m = value_sound ts v.0 v.1 in
      let e = bind_ok (expect t.Semicolon v.0.2) (λ rest. done (s.Assign (word w) v.0.0, v.0.1 + 1, rest)) x v.2 in
      let z = expect_found t.Semicolon v.0.2 e.0 e.1 in
      let rest : ts ≡ (m.tokens ++ z.token ∷ []) ++ e.0 = m.parts ∙ ap (λ (u : List Token). m.tokens ++ u) z.parts ∙ sym (append_assoc m.tokens (z.token ∷ []) e.0) in
      took IsStmt (suc b) (w ∷ a ∷ ts) (w ∷ a ∷ (m.tokens ++ z.token ∷ [])) e.0 (s.Assign (word w) v.0.0) (suc v.0.1) (v.0.1 + 1) x (g.assigns z.token name sign m.is z.is) (omega arith)
      (ap (λ (u : List Token). w ∷ a ∷ u) rest) (omega (arith, m.within)) e.2

  bare_sound : (w o : Token) (ts : List Token) (x : Read Stmt) → terminal w ≡ t.Name → terminal o ≡ t.Open → sees t.Close ts ≡ true → called_bare b w ts ≡ Ok x → Statement (w ∷ o ∷ ts) x
  unfolding called_bare
  bare_sound w o ts x name opens shut h =
      let c = sees_found t.Close ts shut in
      let e = bind_ok (expect t.Semicolon (drop 1 ts)) (λ rest. done (s.Call (word w) [], 1, rest)) x h in
      let z = expect_found t.Semicolon (drop 1 ts) e.0 e.1 in
      took IsStmt (suc b) (w ∷ o ∷ ts) (w ∷ o ∷ c.token ∷ z.token ∷ []) e.0 (s.Call (word w) []) 1 1 x (g.calls_bare name opens c.is z.is) refl (ap (λ (u : List Token). w ∷ o ∷ u) (c.parts ∙ ap (λ (u : List Token). c.token ∷ u) z.parts)) (omega arith) e.2

  with_sound : (w o : Token) (ts : List Token) (x : Read Stmt) → terminal w ≡ t.Name → terminal o ≡ t.Open → called_with b w ts ≡ Ok x → Statement (w ∷ o ∷ ts) x
  unfolding called_with
  with_sound w o ts x name opens h =
      let v = bind_ok (list_of (argument b) ts) (λ xs. expect t.Semicolon xs.2 >>= λ rest. done (s.Call (word w) xs.0, xs.1 + 1, rest)) x h in
      let m = args_sound ts v.0 v.1 in
      let e = bind_ok (expect t.Semicolon v.0.2) (λ rest. done (s.Call (word w) v.0.0, v.0.1 + 1, rest)) x v.2 in
      let z = expect_found t.Semicolon v.0.2 e.0 e.1 in
      let rest : ts ≡ (m.tokens ++ m.close ∷ z.token ∷ []) ++ e.0 = m.parts ∙ ap (λ (u : List Token). m.tokens ++ m.close ∷ u) z.parts ∙ sym (append_assoc m.tokens (m.close ∷ z.token ∷ []) e.0) in
      took IsStmt (suc b) (w ∷ o ∷ ts) (w ∷ o ∷ (m.tokens ++ m.close ∷ z.token ∷ [])) e.0 (s.Call (word w) v.0.0) (suc v.0.1) (v.0.1 + 1) x (g.calls m.close z.token name opens m.is m.shut z.is) (omega arith)
      (ap (λ (u : List Token). w ∷ o ∷ u) rest) (omega (arith, m.within)) e.2

  named_sound : (q : Terminal) (w : Token) (ts : List Token) (x : Read Stmt) → terminal w ≡ t.Name → next ts ≡ q → named_stmt_by b q w ts ≡ Ok x → Statement (w ∷ ts) x
  named_sound t.Assign w ts x name is h =
      let o = next_found t.Assign ts (λ e. cc) is in
      subst (λ (u : List Token). Statement (w ∷ u) x) (sym o.parts) (assigned_sound w o.token (drop 1 ts) x name o.is (ap (λ v. assigned b w v) (sym o.parts) ∙ h))
  named_sound t.Open w ts x name is h =
      let o = next_found t.Open ts (λ e. cc) is in
      subst (λ (u : List Token). Statement (w ∷ u) x) (sym o.parts)
      (by_test (sees t.Close (drop 1 ts)) (called_bare b w (drop 1 ts)) (called_with b w (drop 1 ts)) (λ r. r ≡ Ok x) (Statement (w ∷ o.token ∷ drop 1 ts) x) (λ shut h'. bare_sound w o.token (drop 1 ts) x name o.is shut h') (λ _ h'. with_sound w o.token (drop 1 ts) x name o.is h') h)
  named_sound _ w ts x name is h = absurd cc

  pub head_sound : (q : Terminal) (x : Token) (ts : List Token) (v : Read Expr) → head b q (x ∷ ts) ≡ Ok v → Headed b q ts v
  unfolding head
  head_sound q x ts v h =
      let y = bind_ok (room b (x ∷ ts)) (λ _. expr b 0 ts >>= λ v. expect q v.2 >>= λ rest. done (v.0, v.1, rest)) v h in
      let k = bind_ok (expr b 0 ts) (λ v. expect q v.2 >>= λ rest. done (v.0, v.1, rest)) v y.2 in
      let m = value_sound ts k.0 k.1 in
      let n = bind_ok (expect q k.0.2) (λ rest. done (k.0.0, k.0.1, rest)) v k.2 in
      let o = expect_found q k.0.2 n.0 n.1 in
      subst (λ (r : Read Expr). Headed b q ts r) (done_is (k.0.0, k.0.1, n.0) v n.2)
      (record { value = m.tokens; middle = o.token; is = m.is; mid = o.is; within = m.within; parts = m.parts ∙ ap (λ (w : List Token). m.tokens ++ w) o.parts })

  -- a word, a value, a word, parts, a word and a semicolon
  module _ {I : Type 0} (q z : Terminal) (x : Token) (Inner : List Token → I → ℕ → Type 0) (inner : Reader I) (sound : (ts : List Token) (r : Read I) → inner ts ≡ Ok r → Took Inner b ts r) (make : Expr → I → Stmt)
      (whole : (m c e : Token) (xs ys : List Token) (v : Expr) (p : I) (d h : ℕ) → IsExpr 0 xs v d → terminal m ≡ q → Inner ys p h → terminal c ≡ z → terminal e ≡ t.Semicolon → IsStmt (x ∷ (xs ++ m ∷ (ys ++ c ∷ e ∷ []))) (make v p) (suc (max d h))) where
    abbrev built : Read Expr → Read I → List Token → Read Stmt
    built v ss rest = (make v.0 ss.0, max v.1 ss.1 + 1, rest)

    blocked_sound : (ts : List Token) (r : Read Stmt) → (head b q (x ∷ ts) >>= λ v. inner v.2 >>= λ ss. closed z ss.2 >>= λ rest. Ok (built v ss rest)) ≡ Ok r → Statement (x ∷ ts) r
    blocked_sound ts r h =
        let v = bind_ok (head b q (x ∷ ts)) (λ v. inner v.2 >>= λ ss. closed z ss.2 >>= λ rest. done (built v ss rest)) r h in
        let m = head_sound q x ts v.0 v.1 in
        let ss = bind_ok (inner v.0.2) (λ ss. closed z ss.2 >>= λ rest. done (built v.0 ss rest)) r v.2 in
        let n = sound v.0.2 ss.0 ss.1 in
        let e = bind_ok (closed z ss.0.2) (λ rest. done (built v.0 ss.0 rest)) r ss.2 in
        let c = closed_sound z ss.0.2 e.0 e.1 in
        let last : v.0.2 ≡ (n.tokens ++ c.close ∷ c.semicolon ∷ []) ++ e.0 = n.parts ∙ ap (λ (u : List Token). n.tokens ++ u) c.parts ∙ sym (append_assoc n.tokens (c.close ∷ c.semicolon ∷ []) e.0) in
        let rest : ts ≡ (m.value ++ m.middle ∷ (n.tokens ++ c.close ∷ c.semicolon ∷ [])) ++ e.0
        = m.parts ∙ ap (λ (u : List Token). m.value ++ m.middle ∷ u) last ∙ sym (append_assoc m.value (m.middle ∷ (n.tokens ++ c.close ∷ c.semicolon ∷ [])) e.0) in
        took IsStmt (suc b) (x ∷ ts) (x ∷ (m.value ++ m.middle ∷ (n.tokens ++ c.close ∷ c.semicolon ∷ []))) e.0 (make v.0.0 ss.0.0) (suc (max v.0.1 ss.0.1)) (max v.0.1 ss.0.1 + 1) r
        (whole m.middle c.close c.semicolon m.value n.tokens v.0.0 ss.0.0 v.0.1 ss.0.1 m.is m.mid n.is c.shut c.ends) (omega arith) (ap (λ (u : List Token). x ∷ u) rest) (omega (arith, m.within, n.within)) e.2

  module _ (inner : Reader (List Stmt)) (sound : (ts : List Token) (r : Read (List Stmt)) → inner ts ≡ Ok r → Took AreStmts b ts r) where
    abbrev arm_of : Token → Read (List Stmt) → Read Arm
    arm_of l ss = (record { label = label l; span = l.span; body = ss.0 }, ss.1, ss.2)

    pub arm_sound : (ts : List Token) (r : Read Arm) → arm inner ts ≡ Ok r → Took OneArm b ts r
    unfolding arm
    arm_sound [] r h = absurd cc
    arm_sound (l ∷ ts) r h =
        let p = passed (same (terminal l) t.Digits) (expect t.Colon ts >>= λ rest. inner rest >>= λ ss. Ok (arm_of l ss)) (syntax, l ∷ ts) r h in
        let y = bind_ok (expect t.Colon ts) (λ rest. inner rest >>= λ ss. done (arm_of l ss)) r p.1 in
        let o = expect_found t.Colon ts y.0 y.1 in
        let k = bind_ok (inner y.0) (λ ss. done (arm_of l ss)) r y.2 in
        let m = sound y.0 k.0 k.1 in
        took OneArm b (l ∷ ts) (l ∷ o.token ∷ m.tokens) k.0.2 (record { label = label l; span = l.span; body = k.0.0 }) k.0.1 k.0.1 r
        (record { label = l; colon = o.token; behind = m.tokens; stmts = k.0.0; digits = same_is (terminal l) t.Digits p.0; sign = o.is; parts = refl; value = refl; whole = m.is }) refl
        (ap (λ (u : List Token). l ∷ u) (o.parts ∙ ap (λ (u : List Token). o.token ∷ u) m.parts)) m.within k.2

    pub arms_sound : (ts : List Token) (r : Read (List Arm)) → all_of is_digits (arm inner) ts ≡ Ok r → Took AreArms b ts r
    arms_sound ts r h = all_sound is_digits (arm inner) OneArm AreArms b g.no_arm also_arm arm_sound ts r h

    kind_sound : (q : Terminal) (x : Token) (ts : List Token) (r : Read Stmt) → terminal x ≡ q → statement_by b inner q x ts ≡ Ok r → Statement (x ∷ ts) r
    unfolding conditional repeated selected
    kind_sound t.Name x ts r is h = named_sound (next ts) x ts r is refl h
    kind_sound t.If x ts r is h = blocked_sound t.Then t.EndIf x AreStmts inner sound (λ v ss. s.If v ss) (λ m c e xs ys v p d f i mid j shut ends. g.chooses m c e is i mid j shut ends) ts r h
    kind_sound t.While x ts r is h = blocked_sound t.Do t.EndWhile x AreStmts inner sound (λ v ss. s.While v ss) (λ m c e xs ys v p d f i mid j shut ends. g.repeats m c e is i mid j shut ends) ts r h
    kind_sound t.Case x ts r is h = blocked_sound t.Of t.EndCase x AreArms (λ us. all_of is_digits (arm inner) us) arms_sound (λ v arms. s.Case v arms) (λ m c e xs ys v p d f i mid j shut ends. g.selects m c e is i mid j shut ends) ts r h
    kind_sound _ x ts r is h = absurd cc

    statement_of_sound : (ts : List Token) (r : Read Stmt) → statement_of b inner ts ≡ Ok r → Statement ts r
    unfolding statement_of
    statement_of_sound [] r h = absurd cc
    statement_of_sound (x ∷ ts) r h = kind_sound (terminal x) x ts r refl h

also_stmt : (w u : List Token) (v : Stmt) (vs : List Stmt) (d c : ℕ) → IsStmt w v d → AreStmts u vs c → AreStmts (w ++ u) (v ∷ vs) (max d c)
also_stmt w u v vs d c i j = g.stmt i j

pub statement_sound : (b : ℕ) (ts : List Token) (r : Read Stmt) → statement b ts ≡ Ok r → Took IsStmt b ts r
unfolding statement
statement_sound zero ts r h = absurd cc
statement_sound (suc b) ts r h = statement_of_sound b (λ us. all_of begins_stmt (statement b) us) (λ us y good. all_sound begins_stmt (statement b) IsStmt AreStmts b g.no_stmt also_stmt (statement_sound b) us y good) ts r h

pub statements_sound : (b : ℕ) (ts : List Token) (r : Read (List Stmt)) → all_of begins_stmt (statement b) ts ≡ Ok r → Took AreStmts b ts r
statements_sound b ts r h = all_sound begins_stmt (statement b) IsStmt AreStmts b g.no_stmt also_stmt (statement_sound b) ts r h
