-- What was read in front of a fault in a statement.
use Rattle.std.proofs.Common.{◌≡◌, ℕ, zero, suc, ◌+◌, ◌≤◌, ◌<◌, true, false, cond, max, List, [], ◌∷◌, ◌++◌, length, drop, Ok, Err, refl, sym, ap, subst, ◌∙◌, arith, inl, inr, ◌⊎◌, add-one}
use Rattle.plcx_lex.specs.Token.{Token}
use Rattle.plcx_lex.specs.declared.terminal.Terminal.{Terminal}
use Rattle.plcx_lex.specs.declared.terminal.Terminal.TheVariants as t
use Rattle.plcx_lex.specs.Terminal.{terminal}
use Rattle.plcx_st.specs.Grammar.{word, label, IsExpr, IsArg, AreArgs, IsStmt, AreStmts, AreArms}
use Rattle.plcx_st.specs.Grammar as g
use Rattle.plcx_st.specs.declared.tree.Expr.{Expr}
use Rattle.plcx_st.specs.declared.tree.Arg.{Arg}
use Rattle.plcx_st.specs.declared.tree.Arm.{Arm}
use Rattle.plcx_st.specs.declared.tree.Stmt.{Stmt}
use Rattle.plcx_st.specs.declared.tree.Stmt.TheVariants as s
use Rattle.plcx_read.specs.Reading.{Stop, syntax, too_deep, told_too_deep, Out, Read, ◌>>=◌, ◌>>◌, same, next, sees, expect, room, room_told, several, all_of, list_of, parted, expr, begins_stmt, is_digits, closed, assigned, argument, called_with, called_bare, called, named_stmt_by, head, conditional, repeated, arm, selected, statement_by, statement_of, statement}
use Rattle.plcx_read.proofs.Steady.{Reader, done, refuse, fault_is, never_both, bind_err}
use Rattle.plcx_read.proofs.SteadyLoops.{Eats}
use Rattle.plcx_read.proofs.SteadyStmts.{good, arms_eat}
use Rattle.plcx_read.proofs.Completes.{Language, Behind, Context, Anything, NoName, Completes, stop_here, deep_here, told_here, completes_along, one_by_one, as_last, inside, behind_any, behind_other, behind_token, whatever, never_told}
use Rattle.plcx_read.proofs.Sound.{Took, by_test, tested, same_is, sees_found, next_found, room_found, told_found}
use Rattle.plcx_read.proofs.SoundExprs.{positive}
use Rattle.plcx_read.proofs.SoundStmts.{OneArm, also_arm, value_sound, argument_sound, args_sound, head_sound, arm_sound, arms_sound, statement_sound, statements_sound}
use Rattle.plcx_read.proofs.CompletesLoops.{Takes, takes, expect_err, room_err, told_err, read_then, expect_then, several_completes, parted_completes}
use Rattle.plcx_read.proofs.CompletesExprs.{expr_completes}
use Rattle.plcx_read.proofs.Shortest.{Made, Exprs, Args, ArgLists, Stmts, StmtLists, ArmLists, a_name, a_digits, a_open, a_close, a_assign, a_semicolon, a_colon, a_then, a_end_if, a_do, a_end_while, a_of, a_end_case, a_value, an_argument, a_call}

abbrev Arms : Language
Arms w d = (v : Arm) × OneArm w v d

also_arms : (w u : List Token) (d c : ℕ) → Arms w d → ArmLists u c → ArmLists (w ++ u) (max d c)
also_arms w u d c m r = (_, also_arm w u m.0 r.0 d c m.1 r.1)

also_stmt : (w u : List Token) (d c : ℕ) → Stmts w d → StmtLists u c → StmtLists (w ++ u) (max d c)
also_stmt w u d c m r = (_, g.stmt m.1 r.1)

also_argument : (x : Token) (w u : List Token) (d c : ℕ) → Args w d → terminal x ≡ t.Comma → ArgLists u c → ArgLists (w ++ x ∷ u) (max d c)
also_argument x w u d c m is r = (_, g.more_args x m.1 is r.1)

arg_positive : {w : List Token} {x : Arg} {d : ℕ} → IsArg w x d → 0 < d
arg_positive (g.arg is a x) = positive x

-- the shortest statement that begins so
abbrev Begun : Token → Type 0
Begun x = (more : List Token) × (d : ℕ) × Stmts (x ∷ more) d

begun_by : (q : Terminal) (x : Token) → terminal x ≡ q → begins_stmt q ≡ true → Begun x
begun_by t.Name x is h = (a_open.token ∷ a_close.token ∷ a_semicolon.token ∷ [], 1, (_, g.calls_bare is a_open.is a_close.is a_semicolon.is))
begun_by t.If x is h = (a_name.token ∷ a_then.token ∷ a_end_if.token ∷ a_semicolon.token ∷ [], 2, (_, g.chooses a_then.token a_end_if.token a_semicolon.token {xs = a_name.token ∷ []} {ys = []} is (g.name a_name.is) a_then.is g.no_stmt a_end_if.is a_semicolon.is))
begun_by t.While x is h = (a_name.token ∷ a_do.token ∷ a_end_while.token ∷ a_semicolon.token ∷ [], 2, (_, g.repeats a_do.token a_end_while.token a_semicolon.token {xs = a_name.token ∷ []} {ys = []} is (g.name a_name.is) a_do.is g.no_stmt a_end_while.is a_semicolon.is))
begun_by t.Case x is h = (a_name.token ∷ a_of.token ∷ a_end_case.token ∷ a_semicolon.token ∷ [], 2, (_, g.selects a_of.token a_end_case.token a_semicolon.token {xs = a_name.token ∷ []} {ys = []} is (g.name a_name.is) a_of.is g.no_arm a_end_case.is a_semicolon.is))
begun_by _ x is h = absurd cc

-- no statement begins with a bracket or the sign of an assignment
begins_other : (q : Terminal) → begins_stmt q ≡ false → (x : Token) → begins_stmt (terminal x) ≡ true → terminal x ≡ q → ⊥
begins_other q no' x yes' is = let bad : true ≡ false = sym yes' ∙ ap begins_stmt is ∙ no' in cc

value_takes : (b : ℕ) (ts : List Token) (x : Read Expr) → expr b 0 ts ≡ Ok x → Takes (Exprs 0) b ts x.2
value_takes b ts x h = takes (IsExpr 0) b ts x (value_sound b ts x h)

value_fails : (b : ℕ) (ts : List Token) (f : Stop) → 0 < b → expr b 0 ts ≡ Err f → Completes NoName (Exprs 0) b ts f
value_fails b ts f pos h = expr_completes b 0 ts f pos (omega arith) h

module _ (b : ℕ) where
  -- ---- arguments

  abbrev arg_of : Token → Read Expr → Read Arg
  arg_of x v = (record { formal = word x; value = v.0 }, v.1, v.2)

  argument_inside : (x : Token) (xs : List Token) (f : Stop) → terminal x ≡ t.Name → 0 < b → (expect t.Assign xs >>= λ rest. expr b 0 rest >>= λ v. Ok (arg_of x v)) ≡ Err f → Completes Anything Args b (x ∷ xs) f
  argument_inside x xs f is pos h =
      behind_token Anything Args b x xs f (expect_then Anything (λ u d. Args (x ∷ u) d) b t.Assign (λ e. cc) (λ rest. expr b 0 rest >>= λ v. Ok (arg_of x v)) xs f (a_assign.token ∷ a_name.token ∷ []) 1 pos (_, g.arg is a_assign.is (g.name a_name.is))
      (λ y rest sign bad. one_by_one NoName (λ u d. Args (x ∷ y ∷ u) d) b (expr b 0 rest) (λ v. Ok (arg_of x v)) rest f
      (λ bad'. as_last NoName (λ u d. Args (x ∷ y ∷ u) d) b (Exprs 0) b (λ d. d) (λ d le. le) (λ w d l. (_, g.arg is sign l.1)) rest f (value_fails b rest f pos bad'))
      (λ v good bad'. absurd (never_both (arg_of x v) f bad')) bad) h)

  -- at the first token of an argument, or behind it
  argument_err : (ts : List Token) (f : Stop) (P : Type 0) → ((syntax, ts) ≡ f → P) → ((x : Token) (xs : List Token) → ts ≡ x ∷ xs → terminal x ≡ t.Name → b ≡ 0 → (too_deep, ts) ≡ f → P)
      → ((x : Token) (xs : List Token) → ts ≡ x ∷ xs → 0 < b → Completes Anything Args b (x ∷ xs) f → P) → argument b ts ≡ Err f → P
  unfolding argument
  argument_err [] f P at deep later h = at (fault_is {A = Read Arg} (syntax, []) f h)
  argument_err (x ∷ xs) f P at deep later h =
      tested (same (terminal x) t.Name) (room b (x ∷ xs) >> (expect t.Assign xs >>= λ rest. expr b 0 rest >>= λ v. Ok (arg_of x v))) (syntax, x ∷ xs) f P
      (λ is h'. (let name = same_is (terminal x) t.Name is in
      elim (bind_err (room b (x ∷ xs)) (λ _. expect t.Assign xs >>= λ rest. expr b 0 rest >>= λ v. done (arg_of x v)) f h') [
        | inl bad ↦ (let r = room_err b (x ∷ xs) f bad in deep x xs refl name r.0 r.1)
        | inr y ↦ (let pos = room_found b (x ∷ xs) y.0 y.1 in later x xs refl pos (argument_inside x xs f name pos y.2))
      ])) at h

  argument_completes : 0 < b → (ts : List Token) (f : Stop) → argument b ts ≡ Err f → Completes Anything Args b ts f
  argument_completes pos ts f h =
      argument_err ts f (Completes Anything Args b ts f)
      (λ is. completes_along Anything Args b ts ts (syntax, ts) f refl is (stop_here Anything Args b ts (a_name.token ∷ a_assign.token ∷ a_name.token ∷ []) 1 pos an_argument))
      (λ x xs parts is none full. absurd (omega (arith, pos, none)))
      (λ x xs parts some c. completes_along Anything Args b (x ∷ xs) ts f f (sym parts) refl c) h

  argument_takes : (ts : List Token) (r : Read Arg) → argument b ts ≡ Ok r → Takes Args b ts r.2
  argument_takes ts r h = takes IsArg b ts r (argument_sound b ts r h)

  -- ---- calls and assignments: behind the name w and a sign

  module _ (w x : Token) (name : terminal w ≡ t.Name) where
    abbrev L : Language
    L = λ u d. Stmts (w ∷ x ∷ u) d

    abbrev made_call : Read (List Arg) → List Token → Read Stmt
    made_call xs rest = (s.Call (word w) xs.0, xs.1 + 1, rest)

    list_fails : (ts : List Token) (f : Stop) → terminal x ≡ t.Open → list_of (argument b) ts ≡ Err f → Completes NoName L (suc b) ts f
    unfolding parted
    list_fails ts f opens h =
        elim (room_for b) [
          | inl pos ↦ inside NoName L (suc b) ArgLists b suc (λ d le. omega arith) (a_close.token ∷ a_semicolon.token ∷ []) (λ v d l. (_, g.calls a_close.token a_semicolon.token name opens l.1 a_close.is a_semicolon.is)) ts f
              (parted_completes (argument b) Args ArgLists b (λ v d m. (_, g.one_arg m.1)) also_argument argument_takes (λ us f bad. whatever NoName Args b us f (argument_completes pos us f bad)) (length ts + 1) [] 0 ts f (omega arith) h)
          | inr none ↦ elim (bind_err (argument b ts) (λ y. cond (sees t.Comma y.2) (parted (argument b) (length ts) ([] ++ y.0 ∷ []) (max 0 y.1) (drop 1 y.2)) (expect t.Close y.2 >>= λ rest. done ([] ++ y.0 ∷ [], max 0 y.1, rest))) f (subst (λ (i : ℕ). parted (argument b) i [] 0 ts ≡ Err f) (add-one (length ts)) h)) [
            | inl bad ↦ argument_err ts f (Completes NoName L (suc b) ts f)
                (λ is. completes_along NoName L (suc b) ts ts (syntax, ts) f refl is (stop_here NoName L (suc b) ts (a_close.token ∷ a_semicolon.token ∷ []) 1 (omega arith) (_, g.calls_bare name opens a_close.is a_semicolon.is)))
                (λ y ys parts is full deep. completes_along NoName L (suc b) (y ∷ ys) ts (too_deep, y ∷ ys) f (sym parts) (ap (λ (v : List Token). (too_deep, v)) (sym parts) ∙ deep)
                (deep_here NoName L (suc b) y ys (a_close.token ∷ a_semicolon.token ∷ []) 1 (never_told NoName [] y (λ e. (let no' : t.Open ≡ t.Name = sym e ∙ is in cc)) (λ e. (let no' : t.Assign ≡ t.Name = sym e ∙ is in cc))) (omega arith)
                (_, g.calls_bare name opens a_close.is a_semicolon.is) (a_assign.token ∷ a_name.token ∷ a_close.token ∷ a_semicolon.token ∷ []) 2
                (_, g.calls a_close.token a_semicolon.token name opens (g.one_arg (g.arg is a_assign.is (g.name a_name.is))) a_close.is a_semicolon.is)))
                (λ y ys parts pos c. absurd (omega (arith, pos, none))) bad
            | inr y ↦ absurd (let none_read = argument_takes ts y.0 y.1 in omega (arith, none, none_read.within, arg_positive none_read.whole.1))
          ]
        ]
      where
        room_for : (n : ℕ) → (0 < n) ⊎ (n ≡ 0)
        room_for zero = inr refl
        room_for (suc n) = inl (omega arith)

    called_fails : (ts : List Token) (f : Stop) → terminal x ≡ t.Open → called b w ts ≡ Err f → Completes NoName L (suc b) ts f
    unfolding called_with called_bare
    called_fails ts f opens h =
        by_test (sees t.Close ts) (called_bare b w ts) (called_with b w ts) (λ r. r ≡ Err f) (Completes NoName L (suc b) ts f)
        (λ is bad. (let z = sees_found t.Close ts is in
        completes_along NoName L (suc b) (z.token ∷ drop 1 ts) ts f f (sym z.parts) refl
        (behind_token NoName L (suc b) z.token (drop 1 ts) f (expect_then Anything (λ u d. L (z.token ∷ u) d) (suc b) t.Semicolon (λ e. cc) (λ rest. Ok (s.Call (word w) [], 1, rest)) (drop 1 ts) f (a_semicolon.token ∷ []) 1 (omega arith)
        (_, g.calls_bare name opens z.is a_semicolon.is) (λ y rest end' bad'. absurd (never_both (s.Call (word w) [], 1, rest) f bad')) bad))))
        (λ is bad. one_by_one NoName L (suc b) (list_of (argument b) ts) (λ xs. expect t.Semicolon xs.2 >>= λ rest. Ok (made_call xs rest)) ts f
        (λ bad'. list_fails ts f opens bad')
        (λ xs good bad'. (let m = args_sound b ts xs good in
        completes_along NoName L (suc b) (m.tokens ++ m.close ∷ xs.2) ts f f (sym m.parts) refl
        (behind_any NoName L (suc b) m.tokens (m.close ∷ xs.2) f (behind_token Anything (Behind L m.tokens) (suc b) m.close xs.2 f
        (expect_then Anything (λ u d. Behind L m.tokens (m.close ∷ u) d) (suc b) t.Semicolon (λ e. cc) (λ rest. Ok (made_call xs rest)) xs.2 f (a_semicolon.token ∷ []) (suc xs.1) (omega (arith, m.within))
        (_, g.calls m.close a_semicolon.token name opens m.is m.shut a_semicolon.is) (λ y rest end' bad''. absurd (never_both (made_call xs rest) f bad'')) bad'))))) bad) h

    assigned_fails : (ts : List Token) (f : Stop) → terminal x ≡ t.Assign → assigned b w (x ∷ ts) ≡ Err f → Completes Anything Stmts (suc b) (w ∷ x ∷ ts) f
    unfolding assigned
    assigned_fails ts f sign h =
        one_by_one Anything Stmts (suc b) (room_told b w (x ∷ ts)) (λ _. expr b 0 ts >>= λ v. expect t.Semicolon v.2 >>= λ rest. Ok (s.Assign (word w) v.0, v.1 + 1, rest)) (w ∷ x ∷ ts) f
        (λ bad. completes_along Anything Stmts (suc b) (w ∷ x ∷ ts) (w ∷ x ∷ ts) (told_too_deep w, x ∷ ts) f refl (told_err b w (x ∷ ts) f bad).1
        (told_here Anything Stmts (suc b) w x ts (a_open.token ∷ a_close.token ∷ a_semicolon.token ∷ []) 1 name (inr sign) (omega arith) (_, g.calls_bare name a_open.is a_close.is a_semicolon.is)
        (a_name.token ∷ a_semicolon.token ∷ []) 2 (_, g.assigns a_semicolon.token name sign (g.name a_name.is) a_semicolon.is)))
        (λ y good bad. behind_token Anything Stmts (suc b) w (x ∷ ts) f (behind_other Anything (λ u d. Stmts (w ∷ u) d) (suc b) x (λ n. (let no' : t.Assign ≡ t.Name = sym sign ∙ n in cc)) ts f
        (read_then NoName L (suc b) (expr b 0 ts) (λ v. expect t.Semicolon v.2 >>= λ rest. Ok (s.Assign (word w) v.0, v.1 + 1, rest)) ts f
        (λ bad'. inside NoName L (suc b) (Exprs 0) b suc (λ d le. omega arith) (a_semicolon.token ∷ []) (λ v d l. (_, g.assigns a_semicolon.token name sign l.1 a_semicolon.is)) ts f (value_fails b ts f (told_found b w (x ∷ ts) y good) bad'))
        (Exprs 0) b (value_takes b ts)
        (λ v u d l le bad'. expect_then Anything (Behind L u) (suc b) t.Semicolon (λ e. cc) (λ rest. Ok (s.Assign (word w) v.0, v.1 + 1, rest)) v.2 f (a_semicolon.token ∷ []) (suc d) (omega arith) (_, g.assigns a_semicolon.token name sign l.1 a_semicolon.is)
        (λ z rest end' bad''. absurd (never_both (s.Assign (word w) v.0, v.1 + 1, rest) f bad'')) bad') bad))) h

  named_fails : (q : Terminal) (w : Token) (ts : List Token) (f : Stop) → terminal w ≡ t.Name → next ts ≡ q → named_stmt_by b q w ts ≡ Err f → Completes Anything Stmts (suc b) (w ∷ ts) f
  named_fails t.Assign w ts f name is h =
      let o = next_found t.Assign ts (λ e. cc) is in
      completes_along Anything Stmts (suc b) (w ∷ o.token ∷ drop 1 ts) (w ∷ ts) f f (ap (λ (v : List Token). w ∷ v) (sym o.parts)) refl
      (assigned_fails w o.token name (drop 1 ts) f o.is (ap (λ v. assigned b w v) (sym o.parts) ∙ h))
  named_fails t.Open w ts f name is h =
      let o = next_found t.Open ts (λ e. cc) is in
      completes_along Anything Stmts (suc b) (w ∷ o.token ∷ drop 1 ts) (w ∷ ts) f f (ap (λ (v : List Token). w ∷ v) (sym o.parts)) refl
      (behind_token Anything Stmts (suc b) w (o.token ∷ drop 1 ts) f (behind_other Anything (λ u d. Stmts (w ∷ u) d) (suc b) o.token (λ n. (let no' : t.Open ≡ t.Name = sym o.is ∙ n in cc)) (drop 1 ts) f
      (called_fails w o.token name (drop 1 ts) f o.is h)))
  named_fails _ w ts f name is h =
      behind_token Anything Stmts (suc b) w ts f (completes_along Anything (λ u d. Stmts (w ∷ u) d) (suc b) ts ts (syntax, ts) f refl (fault_is {A = Read Stmt} (syntax, ts) f h)
      (stop_here Anything (λ u d. Stmts (w ∷ u) d) (suc b) ts (a_open.token ∷ a_close.token ∷ a_semicolon.token ∷ []) 1 (omega arith) (_, g.calls_bare name a_open.is a_close.is a_semicolon.is)))

  -- ---- IF, WHILE and CASE

  -- a word, a value, a word, parts, a word and a semicolon
  module _ (q z : Terminal) (a_q : Made q) (a_z : Made z) (q_other : q ≡ t.Name → ⊥) (z_other : z ≡ t.Name → ⊥) (x : Token) (begin' : begins_stmt (terminal x) ≡ true) (x_other : terminal x ≡ t.Name → ⊥) (Inner : Language) (nothing : Inner [] 0)
      (whole : (m c e : Token) (xs ys : List Token) (d h : ℕ) → Exprs 0 xs d → terminal m ≡ q → Inner ys h → terminal c ≡ z → terminal e ≡ t.Semicolon → Stmts (x ∷ (xs ++ m ∷ (ys ++ c ∷ e ∷ []))) (suc (max d h))) where
    abbrev ending : List Token
    ending = a_z.token ∷ a_semicolon.token ∷ []

    abbrev H : Language
    H = λ u d. Stmts (x ∷ u) d

    head_fails : (ts : List Token) (f : Stop) → head b q (x ∷ ts) ≡ Err f → Completes Anything Stmts (suc b) (x ∷ ts) f
    unfolding head
    head_fails ts f h =
        one_by_one Anything Stmts (suc b) (room b (x ∷ ts)) (λ _. expr b 0 ts >>= λ v. expect q v.2 >>= λ rest. Ok (v.0, v.1, rest)) (x ∷ ts) f
        (λ bad. completes_along Anything Stmts (suc b) (x ∷ ts) (x ∷ ts) (too_deep, x ∷ ts) f refl (room_err b (x ∷ ts) f bad).1
        (deep_here Anything Stmts (suc b) x ts _ 1 (never_told Anything [] x (begins_other t.Open refl x begin') (begins_other t.Assign refl x begin')) (omega arith) a_call (a_name.token ∷ a_q.token ∷ ending) 2
        (whole a_q.token a_z.token a_semicolon.token (a_name.token ∷ []) [] 1 0 (a_value 0) a_q.is nothing a_z.is a_semicolon.is)))
        (λ y good bad. behind_other Anything Stmts (suc b) x x_other ts f
        (read_then NoName H (suc b) (expr b 0 ts) (λ v. expect q v.2 >>= λ rest. Ok (v.0, v.1, rest)) ts f
        (λ bad'. inside NoName H (suc b) (Exprs 0) b (λ d. suc (max d 0)) (λ d le. omega arith) (a_q.token ∷ ending) (λ w d l. whole a_q.token a_z.token a_semicolon.token w [] d 0 l a_q.is nothing a_z.is a_semicolon.is) ts f
        (value_fails b ts f (room_found b (x ∷ ts) y good) bad'))
        (Exprs 0) b (value_takes b ts)
        (λ v w d l le bad'. expect_then Anything (Behind H w) (suc b) q q_other (λ rest. Ok (v.0, v.1, rest)) v.2 f (a_q.token ∷ ending) (suc (max d 0)) (omega arith) (whole a_q.token a_z.token a_semicolon.token w [] d 0 l a_q.is nothing a_z.is a_semicolon.is)
        (λ m rest mid bad''. absurd (never_both (v.0, v.1, rest) f bad'')) bad') bad)) h

    closed_fails : {B : Type 0} (C : Context) (M : Language) (k : List Token → Out B) (d : ℕ) (us : List Token) (f : Stop) → d ≤ suc b → ((c e : Token) → terminal c ≡ z → terminal e ≡ t.Semicolon → M (c ∷ e ∷ []) d) → ((rest : List Token) → k rest ≡ Err f → ⊥)
        → (closed z us >>= k) ≡ Err f → Completes C M (suc b) us f
    unfolding closed
    closed_fails C M k d us f le end' never h =
        one_by_one C M (suc b) (expect z us >>= λ rest. expect t.Semicolon rest) k us f
        (λ bad. expect_then C M (suc b) z z_other (λ rest. expect t.Semicolon rest) us f ending d le (end' a_z.token a_semicolon.token a_z.is a_semicolon.is)
        (λ c rest shut bad'. completes_along NoName (λ u d. M (c ∷ u) d) (suc b) rest rest (syntax, rest) f refl (expect_err t.Semicolon rest f bad')
        (stop_here NoName (λ u d. M (c ∷ u) d) (suc b) rest (a_semicolon.token ∷ []) d le (end' c a_semicolon.token shut a_semicolon.is))) bad)
        (λ rest good bad. absurd (never rest bad)) h

    module _ {I : Type 0} (inner : Reader I) (takes : (ts : List Token) (r : Read I) → inner ts ≡ Ok r → Takes Inner b ts r.2) (fails : (ts : List Token) (f : Stop) → inner ts ≡ Err f → Completes Anything Inner b ts f) (make : Expr → I → Stmt) where
      abbrev built : Read Expr → Read I → List Token → Read Stmt
      built v ss rest = (make v.0 ss.0, max v.1 ss.1 + 1, rest)

      blocked_fails : (ts : List Token) (f : Stop) → (head b q (x ∷ ts) >>= λ v. inner v.2 >>= λ ss. closed z ss.2 >>= λ rest. Ok (built v ss rest)) ≡ Err f → Completes Anything Stmts (suc b) (x ∷ ts) f
      blocked_fails ts f h =
          one_by_one Anything Stmts (suc b) (head b q (x ∷ ts)) (λ v. inner v.2 >>= λ ss. closed z ss.2 >>= λ rest. Ok (built v ss rest)) (x ∷ ts) f (head_fails ts f)
          (λ v good bad. (let m = head_sound b q x ts v good in
          let M : Language = λ u d. Stmts (x ∷ (m.value ++ m.middle ∷ u)) d in
          completes_along Anything Stmts (suc b) (x ∷ (m.value ++ m.middle ∷ v.2)) (x ∷ ts) f f (ap (λ (w : List Token). x ∷ w) (sym m.parts)) refl
          (behind_token Anything Stmts (suc b) x (m.value ++ m.middle ∷ v.2) f (behind_any Anything H (suc b) m.value (m.middle ∷ v.2) f (behind_token Anything (Behind H m.value) (suc b) m.middle v.2 f
          (read_then Anything M (suc b) (inner v.2) (λ ss. closed z ss.2 >>= λ rest. Ok (built v ss rest)) v.2 f
          (λ bad'. inside Anything M (suc b) Inner b (λ d. suc (max v.1 d)) (λ d le. omega (arith, m.within)) ending (λ w d l. whole m.middle a_z.token a_semicolon.token m.value w v.1 d (v.0, m.is) m.mid l a_z.is a_semicolon.is) v.2 f (fails v.2 f bad'))
          Inner b (takes v.2)
          (λ ss w d l le bad'. closed_fails Anything (Behind M w) (λ rest. Ok (built v ss rest)) (suc (max v.1 d)) ss.2 f (omega (arith, m.within)) (λ c e shut end'. whole m.middle c e m.value w v.1 d (v.0, m.is) m.mid l shut end')
          (λ rest bad''. never_both (built v ss rest) f bad'') bad') bad)))))) h

  -- ---- arms and statements

  module _ (inner : Reader (List Stmt)) (sound : (ts : List Token) (r : Read (List Stmt)) → inner ts ≡ Ok r → Took AreStmts b ts r) (fails : (ts : List Token) (f : Stop) → inner ts ≡ Err f → Completes Anything StmtLists b ts f)
      (eats : Eats (arm inner)) where
    abbrev arm_of : Token → Read (List Stmt) → Read Arm
    arm_of l ss = (record { label = label l; span = l.span; body = ss.0 }, ss.1, ss.2)

    arm_whole : (l c : Token) (w : List Token) (ss : List Stmt) (d : ℕ) → terminal l ≡ t.Digits → terminal c ≡ t.Colon → AreStmts w ss d → Arms (l ∷ c ∷ w) d
    arm_whole l c w ss d digits sign i = (_, record { label = l; colon = c; behind = w; stmts = ss; digits = digits; sign = sign; parts = refl; value = refl; whole = i })

    arm_at_once : (ts : List Token) (f : Stop) → (syntax, ts) ≡ f → Completes Anything Arms b ts f
    arm_at_once ts f is = completes_along Anything Arms b ts ts (syntax, ts) f refl is (stop_here Anything Arms b ts (a_digits.token ∷ a_colon.token ∷ []) 0 (omega arith) (arm_whole a_digits.token a_colon.token [] [] 0 a_digits.is a_colon.is g.no_stmt))

    arm_fails : (ts : List Token) (f : Stop) → arm inner ts ≡ Err f → Completes Anything Arms b ts f
    unfolding arm
    arm_fails [] f h = arm_at_once [] f (fault_is {A = Read Arm} (syntax, []) f h)
    arm_fails (l ∷ ts) f h =
        tested (same (terminal l) t.Digits) (expect t.Colon ts >>= λ rest. inner rest >>= λ ss. Ok (arm_of l ss)) (syntax, l ∷ ts) f (Completes Anything Arms b (l ∷ ts) f)
        (λ is bad. (let digits = same_is (terminal l) t.Digits is in
        behind_token Anything Arms b l ts f (expect_then Anything (λ u d. Arms (l ∷ u) d) b t.Colon (λ e. cc) (λ rest. inner rest >>= λ ss. Ok (arm_of l ss)) ts f (a_colon.token ∷ []) 0 (omega arith) (arm_whole l a_colon.token [] [] 0 digits a_colon.is g.no_stmt)
        (λ m rest sign bad'. one_by_one NoName (λ u d. Arms (l ∷ m ∷ u) d) b (inner rest) (λ ss. Ok (arm_of l ss)) rest f
        (λ bad''. whatever NoName (λ u d. Arms (l ∷ m ∷ u) d) b rest f (as_last Anything (λ u d. Arms (l ∷ m ∷ u) d) b StmtLists b (λ d. d) (λ d le. le) (λ w d r. arm_whole l m w r.0 d digits sign r.1) rest f (fails rest f bad'')))
        (λ ss good bad''. absurd (never_both (arm_of l ss) f bad'')) bad') bad)))
        (arm_at_once (l ∷ ts) f) h

    kind_fails : (q : Terminal) (x : Token) (ts : List Token) (f : Stop) → terminal x ≡ q → statement_by b inner q x ts ≡ Err f → Completes Anything Stmts (suc b) (x ∷ ts) f
    unfolding conditional repeated selected
    kind_fails t.Name x ts f is h = named_fails (next ts) x ts f is refl h
    kind_fails t.If x ts f is h =
        blocked_fails t.Then t.EndIf a_then a_end_if (λ e. cc) (λ e. cc) x (ap begins_stmt is) (λ n. (let no' : t.If ≡ t.Name = sym is ∙ n in cc)) StmtLists (_, g.no_stmt) (λ m c e xs ys d h v mid l shut end'. (_, g.chooses m c e is v.1 mid l.1 shut end'))
        inner (λ us r good. takes AreStmts b us r (sound us r good)) fails (λ v ss. s.If v ss) ts f h
    kind_fails t.While x ts f is h =
        blocked_fails t.Do t.EndWhile a_do a_end_while (λ e. cc) (λ e. cc) x (ap begins_stmt is) (λ n. (let no' : t.While ≡ t.Name = sym is ∙ n in cc)) StmtLists (_, g.no_stmt) (λ m c e xs ys d h v mid l shut end'. (_, g.repeats m c e is v.1 mid l.1 shut end'))
        inner (λ us r good. takes AreStmts b us r (sound us r good)) fails (λ v ss. s.While v ss) ts f h
    kind_fails t.Case x ts f is h =
        blocked_fails t.Of t.EndCase a_of a_end_case (λ e. cc) (λ e. cc) x (ap begins_stmt is) (λ n. (let no' : t.Case ≡ t.Name = sym is ∙ n in cc)) ArmLists (_, g.no_arm) (λ m c e xs ys d h v mid l shut end'. (_, g.selects m c e is v.1 mid l.1 shut end'))
        (λ us. all_of is_digits (arm inner) us) (λ us r good. takes AreArms b us r (arms_sound b inner sound us r good))
        (λ us f bad. several_completes is_digits (arm inner) Arms ArmLists b (_, g.no_arm) also_arms (λ vs y _ fine. takes OneArm b vs y (arm_sound b inner sound vs y fine)) eats (λ vs f _ bad'. arm_fails vs f bad') (length us + 1) [] 0 us f (omega arith) bad)
        (λ v arms. s.Case v arms) ts f h
    kind_fails _ x ts f is h =
        completes_along Anything Stmts (suc b) (x ∷ ts) (x ∷ ts) (syntax, x ∷ ts) f refl (fault_is {A = Read Stmt} (syntax, x ∷ ts) f h) (stop_here Anything Stmts (suc b) (x ∷ ts) _ 1 (omega arith) a_call)

    statement_of_fails : (ts : List Token) (f : Stop) → statement_of b inner ts ≡ Err f → Completes Anything Stmts (suc b) ts f
    unfolding statement_of
    statement_of_fails [] f h = completes_along Anything Stmts (suc b) [] [] (syntax, []) f refl (fault_is {A = Read Stmt} (syntax, []) f h) (stop_here Anything Stmts (suc b) [] _ 1 (omega arith) a_call)
    statement_of_fails (x ∷ ts) f h = kind_fails (terminal x) x ts f refl h

-- ---- all together

-- no room for a statement
full_fails : (n : ℕ) (found : List Stmt) (depth : ℕ) (ts : List Token) (f : Stop) → length ts < n → several begins_stmt (statement zero) n found depth ts ≡ Err f → Completes Anything StmtLists zero ts f
unfolding several statement
full_fails zero found depth ts f lt h = absurd (omega arith)
full_fails (suc n) found depth [] f lt h = absurd cc
full_fails (suc n) found depth (x ∷ ts) f lt h =
    by_test (begins_stmt (terminal x)) (refuse (too_deep, x ∷ ts)) (done (found, depth, x ∷ ts)) (λ r. r ≡ Err f) (Completes Anything StmtLists zero (x ∷ ts) f)
    (λ is bad. (let m = begun_by (terminal x) x refl is in
    completes_along Anything StmtLists zero (x ∷ ts) (x ∷ ts) (too_deep, x ∷ ts) f refl (fault_is {A = Read (List Stmt)} (too_deep, x ∷ ts) f bad)
    (deep_here Anything StmtLists zero x ts [] 0 (never_told Anything [] x (begins_other t.Open refl x is) (begins_other t.Assign refl x is)) (omega arith) (_, g.no_stmt) (m.0 ++ []) (max m.1 0) (also_stmt (x ∷ m.0) [] m.1 0 m.2 (_, g.no_stmt)))))
    (λ is bad. absurd (never_both (found, depth, x ∷ ts) f bad)) h

stmt_fails : (b : ℕ) → ((ts : List Token) (f : Stop) → all_of begins_stmt (statement b) ts ≡ Err f → Completes Anything StmtLists b ts f) → (ts : List Token) (f : Stop) → statement (suc b) ts ≡ Err f → Completes Anything Stmts (suc b) ts f
unfolding statement
stmt_fails b fails ts f h = statement_of_fails b (λ us. all_of begins_stmt (statement b) us) (statements_sound b) fails (arms_eat b) ts f h

pub stmts_completes : (b : ℕ) (ts : List Token) (f : Stop) → all_of begins_stmt (statement b) ts ≡ Err f → Completes Anything StmtLists b ts f
stmts_completes zero ts f h = full_fails (length ts + 1) [] 0 ts f (omega arith) h
stmts_completes (suc b) ts f h =
    several_completes begins_stmt (statement (suc b)) Stmts StmtLists (suc b) (_, g.no_stmt) also_stmt (λ vs y _ fine. takes IsStmt (suc b) vs y (statement_sound (suc b) vs y fine)) (good (suc b)).eats (λ vs g' _ bad. stmt_fails b (stmts_completes b) vs g' bad) (length ts + 1) [] 0 ts f (omega arith) h
