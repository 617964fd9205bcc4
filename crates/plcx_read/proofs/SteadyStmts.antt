-- The readers of statements are steady.
use Rattle.std.proofs.Common.{◌≡◌, ℕ, zero, suc, ◌+◌, ◌≤◌, max, cond, List, [], ◌∷◌, length, drop, Result, Ok, Err, refl, sym, ◌∙◌, arith}
use Rattle.plcx_lex.specs.Token.{Token}
use Rattle.plcx_lex.specs.declared.terminal.Terminal.{Terminal}
use Rattle.plcx_lex.specs.declared.terminal.Terminal.TheVariants as t
use Rattle.plcx_lex.specs.Terminal.{terminal}
use Rattle.plcx_st.specs.Grammar.{word, label}
use Rattle.plcx_st.specs.declared.tree.Expr.{Expr}
use Rattle.plcx_st.specs.declared.tree.Arg.{Arg}
use Rattle.plcx_st.specs.declared.tree.Arm.{Arm}
use Rattle.plcx_st.specs.declared.tree.Stmt.{Stmt}
use Rattle.plcx_st.specs.declared.tree.Stmt.TheVariants as s
use Rattle.plcx_read.specs.Reading.{Stop, syntax, too_deep, Out, Read, ◌>>=◌, ◌>>◌, same, next, expect, room, all_of, list_of, expr, begins_stmt, is_digits, closed, assigned, argument, called_with, called_bare, called, named_stmt_by, head, conditional, repeated, arm, selected, statement_by, statement_of, statement}
use Rattle.plcx_read.proofs.Steady.{Reader, done, bind_ok, never_both, chosen, Steady, steady_pure, steady_fail, steady_deep, steady_bind, steady_skip, steady_alike, steady_choose, steady_next, steady_first, steady_sees, steady_expect, steady_room, steady_told}
use Rattle.plcx_read.proofs.SteadyLoops.{Eats, Leaves, leaves, steady_list, steady_all}
use Rattle.plcx_read.proofs.SteadyExprs.{steady_expr}

regroup : {A B C : Type 0} (r : Result A Stop) (f : A → Result B Stop) (g : B → Result C Stop) → ((r >>= f) >>= g) ≡ (r >>= λ x. f x >>= g)
regroup (Ok x) f g = refl
regroup (Err d) f g = refl

pub steady_closed : {A : Type 0} (even : Type 0) (q : Terminal) (p p' : Reader A) → Steady even p p' → Steady even (λ ts. closed q ts >>= p) (λ ts. closed q ts >>= p')
unfolding closed
steady_closed even q p p' inside =
    steady_alike even (λ ts. closed q ts >>= p) (λ ts. expect q ts >>= λ rest. expect t.Semicolon rest >>= p) (λ ts. closed q ts >>= p') (λ ts. expect q ts >>= λ rest. expect t.Semicolon rest >>= p')
    (λ ts. regroup (expect q ts) (expect t.Semicolon) p) (λ ts. regroup (expect q ts) (expect t.Semicolon) p')
    (steady_expect even q (λ rest. expect t.Semicolon rest >>= p) (λ rest. expect t.Semicolon rest >>= p') (steady_expect even t.Semicolon p p' inside))

-- a reader behind a name
argument_kind : ℕ → Token → Reader Arg
argument_kind b x ts = cond (same (terminal x) t.Name) (room b ts >> (expect t.Assign (drop 1 ts) >>= λ rest. expr b 0 rest >>= λ v. Ok (record { formal = word x; value = v.0 }, v.1, v.2))) (Err (syntax, ts))

argument_none : (b : ℕ) → argument b [] ≡ Err (syntax, [])
unfolding argument
argument_none b = refl

argument_some : (b : ℕ) (x : Token) (ts : List Token) → argument b (x ∷ ts) ≡ argument_kind b x (x ∷ ts)
unfolding argument argument_kind
argument_some b x ts = refl

arm_kind : (List Token → Out (List Stmt)) → Token → Reader Arm
arm_kind inner l ts = cond (same (terminal l) t.Digits) (expect t.Colon (drop 1 ts) >>= λ rest. inner rest >>= λ ss. Ok (record { label = label l; span = l.span; body = ss.0 }, ss.1, ss.2)) (Err (syntax, ts))

arm_none : (b : ℕ) (inner : List Token → Out (List Stmt)) → arm inner [] ≡ Err (syntax, [])
unfolding arm
arm_none b inner = refl

arm_some : (b : ℕ) (inner : List Token → Out (List Stmt)) (x : Token) (ts : List Token) → arm inner (x ∷ ts) ≡ arm_kind inner x (x ∷ ts)
unfolding arm arm_kind
arm_some b inner x ts = refl

abbrev statement_kind : (b : ℕ) → (List Token → Out (List Stmt)) → Terminal → Token → Reader Stmt
statement_kind b inner t.Name x ts = named_stmt_by b (next (drop 1 ts)) x (drop 1 ts)
statement_kind b inner t.If x ts = conditional b inner ts
statement_kind b inner t.While x ts = repeated b inner ts
statement_kind b inner t.Case x ts = selected b inner ts
statement_kind b inner _ x ts = Err (syntax, ts)

kind_alike : (b : ℕ) (inner : List Token → Out (List Stmt)) (q : Terminal) (x : Token) (ts : List Token) → statement_by b inner q x ts ≡ statement_kind b inner q x (x ∷ ts)
kind_alike b inner t.Name x ts = refl
kind_alike b inner _ x ts = refl

statement_none : (b : ℕ) (inner : List Token → Out (List Stmt)) → statement_of b inner [] ≡ Err (syntax, [])
unfolding statement_of
statement_none b inner = refl

statement_some : (b : ℕ) (inner : List Token → Out (List Stmt)) (x : Token) (ts : List Token) → statement_of b inner (x ∷ ts) ≡ statement_kind b inner (terminal x) x (x ∷ ts)
unfolding statement_of
statement_some b inner x ts = kind_alike b inner (terminal x) x ts

module _ (even : Type 0) (b b' : ℕ) (le : b ≤ b') (tie : even → b ≡ b') where
  each : (least : ℕ) → Steady even (expr b least) (expr b' least)
  each = steady_expr even b b' le tie

  argument_steady : (x : Token) → Steady even (argument_kind b x) (argument_kind b' x)
  unfolding argument_kind
  argument_steady x =
      steady_choose even (same (terminal x) t.Name) _ _ _ _
      (steady_room even b b' le tie _ _ (steady_skip even _ _ (steady_expect even t.Assign _ _ (steady_bind even (expr b 0) (expr b' 0) (λ v d us. Ok (record { formal = word x; value = v }, d, us)) (λ v d us. Ok (record { formal = word x; value = v }, d, us))
      (each 0) (λ v d. steady_pure even (record { formal = word x; value = v }) d)))))
      (steady_fail even)

  pub steady_argument : Steady even (argument b) (argument b')
  steady_argument = steady_first even (argument b) (argument b') (argument_kind b) (argument_kind b') (argument_none b) (argument_none b') (argument_some b) (argument_some b') argument_steady

pub argument_leaves : (b : ℕ) → Leaves (argument b)
argument_leaves b = leaves ⊥ (argument b) (argument b) (steady_argument ⊥ b b (omega arith) (λ is. refl))

module _ (even : Type 0) (b b' : ℕ) (le : b ≤ b') (tie : even → b ≡ b') where
  assigned_steady : (w : Token) → Steady even (assigned b w) (assigned b' w)
  unfolding assigned
  assigned_steady w =
      steady_told even b b' le tie _ _ (steady_bind even (λ ts. expr b 0 (drop 1 ts)) (λ ts. expr b' 0 (drop 1 ts))
      (λ v d us. expect t.Semicolon us >>= λ rest. Ok (s.Assign (word w) v, d + 1, rest)) (λ v d us. expect t.Semicolon us >>= λ rest. Ok (s.Assign (word w) v, d + 1, rest))
      (steady_skip even (expr b 0) (expr b' 0) (each even b b' le tie 0)) (λ v d. steady_expect even t.Semicolon _ _ (steady_pure even (s.Assign (word w) v) (d + 1)))) w

  bare_steady : (w : Token) → Steady even (called_bare b w) (called_bare b' w)
  unfolding called_bare
  bare_steady w = steady_skip even _ _ (steady_expect even t.Semicolon _ _ (steady_pure even (s.Call (word w) []) 1))

  with_steady : (w : Token) → Steady even (called_with b w) (called_with b' w)
  unfolding called_with
  with_steady w =
      steady_bind even (λ ts. list_of (argument b) ts) (λ ts. list_of (argument b') ts)
      (λ v d us. expect t.Semicolon us >>= λ rest. Ok (s.Call (word w) v, d + 1, rest)) (λ v d us. expect t.Semicolon us >>= λ rest. Ok (s.Call (word w) v, d + 1, rest))
      (steady_list even (argument b) (argument b') (steady_argument even b b' le tie) (argument_leaves b) (argument_leaves b'))
      (λ v d. steady_expect even t.Semicolon _ _ (steady_pure even (s.Call (word w) v) (d + 1)))

  named_steady : (w : Token) (q : Terminal) → Steady even (named_stmt_by b q w) (named_stmt_by b' q w)
  named_steady w t.Assign = assigned_steady w
  named_steady w t.Open = steady_skip even (called b w) (called b' w) (steady_sees even t.Close _ _ (bare_steady w) _ _ (with_steady w))
  named_steady w _ = steady_fail even

  head_steady : (q : Terminal) → Steady even (head b q) (head b' q)
  unfolding head
  head_steady q =
      steady_room even b b' le tie _ _ (steady_bind even (λ ts. expr b 0 (drop 1 ts)) (λ ts. expr b' 0 (drop 1 ts)) (λ v d us. expect q us >>= λ rest. Ok (v, d, rest)) (λ v d us. expect q us >>= λ rest. Ok (v, d, rest))
      (steady_skip even (expr b 0) (expr b' 0) (each even b b' le tie 0)) (λ v d. steady_expect even q _ _ (steady_pure even v d)))

  module _ (inner inner' : List Token → Out (List Stmt)) (parts : Steady even inner inner') where
    -- a word, a value, statements and the closing words
    blocked : (q z : Terminal) (make : Expr → List Stmt → Stmt)
        → Steady even (λ ts. head b q ts >>= λ x. inner x.2 >>= λ ss. closed z ss.2 >>= λ rest. Ok (make x.0 ss.0, max x.1 ss.1 + 1, rest)) (λ ts. head b' q ts >>= λ x. inner' x.2 >>= λ ss. closed z ss.2 >>= λ rest. Ok (make x.0 ss.0, max x.1 ss.1 + 1, rest))
    blocked q z make =
        steady_bind even (head b q) (head b' q)
        (λ v d us. inner us >>= λ ss. closed z ss.2 >>= λ rest. Ok (make v ss.0, max d ss.1 + 1, rest)) (λ v d us. inner' us >>= λ ss. closed z ss.2 >>= λ rest. Ok (make v ss.0, max d ss.1 + 1, rest)) (head_steady q)
        (λ v d. steady_bind even inner inner' (λ ss c us. closed z us >>= λ rest. Ok (make v ss, max d c + 1, rest)) (λ ss c us. closed z us >>= λ rest. Ok (make v ss, max d c + 1, rest)) parts
        (λ ss c. steady_closed even z _ _ (steady_pure even (make v ss) (max d c + 1))))

    conditional_steady : Steady even (conditional b inner) (conditional b' inner')
    unfolding conditional
    conditional_steady = blocked t.Then t.EndIf (λ v ss. s.If v ss)

    repeated_steady : Steady even (repeated b inner) (repeated b' inner')
    unfolding repeated
    repeated_steady = blocked t.Do t.EndWhile (λ v ss. s.While v ss)

    arm_steady : (l : Token) → Steady even (arm_kind inner l) (arm_kind inner' l)
    unfolding arm_kind
    arm_steady l =
        steady_choose even (same (terminal l) t.Digits) _ _ _ _
        (steady_skip even _ _ (steady_expect even t.Colon _ _ (steady_bind even inner inner' (λ v d us. Ok (record { label = label l; span = l.span; body = v }, d, us)) (λ v d us. Ok (record { label = label l; span = l.span; body = v }, d, us))
        parts (λ v d. steady_pure even (record { label = label l; span = l.span; body = v }) d))))
        (steady_fail even)

    pub steady_arm : Steady even (arm inner) (arm inner')
    steady_arm = steady_first even (arm inner) (arm inner') (arm_kind inner) (arm_kind inner') (arm_none b inner) (arm_none b' inner') (arm_some b inner) (arm_some b' inner') arm_steady

    module _ (eats : Eats (arm inner)) (eats' : Eats (arm inner')) where
      selected_steady : Steady even (selected b inner) (selected b' inner')
      unfolding selected
      selected_steady =
          steady_bind even (head b t.Of) (head b' t.Of)
          (λ v d us. all_of is_digits (arm inner) us >>= λ arms. closed t.EndCase arms.2 >>= λ rest. Ok (s.Case v arms.0, max d arms.1 + 1, rest))
          (λ v d us. all_of is_digits (arm inner') us >>= λ arms. closed t.EndCase arms.2 >>= λ rest. Ok (s.Case v arms.0, max d arms.1 + 1, rest)) (head_steady t.Of)
          (λ v d. steady_bind even (λ ts. all_of is_digits (arm inner) ts) (λ ts. all_of is_digits (arm inner') ts) (λ arms c us. closed t.EndCase us >>= λ rest. Ok (s.Case v arms, max d c + 1, rest)) (λ arms c us. closed t.EndCase us >>= λ rest. Ok (s.Case v arms, max d c + 1, rest))
          (steady_all even is_digits (arm inner) (arm inner') steady_arm eats eats')
          (λ arms c. steady_closed even t.EndCase _ _ (steady_pure even (s.Case v arms) (max d c + 1))))

      kind_steady : (q : Terminal) (x : Token) → Steady even (statement_kind b inner q x) (statement_kind b' inner' q x)
      kind_steady t.Name x = steady_skip even (λ ts. named_stmt_by b (next ts) x ts) (λ ts. named_stmt_by b' (next ts) x ts) (steady_next even (λ q. named_stmt_by b q x) (λ q. named_stmt_by b' q x) (named_steady x))
      kind_steady t.If x = conditional_steady
      kind_steady t.While x = repeated_steady
      kind_steady t.Case x = selected_steady
      kind_steady _ x = steady_fail even

      pub steady_statement_of : Steady even (statement_of b inner) (statement_of b' inner')
      steady_statement_of =
          steady_first even (statement_of b inner) (statement_of b' inner') (λ x. statement_kind b inner (terminal x) x) (λ x. statement_kind b' inner' (terminal x) x)
          (statement_none b inner) (statement_none b' inner') (statement_some b inner) (statement_some b' inner') (λ x. kind_steady (terminal x) x)

-- ---- statements and arms take something

module _ (b : ℕ) where
  abbrev one_level : b ≤ b
  one_level = omega arith

  head_takes : (q : Terminal) (x : Token) (xs : List Token) (r : Read Expr) → head b q (x ∷ xs) ≡ Ok r → length r.2 ≤ length xs
  unfolding head
  head_takes q x xs r h =
      let behind = bind_ok (room b (x ∷ xs)) (λ _. expr b 0 xs >>= λ v. expect q v.2 >>= λ rest. done (v.0, v.1, rest)) r h in
      let s = steady_bind ⊥ (expr b 0) (expr b 0) (λ v d us. expect q us >>= λ rest. Ok (v, d, rest)) (λ v d us. expect q us >>= λ rest. Ok (v, d, rest)) (each ⊥ b b one_level (λ is. refl) 0) (λ v d. steady_expect ⊥ q _ _ (steady_pure ⊥ v d)) in
      leaves ⊥ _ _ s xs r behind.2

  module _ (inner : List Token → Out (List Stmt)) (parts : Steady ⊥ inner inner) where
    blocked_takes : (q z : Terminal) (make : Expr → List Stmt → Stmt) (x : Token) (xs : List Token) (r : Read Stmt)
        → (head b q (x ∷ xs) >>= λ v. inner v.2 >>= λ ss. closed z ss.2 >>= λ rest. Ok (make v.0 ss.0, max v.1 ss.1 + 1, rest)) ≡ Ok r → length r.2 ≤ length xs
    blocked_takes q z make x xs r h =
        let y = bind_ok (head b q (x ∷ xs)) (λ v. inner v.2 >>= λ ss. closed z ss.2 >>= λ rest. done (make v.0 ss.0, max v.1 ss.1 + 1, rest)) r h in
        let v : Read Expr = y.0 in
        let s = steady_bind ⊥ inner inner (λ ss c us. closed z us >>= λ rest. Ok (make v.0 ss, max v.1 c + 1, rest)) (λ ss c us. closed z us >>= λ rest. Ok (make v.0 ss, max v.1 c + 1, rest)) parts (λ ss c. steady_closed ⊥ z _ _ (steady_pure ⊥ (make v.0 ss) (max v.1 c + 1))) in
        omega (arith, head_takes q x xs v y.1, leaves ⊥ _ _ s v.2 r y.2)

    arm_takes : (l : Token) (ts : List Token) (r : Read Arm) → arm inner (l ∷ ts) ≡ Ok r → length r.2 ≤ length ts
    unfolding arm
    arm_takes l ts r h =
        let g = chosen (same (terminal l) t.Digits) (expect t.Colon ts >>= λ rest. inner rest >>= λ ss. Ok (record { label = label l; span = l.span; body = ss.0 }, ss.1, ss.2)) (syntax, l ∷ ts) r h in
        let s = steady_expect ⊥ t.Colon _ _ (steady_bind ⊥ inner inner (λ v d us. Ok (record { label = label l; span = l.span; body = v }, d, us)) (λ v d us. Ok (record { label = label l; span = l.span; body = v }, d, us)) parts (λ v d. steady_pure ⊥ (record { label = label l; span = l.span; body = v }) d)) in
        leaves ⊥ _ _ s ts r g

    arm_eats : Eats (arm inner)
    arm_eats [] r h = absurd (never_both r (syntax, []) (sym h ∙ arm_none b inner))
    arm_eats (l ∷ ts) r h = omega (arith, arm_takes l ts r h)

    selected_takes : (x : Token) (xs : List Token) (r : Read Stmt) → selected b inner (x ∷ xs) ≡ Ok r → length r.2 ≤ length xs
    unfolding selected
    selected_takes x xs r h =
        let y = bind_ok (head b t.Of (x ∷ xs)) (λ v. all_of is_digits (arm inner) v.2 >>= λ arms. closed t.EndCase arms.2 >>= λ rest. done (s.Case v.0 arms.0, max v.1 arms.1 + 1, rest)) r h in
        let v : Read Expr = y.0 in
        let st = steady_bind ⊥ (λ ts. all_of is_digits (arm inner) ts) (λ ts. all_of is_digits (arm inner) ts) (λ arms c us. closed t.EndCase us >>= λ rest. Ok (s.Case v.0 arms, max v.1 c + 1, rest)) (λ arms c us. closed t.EndCase us >>= λ rest. Ok (s.Case v.0 arms, max v.1 c + 1, rest))
        (steady_all ⊥ is_digits (arm inner) (arm inner) (steady_arm ⊥ b b one_level (λ is. refl) inner inner parts) arm_eats arm_eats) (λ arms c. steady_closed ⊥ t.EndCase _ _ (steady_pure ⊥ (s.Case v.0 arms) (max v.1 c + 1))) in
        omega (arith, head_takes t.Of x xs v y.1, leaves ⊥ _ _ st v.2 r y.2)

    named_takes : (q : Terminal) (x : Token) (xs : List Token) (r : Read Stmt) → named_stmt_by b q x xs ≡ Ok r → length r.2 ≤ length xs
    named_takes q x xs r h = leaves ⊥ _ _ (named_steady ⊥ b b one_level (λ is. refl) x q) xs r h

    kind_takes : (q : Terminal) (x : Token) (xs : List Token) (r : Read Stmt) → statement_by b inner q x xs ≡ Ok r → length r.2 ≤ length xs
    unfolding conditional repeated
    kind_takes t.Name x xs r h = named_takes (next xs) x xs r h
    kind_takes t.If x xs r h = blocked_takes t.Then t.EndIf (λ v ss. s.If v ss) x xs r h
    kind_takes t.While x xs r h = blocked_takes t.Do t.EndWhile (λ v ss. s.While v ss) x xs r h
    kind_takes t.Case x xs r h = selected_takes x xs r h
    kind_takes _ x xs r h = absurd (never_both r (syntax, x ∷ xs) (sym h))

    statement_of_eats : Eats (statement_of b inner)
    unfolding statement_of
    statement_of_eats [] r h = absurd (never_both r (syntax, []) (sym h))
    statement_of_eats (x ∷ xs) r h = omega (arith, kind_takes (terminal x) x xs r h)

pub record Good (b : ℕ) : Type 0 where
  pub eats : Eats (statement b)
  pub alone : Steady ⊥ (statement b) (statement b)

pub good : (b : ℕ) → Good b
unfolding statement
good zero = record { eats = λ ts x h. absurd (never_both x (too_deep, ts) (sym h)); alone = steady_deep ⊥ (λ ts. Err (too_deep, ts)) (λ is ts. refl) }
good (suc b) =
    let below = good b in
    let parts : Steady ⊥ (λ ts. all_of begins_stmt (statement b) ts) (λ ts. all_of begins_stmt (statement b) ts) = steady_all ⊥ begins_stmt (statement b) (statement b) below.alone below.eats below.eats in
    let arms = arm_eats b (λ ts. all_of begins_stmt (statement b) ts) parts in
    record {
      eats = statement_of_eats b (λ ts. all_of begins_stmt (statement b) ts) parts;
      alone = steady_statement_of ⊥ b b (omega arith) (λ is. refl) (λ ts. all_of begins_stmt (statement b) ts) (λ ts. all_of begins_stmt (statement b) ts) parts arms arms;
    }

pub statements_alone : (b : ℕ) → Steady ⊥ (λ ts. all_of begins_stmt (statement b) ts) (λ ts. all_of begins_stmt (statement b) ts)
statements_alone b = let g = good b in steady_all ⊥ begins_stmt (statement b) (statement b) g.alone g.eats g.eats

pub arms_eat : (b : ℕ) → Eats (arm (λ ts. all_of begins_stmt (statement b) ts))
arms_eat b = arm_eats b (λ ts. all_of begins_stmt (statement b) ts) (statements_alone b)

-- ---- all together

pub steady_statement : (even : Type 0) (b b' : ℕ) → b ≤ b' → (even → b ≡ b') → Steady even (statement b) (statement b')
unfolding statement
steady_statement even zero zero le tie = steady_deep even (λ ts. Err (too_deep, ts)) (λ is ts. refl)
steady_statement even zero (suc b') le tie = steady_deep even (statement (suc b')) (λ is ts. absurd (let h : 0 ≡ suc b' = tie is in omega arith))
steady_statement even (suc b) zero le tie = absurd (omega arith)
steady_statement even (suc b) (suc b') le tie =
    let le' : b ≤ b' = omega arith in
    let tie' : even → b ≡ b' = λ is. (let h : suc b ≡ suc b' = tie is in omega arith) in
    steady_statement_of even b b' le' tie' (λ ts. all_of begins_stmt (statement b) ts) (λ ts. all_of begins_stmt (statement b') ts)
    (steady_all even begins_stmt (statement b) (statement b') (steady_statement even b b' le' tie') (good b).eats (good b').eats) (arms_eat b) (arms_eat b')

pub steady_statements : (even : Type 0) (b b' : ℕ) → b ≤ b' → (even → b ≡ b') → Steady even (λ ts. all_of begins_stmt (statement b) ts) (λ ts. all_of begins_stmt (statement b') ts)
steady_statements even b b' le tie = steady_all even begins_stmt (statement b) (statement b') (steady_statement even b b' le tie) (good b).eats (good b').eats
