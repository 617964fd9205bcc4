-- What is a statement by the grammar is read.
use Rattle.std.proofs.Common.{◌≡◌, ℕ, zero, suc, ◌+◌, ◌≤◌, ◌<◌, true, false, max, add-one, length-append, List, [], ◌∷◌, ◌++◌, length, None, Ok, refl, sym, ap, ◌∙◌, append_assoc, arith}
use Rattle.std.proofs.lemmas.List.{append-nil}
use Rattle.plcx_lex.specs.Token.{Token}
use Rattle.plcx_lex.specs.declared.terminal.Terminal.{Terminal}
use Rattle.plcx_lex.specs.declared.terminal.Terminal.TheVariants as t
use Rattle.plcx_lex.specs.Terminal.{terminal}
use Rattle.plcx_st.specs.declared.tree.Expr.{Expr}
use Rattle.plcx_st.specs.declared.tree.Arg.{Arg}
use Rattle.plcx_st.specs.declared.tree.Arm.{Arm}
use Rattle.plcx_st.specs.declared.tree.Stmt.{Stmt}
use Rattle.plcx_st.specs.declared.tree.Stmt.TheVariants as s
use Rattle.plcx_st.specs.Grammar.{word, label, operator, IsExpr, IsArg, AreArgs, IsStmt, AreStmts, AreArms, arg, one_arg, more_args, assigns, calls_bare, calls, chooses, repeats, selects, no_stmt, stmt, no_arm, arm}
use Rattle.plcx_read.specs.Reading as spec
use Rattle.plcx_read.specs.Reading.{Out, next, sees, same, expr, assigned, argument, called, called_bare, called_with, named_stmt_by, closed, head, conditional, repeated, selected, statement_by, statement_of, statement, statements, several, parted, all_of, list_of, begins_stmt, is_digits}
use Rattle.plcx_read.proofs.Singles.{sees_it, sees_not, expects, parted_last, parted_more, several_stops, several_goes}
use Rattle.plcx_read.proofs.CompleteExprs.{Ends, ends_by, joins_name, expr_positive, complete_before, has_room, has_room_told}

-- a token that is one of these ends an expression
pub ends_all : (x : Token) (ts : List Token) (q : Terminal) → terminal x ≡ q → operator q ≡ None → joins_name q ≡ false → (n : ℕ) → Ends n (x ∷ ts)
ends_all x ts q is none alone n = ends_by n x ts q is none alone

-- ---- arguments

complete_arg : {xs : List Token} {x : Arg} {d : ℕ} → IsArg xs x d → (b : ℕ) (c : Token) (rest : List Token) → d ≤ b → ((n : ℕ) → Ends n (c ∷ rest)) → argument b (xs ++ c ∷ rest) ≡ Ok (x, d, c ∷ rest)
unfolding argument
complete_arg (arg {w = w} {a = a} {xs = xs} {x = x} {d = d} named is inside) b c rest le ends =
    let pos : 0 < b = omega (arith, (expr_positive inside).0) in
    let it : same (terminal w) t.Name ≡ true = sees_it t.Name w [] named in
    rw (it, has_room b (w ∷ a ∷ (xs ++ c ∷ rest)) pos, expects t.Assign a (xs ++ c ∷ rest) is, complete_before inside b c rest le ends) refl

pub arg_positive : {xs : List Token} {x : Arg} {d : ℕ} → IsArg xs x d → (0 < d) × (0 < length xs)
arg_positive (arg named is inside) = ((expr_positive inside).0, omega arith)

pub args_positive : {xs : List Token} {es : List Arg} {d : ℕ} → AreArgs xs es d → (0 < d) × (length es ≤ length xs)
args_positive (one_arg inside) = let p = arg_positive inside in (p.0, omega (arith, p.1))
args_positive (more_args c {xs = xs} {ys = ys} inside is others) = let p = arg_positive inside in let q = args_positive others in (omega (arith, p.0), omega (arith, q.1, length-append xs (c ∷ ys)))

complete_args : {xs : List Token} {es : List Arg} {d : ℕ} → AreArgs xs es d → (b n : ℕ) (found : List Arg) (depth : ℕ) (c : Token) (rest : List Token) → d ≤ b → length es ≤ n → terminal c ≡ t.Close
    → parted (argument b) n found depth (xs ++ c ∷ rest) ≡ Ok (found ++ es, max depth d, rest)
complete_args (one_arg inside) b zero found depth c rest le turns closes = absurd (omega arith)
complete_args (more_args w inside is others) b zero found depth c rest le turns closes = absurd (omega arith)
complete_args (one_arg {xs = xs} {x = x} {d = d} inside) b (suc n) found depth c rest le turns closes =
    parted_last (argument b) n found depth (xs ++ c ∷ rest) x d c rest closes (complete_arg inside b c rest le (ends_all c rest t.Close closes refl refl))
complete_args (more_args w {xs = xs} {ys = ys} {x = x} {es = es} {d = d} {f = f} inside is others) b (suc n) found depth c rest le turns closes =
    let after : List Token = ys ++ c ∷ rest in
    let step = parted_more (argument b) n found depth (xs ++ w ∷ after) x d w after is (complete_arg inside b w after (omega arith) (ends_all w after t.Comma is refl refl)) in
    let last = complete_args others b n (found ++ x ∷ []) (max depth d) c rest (omega arith) (omega arith) closes in
    let list : (found ++ x ∷ []) ++ es ≡ found ++ x ∷ es = append_assoc found (x ∷ []) es in
    let deep : max (max depth d) f ≡ max depth (max d f) = omega arith in
    rw (append_assoc xs (w ∷ ys) (c ∷ rest), ← list, ← deep) (step ∙ last)

name_close : same t.Name t.Close ≡ false
unfolding same
name_close = refl

arg_begins : {xs : List Token} {x : Arg} {d : ℕ} → IsArg xs x d → (rest : List Token) → sees t.Close (xs ++ rest) ≡ false
arg_begins (arg {w = w} named is inside) rest = sees_not t.Close t.Name w [] named name_close

args_begin : {xs : List Token} {es : List Arg} {d : ℕ} → AreArgs xs es d → (rest : List Token) → sees t.Close (xs ++ rest) ≡ false
args_begin (one_arg inside) rest = arg_begins inside rest
args_begin (more_args c {xs = xs} {ys = ys} inside is others) rest = rw (append_assoc xs (c ∷ ys) rest) (arg_begins inside (c ∷ (ys ++ rest)))

-- ---- simple statements

by_terminal : (b : ℕ) (inner : List Token → Out (List Stmt)) (q : Terminal) (x : Token) (ts : List Token) → terminal x ≡ q → statement_of b inner (x ∷ ts) ≡ statement_by b inner q x ts
unfolding statement_of
by_terminal b inner q x ts is = ap (λ r. statement_by b inner r x ts) is

by_sign : (b : ℕ) (inner : List Token → Out (List Stmt)) (q : Terminal) (w a : Token) (ts : List Token) → terminal w ≡ t.Name → terminal a ≡ q → statement_of b inner (w ∷ a ∷ ts) ≡ named_stmt_by b q w (a ∷ ts)
by_sign b inner q w a ts named is = by_terminal b inner t.Name w (a ∷ ts) named ∙ ap (λ r. named_stmt_by b r w (a ∷ ts)) is

reads_assigned : (b : ℕ) (w a z : Token) (ts : List Token) (x : Expr) (d : ℕ) (rest : List Token) → terminal z ≡ t.Semicolon → 0 < b → expr b 0 ts ≡ Ok (x, d, z ∷ rest) → assigned b w (a ∷ ts) ≡ Ok (s.Assign (word w) x, suc d, rest)
unfolding assigned
reads_assigned b w a z ts x d rest semi pos h = rw (has_room_told b w (a ∷ ts) pos, h, expects t.Semicolon z rest semi, add-one) refl

reads_bare : (b : ℕ) (w c z : Token) (rest : List Token) → terminal c ≡ t.Close → terminal z ≡ t.Semicolon → called b w (c ∷ z ∷ rest) ≡ Ok (s.Call (word w) [], 1, rest)
unfolding called_bare
reads_bare b w c z rest closes semi =
    let shut : same (terminal c) t.Close ≡ true = sees_it t.Close c [] closes in
    rw (shut, expects t.Semicolon z rest semi) refl

reads_with : (b : ℕ) (w z : Token) (ts : List Token) (es : List Arg) (d : ℕ) (rest : List Token) → sees t.Close ts ≡ false → terminal z ≡ t.Semicolon → list_of (argument b) ts ≡ Ok (es, d, z ∷ rest)
    → called b w ts ≡ Ok (s.Call (word w) es, suc d, rest)
unfolding called_with
reads_with b w z ts es d rest other semi h = rw (other, h, expects t.Semicolon z rest semi, add-one) refl

abbrev answered : List Arg → ℕ → List Token → Out (List Arg)
answered es d rest = Ok (es, d, rest)

-- ---- statements with statements inside

reads_head : (b : ℕ) (q : Terminal) (h m : Token) {xs : List Token} {x : Expr} {d : ℕ} (rest : List Token) → IsExpr 0 xs x d → d ≤ b → terminal m ≡ q → operator q ≡ None → joins_name q ≡ false
    → head b q (h ∷ (xs ++ m ∷ rest)) ≡ Ok (x, d, rest)
unfolding head
reads_head b q h m {xs = xs} {x = x} {d = d} rest inside le is none alone =
    let pos : 0 < b = omega (arith, (expr_positive inside).0) in
    rw (has_room b (h ∷ (xs ++ m ∷ rest)) pos, complete_before inside b m rest le (ends_all m rest q is none alone), expects q m rest is) refl

reads_closed : (q : Terminal) (c z : Token) (rest : List Token) → terminal c ≡ q → terminal z ≡ t.Semicolon → closed q (c ∷ z ∷ rest) ≡ Ok rest
unfolding closed
reads_closed q c z rest is semi = rw (expects q c (z ∷ rest) is, expects t.Semicolon z rest semi) refl

reads_conditional : (b : ℕ) (inner : List Token → Out (List Stmt)) (ts : List Token) (x : Expr) (d : ℕ) (body : List Token) (ss : List Stmt) (f : ℕ) (end rest : List Token)
    → head b t.Then ts ≡ Ok (x, d, body) → inner body ≡ Ok (ss, f, end) → closed t.EndIf end ≡ Ok rest → conditional b inner ts ≡ Ok (s.If x ss, suc (max d f), rest)
unfolding conditional
reads_conditional b inner ts x d body ss f end rest h g z = rw (h, g, z, add-one) refl

reads_repeated : (b : ℕ) (inner : List Token → Out (List Stmt)) (ts : List Token) (x : Expr) (d : ℕ) (body : List Token) (ss : List Stmt) (f : ℕ) (end rest : List Token)
    → head b t.Do ts ≡ Ok (x, d, body) → inner body ≡ Ok (ss, f, end) → closed t.EndWhile end ≡ Ok rest → repeated b inner ts ≡ Ok (s.While x ss, suc (max d f), rest)
unfolding repeated
reads_repeated b inner ts x d body ss f end rest h g z = rw (h, g, z, add-one) refl

reads_selected : (b : ℕ) (inner : List Token → Out (List Stmt)) (ts : List Token) (x : Expr) (d : ℕ) (body : List Token) (arms : List Arm) (f : ℕ) (end rest : List Token)
    → head b t.Of ts ≡ Ok (x, d, body) → all_of is_digits (spec.arm inner) body ≡ Ok (arms, f, end) → closed t.EndCase end ≡ Ok rest → selected b inner ts ≡ Ok (s.Case x arms, suc (max d f), rest)
unfolding selected
reads_selected b inner ts x d body arms f end rest h g z = rw (h, g, z, add-one) refl

reads_arm : (inner : List Token → Out (List Stmt)) (l m : Token) (ts : List Token) (ss : List Stmt) (d : ℕ) (rest : List Token) → terminal l ≡ t.Digits → terminal m ≡ t.Colon → inner ts ≡ Ok (ss, d, rest)
    → spec.arm inner (l ∷ m ∷ ts) ≡ Ok (record { label = label l; span = l.span; body = ss }, d, rest)
unfolding spec.arm
reads_arm inner l m ts ss d rest is colon h =
    let it : same (terminal l) t.Digits ≡ true = sees_it t.Digits l [] is in
    rw (it, expects t.Colon m ts colon, h) refl

-- ---- how they begin, and lengths

pub stmt_begins : {xs : List Token} {x : Stmt} {d : ℕ} → IsStmt xs x d → (rest : List Token) → (begins_stmt (next (xs ++ rest)) ≡ true) × (0 < length xs)
stmt_begins (assigns z named is inside semi) rest = (ap begins_stmt named, omega arith)
stmt_begins (calls_bare named opens closes semi) rest = (ap begins_stmt named, omega arith)
stmt_begins (calls c z named opens inside closes semi) rest = (ap begins_stmt named, omega arith)
stmt_begins (chooses m c z is inside middle all closes semi) rest = (ap begins_stmt is, omega arith)
stmt_begins (repeats m c z is inside middle all closes semi) rest = (ap begins_stmt is, omega arith)
stmt_begins (selects m c z is inside middle all closes semi) rest = (ap begins_stmt is, omega arith)

pub stmts_long : {xs : List Token} {ss : List Stmt} {d : ℕ} → AreStmts xs ss d → length ss ≤ length xs
stmts_long no_stmt = omega arith
stmts_long (stmt {xs = xs} {ys = ys} one others) = omega (arith, (stmt_begins one []).1, stmts_long others, length-append xs ys)

pub arms_long : {xs : List Token} {arms : List Arm} {d : ℕ} → AreArms xs arms d → length arms ≤ length xs
arms_long no_arm = omega arith
arms_long (arm {xs = xs} {ys = ys} is colon all others) = omega (arith, arms_long others, length-append xs ys)

-- behind statements comes an arm or what comes behind the arms
arms_begin : {xs : List Token} {arms : List Arm} {d : ℕ} → AreArms xs arms d → (rest : List Token) → begins_stmt (next rest) ≡ false → begins_stmt (next (xs ++ rest)) ≡ false
arms_begin no_arm rest stop = stop
arms_begin (arm is colon all others) rest stop = ap begins_stmt is

abbrev listed : List Stmt → ℕ → List Token → Out (List Stmt)
listed ss d rest = Ok (ss, d, rest)

abbrev listed_arms : List Arm → ℕ → List Token → Out (List Arm)
listed_arms arms d rest = Ok (arms, d, rest)

-- ---- the main induction

mutual
  unfolding statement

  pub complete_stmt : {xs : List Token} {x : Stmt} {d : ℕ} → IsStmt xs x d → (b : ℕ) (rest : List Token) → d ≤ b → statement b (xs ++ rest) ≡ Ok (x, d, rest)
  complete_stmt (assigns z named is inside semi) zero rest le = absurd (omega arith)
  complete_stmt (calls_bare named opens closes semi) zero rest le = absurd (omega arith)
  complete_stmt (calls c z named opens inside closes semi) zero rest le = absurd (omega arith)
  complete_stmt (chooses m c z is inside middle all closes semi) zero rest le = absurd (omega arith)
  complete_stmt (repeats m c z is inside middle all closes semi) zero rest le = absurd (omega arith)
  complete_stmt (selects m c z is inside middle all closes semi) zero rest le = absurd (omega arith)
  complete_stmt (assigns {w = w} {a = a} z {xs = xs} {x = x} {d = d} named is inside semi) (suc b) rest le =
      let inner = statements b in
      let ts : List Token = xs ++ z ∷ rest in
      ap (λ (l : List Token). statement_of b inner (w ∷ a ∷ l)) (append_assoc xs (z ∷ []) rest) ∙ by_sign b inner t.Assign w a ts named is
      ∙ reads_assigned b w a z ts x d rest semi (omega (arith, (expr_positive inside).0)) (complete_before inside b z rest (omega arith) (ends_all z rest t.Semicolon semi refl refl))
  complete_stmt (calls_bare {w = w} {b = o} {c = c} {z = z} named opens closes semi) (suc b) rest le =
      by_sign b (statements b) t.Open w o (c ∷ z ∷ rest) named opens ∙ reads_bare b w c z rest closes semi
  complete_stmt (calls {w = w} {b = o} c z {xs = xs} {es = es} {d = d} named opens inside closes semi) (suc b) rest le =
      let inner = statements b in
      let ts : List Token = xs ++ c ∷ z ∷ rest in
      let p = args_positive inside in
      let h = complete_args inside b (length ts + 1) [] 0 c (z ∷ rest) (omega arith) (omega (arith, p.1, length-append xs (c ∷ z ∷ rest))) closes in
      let none : max 0 d ≡ d = omega arith in
      ap (λ (l : List Token). statement_of b inner (w ∷ o ∷ l)) (append_assoc xs (c ∷ z ∷ []) rest) ∙ by_sign b inner t.Open w o ts named opens
      ∙ reads_with b w z ts es d rest (args_begin inside (c ∷ z ∷ rest)) semi (h ∙ ap (λ i. answered es i (z ∷ rest)) none)
  complete_stmt (chooses {h = i} m c z {xs = xs} {ys = ys} {x = x} {ss = ss} {d = d} {f = f} is inside middle all closes semi) (suc b) rest le =
      let inner = statements b in
      let end : List Token = c ∷ z ∷ rest in
      let tail : (xs ++ m ∷ (ys ++ c ∷ z ∷ [])) ++ rest ≡ xs ++ m ∷ (ys ++ end) = append_assoc xs (m ∷ (ys ++ c ∷ z ∷ [])) rest ∙ ap (λ (l : List Token). xs ++ m ∷ l) (append_assoc ys (c ∷ z ∷ []) rest) in
      let first = reads_head b t.Then i m (ys ++ end) inside (omega arith) middle refl refl in
      let body = complete_stmts all b (length (ys ++ end) + 1) [] 0 end (omega (arith, stmts_long all, length-append ys end)) (omega arith) (ap begins_stmt closes) in
      let none : max 0 f ≡ f = omega arith in
      ap (λ (l : List Token). statement_of b inner (i ∷ l)) tail ∙ by_terminal b inner t.If i (xs ++ m ∷ (ys ++ end)) is
      ∙ reads_conditional b inner (i ∷ (xs ++ m ∷ (ys ++ end))) x d (ys ++ end) ss f end rest first (body ∙ ap (λ k. listed ss k end) none) (reads_closed t.EndIf c z rest closes semi)
  complete_stmt (repeats {h = i} m c z {xs = xs} {ys = ys} {x = x} {ss = ss} {d = d} {f = f} is inside middle all closes semi) (suc b) rest le =
      let inner = statements b in
      let end : List Token = c ∷ z ∷ rest in
      let tail : (xs ++ m ∷ (ys ++ c ∷ z ∷ [])) ++ rest ≡ xs ++ m ∷ (ys ++ end) = append_assoc xs (m ∷ (ys ++ c ∷ z ∷ [])) rest ∙ ap (λ (l : List Token). xs ++ m ∷ l) (append_assoc ys (c ∷ z ∷ []) rest) in
      let first = reads_head b t.Do i m (ys ++ end) inside (omega arith) middle refl refl in
      let body = complete_stmts all b (length (ys ++ end) + 1) [] 0 end (omega (arith, stmts_long all, length-append ys end)) (omega arith) (ap begins_stmt closes) in
      let none : max 0 f ≡ f = omega arith in
      ap (λ (l : List Token). statement_of b inner (i ∷ l)) tail ∙ by_terminal b inner t.While i (xs ++ m ∷ (ys ++ end)) is
      ∙ reads_repeated b inner (i ∷ (xs ++ m ∷ (ys ++ end))) x d (ys ++ end) ss f end rest first (body ∙ ap (λ k. listed ss k end) none) (reads_closed t.EndWhile c z rest closes semi)
  complete_stmt (selects {h = i} m c z {xs = xs} {ys = ys} {x = x} {arms = arms} {d = d} {f = f} is inside middle all closes semi) (suc b) rest le =
      let inner = statements b in
      let end : List Token = c ∷ z ∷ rest in
      let tail : (xs ++ m ∷ (ys ++ c ∷ z ∷ [])) ++ rest ≡ xs ++ m ∷ (ys ++ end) = append_assoc xs (m ∷ (ys ++ c ∷ z ∷ [])) rest ∙ ap (λ (l : List Token). xs ++ m ∷ l) (append_assoc ys (c ∷ z ∷ []) rest) in
      let first = reads_head b t.Of i m (ys ++ end) inside (omega arith) middle refl refl in
      let body = complete_arms all b (length (ys ++ end) + 1) [] 0 end (omega (arith, arms_long all, length-append ys end)) (omega arith) (ap is_digits closes) (ap begins_stmt closes) in
      let none : max 0 f ≡ f = omega arith in
      ap (λ (l : List Token). statement_of b inner (i ∷ l)) tail ∙ by_terminal b inner t.Case i (xs ++ m ∷ (ys ++ end)) is
      ∙ reads_selected b inner (i ∷ (xs ++ m ∷ (ys ++ end))) x d (ys ++ end) arms f end rest first (body ∙ ap (λ k. listed_arms arms k end) none) (reads_closed t.EndCase c z rest closes semi)

  pub complete_stmts : {xs : List Token} {ss : List Stmt} {d : ℕ} → AreStmts xs ss d → (b n : ℕ) (found : List Stmt) (depth : ℕ) (rest : List Token) → length ss < n → d ≤ b → begins_stmt (next rest) ≡ false
      → several begins_stmt (statement b) n found depth (xs ++ rest) ≡ Ok (found ++ ss, max depth d, rest)
  complete_stmts no_stmt b zero found depth rest turns le stop = absurd (omega arith)
  complete_stmts (stmt one others) b zero found depth rest turns le stop = absurd (omega arith)
  complete_stmts no_stmt b (suc n) found depth rest turns le stop =
      let deep : depth ≡ max depth 0 = omega arith in
      several_stops (statement b) begins_stmt n found depth rest stop ∙ ap (λ i. listed found i rest) deep ∙ ap (λ l. listed l (max depth 0) rest) (sym (append-nil found))
  complete_stmts (stmt {xs = xs} {ys = ys} {x = x} {ss = ss} {d = d} {f = f} one others) b (suc n) found depth rest turns le stop =
      let step = several_goes (statement b) begins_stmt n found depth (xs ++ (ys ++ rest)) x d (ys ++ rest) (stmt_begins one (ys ++ rest)).0 (complete_stmt one b (ys ++ rest) (omega arith)) in
      let last = complete_stmts others b n (found ++ x ∷ []) (max depth d) rest (omega arith) (omega arith) stop in
      let list : (found ++ x ∷ []) ++ ss ≡ found ++ x ∷ ss = append_assoc found (x ∷ []) ss in
      let deep : max (max depth d) f ≡ max depth (max d f) = omega arith in
      rw (append_assoc xs ys rest, ← list, ← deep) (step ∙ last)

  pub complete_arms : {xs : List Token} {arms : List Arm} {d : ℕ} → AreArms xs arms d → (b n : ℕ) (found : List Arm) (depth : ℕ) (rest : List Token) → length arms < n → d ≤ b → is_digits (next rest) ≡ false → begins_stmt (next rest) ≡ false
      → several is_digits (spec.arm (statements b)) n found depth (xs ++ rest) ≡ Ok (found ++ arms, max depth d, rest)
  complete_arms no_arm b zero found depth rest turns le stop other = absurd (omega arith)
  complete_arms (arm is colon all others) b zero found depth rest turns le stop other = absurd (omega arith)
  complete_arms no_arm b (suc n) found depth rest turns le stop other =
      let deep : depth ≡ max depth 0 = omega arith in
      several_stops (spec.arm (statements b)) is_digits n found depth rest stop ∙ ap (λ i. listed_arms found i rest) deep ∙ ap (λ l. listed_arms l (max depth 0) rest) (sym (append-nil found))
  complete_arms (arm {l = l} {m = m} {xs = xs} {ys = ys} {ss = ss} {others = arms} {d = d} {f = f} is colon all others) b (suc n) found depth rest turns le stop other =
      let after : List Token = ys ++ rest in
      let item : Arm = record { label = label l; span = l.span; body = ss } in
      let body = complete_stmts all b (length (xs ++ after) + 1) [] 0 after (omega (arith, stmts_long all, length-append xs after)) (omega arith) (arms_begin others rest other) in
      let none : max 0 d ≡ d = omega arith in
      let one = reads_arm (statements b) l m (xs ++ after) ss d after is colon (body ∙ ap (λ k. listed ss k after) none) in
      let step = several_goes (spec.arm (statements b)) is_digits n found depth (l ∷ m ∷ (xs ++ after)) item d after (ap is_digits is) one in
      let last = complete_arms others b n (found ++ item ∷ []) (max depth d) rest (omega arith) (omega arith) stop other in
      let list : (found ++ item ∷ []) ++ arms ≡ found ++ item ∷ arms = append_assoc found (item ∷ []) arms in
      let deep : max (max depth d) f ≡ max depth (max d f) = omega arith in
      rw (append_assoc xs ys rest, ← list, ← deep) (step ∙ last)
