-- What is a unit by the grammar is read.
use Rattle.std.proofs.Common.{◌≡◌, ℕ, zero, suc, ◌+◌, ◌≤◌, ◌<◌, Bool, true, false, max, add-one, length-append, List, [], ◌∷◌, ◌++◌, length, Option, Some, Ok, refl, sym, ap, ◌∙◌, append_assoc, arith}
use Rattle.std.proofs.lemmas.List.{append-nil}
use Rattle.plcx_lex.specs.Token.{Token}
use Rattle.plcx_lex.specs.declared.terminal.Terminal.{Terminal}
use Rattle.plcx_lex.specs.declared.terminal.Terminal.TheVariants as t
use Rattle.plcx_lex.specs.Terminal.{terminal}
use Rattle.plcx_st.specs.declared.tree.Number.{Number}
use Rattle.plcx_st.specs.declared.tree.TextKind.{TextKind}
use Rattle.plcx_st.specs.declared.tree.TextKind.TheVariants as kind
use Rattle.plcx_st.specs.declared.tree.TextClass.{TextClass}
use Rattle.plcx_st.specs.declared.tree.TextClass.TheVariants as class
use Rattle.plcx_st.specs.declared.tree.Mark.{Mark}
use Rattle.plcx_st.specs.declared.tree.Mark.TheVariants as mark
use Rattle.plcx_st.specs.declared.tree.Decl.{Decl}
use Rattle.plcx_st.specs.declared.tree.TextBlock.{TextBlock}
use Rattle.plcx_st.specs.declared.tree.Stmt.{Stmt}
use Rattle.plcx_st.specs.declared.tree.PouText.{PouText}
use Rattle.plcx_st.specs.Grammar.{word, heading, ending, marked_class, IsAddress, no_address, address, IsInitial, no_initial, initial, IsDecl, decl, IsBareDecl, bare_decl, Each, no_more, also, IsMark, plain, constant, retain, IsBlock, marked, temporary, in_out, IsPou, pou, ArePous, no_pou, also_pou}
use Rattle.plcx_read.specs.Reading as spec
use Rattle.plcx_read.specs.Reading.{Out, next, sees, same, several, all_of, statements, address_token, address_at, initial_at, begins_decl, mark_by, mark_at, block_of, block_by, begins_block, pou_of, pou_by, begins_pou, pous}
use Rattle.plcx_read.proofs.Singles.{sees_it, sees_not, expects, reads_word, several_stops, several_goes}
use Rattle.plcx_read.proofs.CompleteExprs.{literal_value}
use Rattle.plcx_read.proofs.CompleteStmts.{stmt_begins, complete_stmts, stmts_long}
use Rattle.plcx_st.specs.Grammar.{AreStmts, no_stmt, stmt}

-- ---- declarations

colon_at : same t.Colon t.At ≡ false
unfolding same
colon_at = refl

semicolon_assign : same t.Semicolon t.Assign ≡ false
unfolding same
semicolon_assign = refl

complete_address : {xs : List Token} {place : Option (List ℕ)} → IsAddress xs place → (c : Token) (rest : List Token) → terminal c ≡ t.Colon → address_at (xs ++ c ∷ rest) ≡ Ok (place, 0, c ∷ rest)
unfolding address_at address_token
complete_address no_address c rest is = let no : same (terminal c) t.At ≡ false = sees_not t.At t.Colon c [] is colon_at in rw no refl
complete_address (address {w = w} {a = a} at is') c rest is =
    let it : same (terminal w) t.At ≡ true = sees_it t.At w [] at in
    let that : same (terminal a) t.Address ≡ true = sees_it t.Address a [] is' in
    rw (it, that) refl

complete_initial : {xs : List Token} {start : Option Number} → IsInitial xs start → (c : Token) (rest : List Token) → terminal c ≡ t.Semicolon → initial_at (xs ++ c ∷ rest) ≡ Ok (start, 0, c ∷ rest)
unfolding initial_at
complete_initial no_initial c rest is = let no : same (terminal c) t.Assign ≡ false = sees_not t.Assign t.Semicolon c [] is semicolon_assign in rw no refl
complete_initial (initial {a = a} {v = v} {ty = ty} {z = z} assign number stands) c rest is =
    let it : same (terminal a) t.Assign ≡ true = sees_it t.Assign a [] assign in
    rw (it, literal_value v ty z (c ∷ rest) number stands) refl

complete_decl : {xs : List Token} {x : Decl} → IsDecl xs x → (rest : List Token) → spec.decl (xs ++ rest) ≡ Ok (x, 0, rest)
unfolding spec.decl
complete_decl (decl {w = w} c y z {xs = xs} {ys = ys} named at colon typed start semi) rest =
    let tail : (xs ++ c ∷ y ∷ (ys ++ z ∷ [])) ++ rest ≡ xs ++ c ∷ y ∷ (ys ++ z ∷ rest) = append_assoc xs (c ∷ y ∷ (ys ++ z ∷ [])) rest ∙ ap (λ (l : List Token). xs ++ c ∷ y ∷ l) (append_assoc ys (z ∷ []) rest) in
    rw (tail, reads_word w (xs ++ c ∷ y ∷ (ys ++ z ∷ rest)) named, complete_address at c (y ∷ (ys ++ z ∷ rest)) colon, expects t.Colon c (y ∷ (ys ++ z ∷ rest)) colon, reads_word y (ys ++ z ∷ rest) typed, complete_initial start z rest semi, expects t.Semicolon z rest semi) refl

complete_bare_decl : {xs : List Token} {x : Decl} → IsBareDecl xs x → (rest : List Token) → spec.bare_decl (xs ++ rest) ≡ Ok (x, 0, rest)
unfolding spec.bare_decl
complete_bare_decl (bare_decl {w = w} {c = c} {y = y} {z = z} named colon typed semi) rest =
    rw (reads_word w (c ∷ y ∷ z ∷ rest) named, expects t.Colon c (y ∷ z ∷ rest) colon, reads_word y (z ∷ rest) typed, expects t.Semicolon z rest semi) refl

-- ---- things one after another

abbrev listed : {A : Type 0} → List A → ℕ → List Token → Out (List A)
listed xs d rest = Ok (xs, d, rest)

module _ {A : Type 0} (Is : List Token → A → Type 0) (begins : Terminal → Bool) (one : List Token → Out A)
    (begin : (xs : List Token) (x : A) → Is xs x → (rest : List Token) → (begins (next (xs ++ rest)) ≡ true) × (0 < length xs))
    (complete : (xs : List Token) (x : A) → Is xs x → (rest : List Token) → one (xs ++ rest) ≡ Ok (x, 0, rest)) where
  complete_each : {xs : List Token} {es : List A} → Each Is xs es → (n : ℕ) (found : List A) (rest : List Token) → length es < n → begins (next rest) ≡ false → several begins one n found 0 (xs ++ rest) ≡ Ok (found ++ es, 0, rest)
  complete_each no_more zero found rest turns stop = absurd (omega arith)
  complete_each (also x others) zero found rest turns stop = absurd (omega arith)
  complete_each no_more (suc n) found rest turns stop = several_stops one begins n found 0 rest stop ∙ ap (λ l. listed l 0 rest) (sym (append-nil found))
  complete_each (also {xs = xs} {ys = ys} {x = x} {others = es} is others) (suc n) found rest turns stop =
      let step = several_goes one begins n found 0 (xs ++ (ys ++ rest)) x 0 (ys ++ rest) (begin xs x is (ys ++ rest)).0 (complete xs x is (ys ++ rest)) in
      let last = complete_each others n (found ++ x ∷ []) rest (omega arith) stop in
      let list : (found ++ x ∷ []) ++ es ≡ found ++ x ∷ es = append_assoc found (x ∷ []) es in
      rw (append_assoc xs ys rest, ← list) (step ∙ last)

  each_long : {xs : List Token} {es : List A} → Each Is xs es → length es ≤ length xs
  each_long no_more = omega arith
  each_long (also {xs = xs} {ys = ys} {x = x} is others) = omega (arith, (begin xs x is []).1, each_long others, length-append xs ys)

  pub complete_all : {xs : List Token} {es : List A} → Each Is xs es → (rest : List Token) → begins (next rest) ≡ false → all_of begins one (xs ++ rest) ≡ Ok (es, 0, rest)
  complete_all {xs = xs} each rest stop = complete_each each (length (xs ++ rest) + 1) [] rest (omega (arith, each_long each, length-append xs rest)) stop

decl_begins : (xs : List Token) (x : Decl) → IsDecl xs x → (rest : List Token) → (begins_decl (next (xs ++ rest)) ≡ true) × (0 < length xs)
decl_begins _ _ (decl c y z named at colon typed start semi) rest = (ap begins_decl named, omega arith)

bare_decl_begins : (xs : List Token) (x : Decl) → IsBareDecl xs x → (rest : List Token) → (begins_decl (next (xs ++ rest)) ≡ true) × (0 < length xs)
bare_decl_begins _ _ (bare_decl named colon typed semi) rest = (ap begins_decl named, omega arith)

complete_decls : {xs : List Token} {ds : List Decl} → Each IsDecl xs ds → (rest : List Token) → begins_decl (next rest) ≡ false → all_of begins_decl spec.decl (xs ++ rest) ≡ Ok (ds, 0, rest)
complete_decls each rest stop = complete_all IsDecl begins_decl spec.decl decl_begins (λ xs x is rest. complete_decl is rest) each rest stop

complete_bare_decls : {xs : List Token} {ds : List Decl} → Each IsBareDecl xs ds → (rest : List Token) → begins_decl (next rest) ≡ false → all_of begins_decl spec.bare_decl (xs ++ rest) ≡ Ok (ds, 0, rest)
complete_bare_decls each rest stop = complete_all IsBareDecl begins_decl spec.bare_decl bare_decl_begins (λ xs x is rest. complete_bare_decl is rest) each rest stop

-- ---- blocks

-- whether it is a mark
abbrev pub is_mark : Terminal → Bool
is_mark t.Constant = true
is_mark t.Retain = true
is_mark _ = false

no_mark : (q : Terminal) (ts : List Token) → is_mark q ≡ false → mark_by q ts ≡ (mark.Plain, 0, ts)
no_mark t.Constant ts h = absurd cc
no_mark t.Retain ts h = absurd cc
no_mark _ ts h = refl

complete_mark : {ms : List Token} {m : Mark} → IsMark ms m → (rest : List Token) → is_mark (next rest) ≡ false → mark_at (ms ++ rest) ≡ (m, 0, rest)
complete_mark plain rest stop = no_mark (next rest) rest stop
complete_mark (constant {w = w} is) rest stop = ap (λ q. mark_by q (w ∷ rest)) is
complete_mark (retain {w = w} is) rest stop = ap (λ q. mark_by q (w ∷ rest)) is

reads_block : (one : List Token → Out Decl) (c : TextClass) (m : Mark) (ts : List Token) (ds : List Decl) (z : Token) (rest : List Token) → all_of begins_decl one ts ≡ Ok (ds, 0, z ∷ rest) → terminal z ≡ t.EndVar
    → block_of one c m ts ≡ Ok (record { class = c; mark = m; decls = ds }, 0, rest)
unfolding block_of
reads_block one c m ts ds z rest h is = rw (h, expects t.EndVar z rest is) refl

-- behind a mark comes a declaration or the end
decls_unmarked : {xs : List Token} {ds : List Decl} → Each IsDecl xs ds → (z : Token) (rest : List Token) → terminal z ≡ t.EndVar → is_mark (next (xs ++ z ∷ rest)) ≡ false
decls_unmarked no_more z rest is = ap is_mark is
decls_unmarked (also (decl c y z' named at colon typed start semi) others) z rest is = ap is_mark named

by_class : (q : Terminal) (c : TextClass) (h : Token) (ts : List Token) → marked_class q ≡ Some c → block_by q h ts ≡ spec.marked_block c ts
by_class t.Var c h ts is = let same' : class.Var ≡ c = cc in ap (λ k. spec.marked_block k ts) same'
by_class t.VarInput c h ts is = let same' : class.Input ≡ c = cc in ap (λ k. spec.marked_block k ts) same'
by_class t.VarOutput c h ts is = let same' : class.Output ≡ c = cc in ap (λ k. spec.marked_block k ts) same'
by_class _ c h ts is = absurd cc

complete_block : {xs : List Token} {x : TextBlock} → IsBlock xs x → (rest : List Token) → spec.block (xs ++ rest) ≡ Ok (x, 0, rest)
unfolding spec.block
complete_block (marked {h = h} z {ms = ms} {xs = xs} {c = c} {m = m} {ds = ds} is mark' each closes) rest =
    let tail : (ms ++ (xs ++ z ∷ [])) ++ rest ≡ ms ++ (xs ++ z ∷ rest) = append_assoc ms (xs ++ z ∷ []) rest ∙ ap (λ (l : List Token). ms ++ l) (append_assoc xs (z ∷ []) rest) in
    let m' = complete_mark mark' (xs ++ z ∷ rest) (decls_unmarked each z rest closes) in
    let b = reads_block spec.decl c m (xs ++ z ∷ rest) ds z rest (complete_decls each (z ∷ rest) (ap begins_decl closes)) closes in
    ap (λ (l : List Token). block_by (terminal h) h l) tail ∙ by_class (terminal h) c h (ms ++ (xs ++ z ∷ rest)) is ∙ ap (λ p. block_of spec.decl c p.0 p.2) m' ∙ b
complete_block (temporary {h = h} z {xs = xs} {ds = ds} is each closes) rest =
    ap (λ (l : List Token). block_by (terminal h) h l) (append_assoc xs (z ∷ []) rest) ∙ ap (λ q. block_by q h (xs ++ z ∷ rest)) is
    ∙ reads_block spec.decl class.Temp mark.Plain (xs ++ z ∷ rest) ds z rest (complete_decls each (z ∷ rest) (ap begins_decl closes)) closes
complete_block (in_out {h = h} z {xs = xs} {ds = ds} is each closes) rest =
    ap (λ (l : List Token). block_by (terminal h) h l) (append_assoc xs (z ∷ []) rest) ∙ ap (λ q. block_by q h (xs ++ z ∷ rest)) is
    ∙ reads_block spec.bare_decl class.InOut mark.Plain (xs ++ z ∷ rest) ds z rest (complete_bare_decls each (z ∷ rest) (ap begins_decl closes)) closes

class_begins : (q : Terminal) (c : TextClass) → marked_class q ≡ Some c → begins_block q ≡ true
class_begins t.Var c is = refl
class_begins t.VarInput c is = refl
class_begins t.VarOutput c is = refl
class_begins _ c is = absurd cc

block_begins : (xs : List Token) (x : TextBlock) → IsBlock xs x → (rest : List Token) → (begins_block (next (xs ++ rest)) ≡ true) × (0 < length xs)
block_begins _ _ (marked {h = h} z {c = c} is mark' each closes) rest = (class_begins (terminal h) c is, omega arith)
block_begins _ _ (temporary z is each closes) rest = (ap begins_block is, omega arith)
block_begins _ _ (in_out z is each closes) rest = (ap begins_block is, omega arith)

complete_blocks : {xs : List Token} {bs : List TextBlock} → Each IsBlock xs bs → (rest : List Token) → begins_block (next rest) ≡ false → all_of begins_block spec.block (xs ++ rest) ≡ Ok (bs, 0, rest)
complete_blocks each rest stop = complete_all IsBlock begins_block spec.block block_begins (λ xs x is rest. complete_block is rest) each rest stop

-- ---- units

end_begins : (k : TextKind) → (begins_block (ending k) ≡ false) × (spec.begins_stmt (ending k) ≡ false)
end_begins kind.Program = (refl, refl)
end_begins kind.FunctionBlock = (refl, refl)

stmt_no_block : (q : Terminal) → spec.begins_stmt q ≡ true → begins_block q ≡ false
stmt_no_block t.Name is = refl
stmt_no_block t.If is = refl
stmt_no_block t.While is = refl
stmt_no_block t.Case is = refl
stmt_no_block _ is = absurd cc

-- behind blocks comes a statement or the end
stmts_unblocked : {xs : List Token} {ss : List Stmt} {d : ℕ} → AreStmts xs ss d → (k : TextKind) (z : Token) (rest : List Token) → terminal z ≡ ending k → begins_block (next (xs ++ z ∷ rest)) ≡ false
stmts_unblocked no_stmt k z rest is = ap begins_block is ∙ (end_begins k).0
stmts_unblocked (stmt {xs = xs} {ys = ys} one others) k z rest is = rw (append_assoc xs ys (z ∷ rest)) (stmt_no_block (next (xs ++ (ys ++ z ∷ rest))) (stmt_begins one (ys ++ z ∷ rest)).0)

by_heading : (b : ℕ) (k : TextKind) (h : Token) (ts : List Token) → terminal h ≡ heading k → pou_by b (terminal h) h ts ≡ pou_of b k (h ∷ ts)
by_heading b kind.Program h ts is = ap (λ q. pou_by b q h ts) is
by_heading b kind.FunctionBlock h ts is = ap (λ q. pou_by b q h ts) is

heading_begins : (k : TextKind) → begins_pou (heading k) ≡ true
heading_begins kind.Program = refl
heading_begins kind.FunctionBlock = refl

reads_pou : (b : ℕ) (k : TextKind) (h w : Token) (ts us : List Token) (bs : List TextBlock) (ss : List Stmt) (d : ℕ) (z : Token) (rest : List Token) → terminal w ≡ t.Name → all_of begins_block spec.block ts ≡ Ok (bs, 0, us)
    → statements b us ≡ Ok (ss, d, z ∷ rest) → terminal z ≡ ending k → pou_of b k (h ∷ w ∷ ts) ≡ Ok (record { kind = k; name = word w; blocks = bs; body = ss }, suc d, rest)
unfolding pou_of
reads_pou b k h w ts us bs ss d z rest named hs gs is = rw (reads_word w ts named, hs, gs, expects (ending k) z rest is, add-one) refl

complete_pou : {xs : List Token} {p : PouText} {d : ℕ} → IsPou xs p d → (a : ℕ) (rest : List Token) → d ≤ a → spec.pou a (xs ++ rest) ≡ Ok (p, d, rest)
unfolding spec.pou
complete_pou (pou k z is named blocks body closes) zero rest le = absurd (omega arith)
complete_pou (pou {h = h} {w = w} k z {xs = xs} {ys = ys} {bs = bs} {ss = ss} {d = d} is named blocks body closes) (suc b) rest le =
    let end : List Token = ys ++ z ∷ rest in
    let tail : (xs ++ (ys ++ z ∷ [])) ++ rest ≡ xs ++ end = append_assoc xs (ys ++ z ∷ []) rest ∙ ap (λ (l : List Token). xs ++ l) (append_assoc ys (z ∷ []) rest) in
    let bs' = complete_blocks blocks end (stmts_unblocked body k z rest closes) in
    let none : max 0 d ≡ d = omega arith in
    let ss' = complete_stmts body b (length end + 1) [] 0 (z ∷ rest) (omega (arith, stmts_long body, length-append ys (z ∷ rest))) (omega arith) (ap spec.begins_stmt closes ∙ (end_begins k).1) in
    ap (λ (l : List Token). pou_by b (terminal h) h (w ∷ l)) tail ∙ by_heading b k h (w ∷ (xs ++ end)) is ∙ reads_pou b k h w (xs ++ end) end bs ss d z rest named bs' (ss' ∙ ap (λ i. listed ss i (z ∷ rest)) none) closes

pou_begins : {xs : List Token} {p : PouText} {d : ℕ} → IsPou xs p d → (rest : List Token) → (begins_pou (next (xs ++ rest)) ≡ true) × (0 < length xs)
pou_begins (pou k z is named blocks body closes) rest = (ap begins_pou is ∙ heading_begins k, omega arith)

pous_long : {xs : List Token} {ps : List PouText} {d : ℕ} → ArePous xs ps d → length ps ≤ length xs
pous_long no_pou = omega arith
pous_long (also_pou {xs = xs} {ys = ys} one others) = omega (arith, (pou_begins one []).1, pous_long others, length-append xs ys)

complete_pous : {xs : List Token} {ps : List PouText} {d : ℕ} → ArePous xs ps d → (a n : ℕ) (found : List PouText) (depth : ℕ) → length ps < n → d ≤ a → several begins_pou (spec.pou a) n found depth xs ≡ Ok (found ++ ps, max depth d, [])
complete_pous no_pou a zero found depth turns le = absurd (omega arith)
complete_pous (also_pou one others) a zero found depth turns le = absurd (omega arith)
complete_pous no_pou a (suc n) found depth turns le =
    let deep : depth ≡ max depth 0 = omega arith in
    several_stops (spec.pou a) begins_pou n found depth [] refl ∙ ap (λ i. listed found i []) deep ∙ ap (λ l. listed l (max depth 0) []) (sym (append-nil found))
complete_pous (also_pou {xs = xs} {ys = ys} {p = p} {ps = ps} {d = d} {f = f} one others) a (suc n) found depth turns le =
    let step = several_goes (spec.pou a) begins_pou n found depth (xs ++ ys) p d ys (pou_begins one ys).0 (complete_pou one a ys (omega arith)) in
    let last = complete_pous others a n (found ++ p ∷ []) (max depth d) (omega arith) (omega arith) in
    let list : (found ++ p ∷ []) ++ ps ≡ found ++ p ∷ ps = append_assoc found (p ∷ []) ps in
    let deep : max (max depth d) f ≡ max depth (max d f) = omega arith in
    rw (← list, ← deep) (step ∙ last)

pub complete_unit : (bound : ℕ) (ts : List Token) (ps : List PouText) (d : ℕ) → ArePous ts ps d → d ≤ bound → pous bound ts ≡ Ok ps
unfolding pous
complete_unit bound ts ps d are le = rw (complete_pous are bound (length ts + 1) [] 0 (omega (arith, pous_long are)) le) refl
