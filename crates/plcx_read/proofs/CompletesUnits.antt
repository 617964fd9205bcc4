-- What was read in front of a fault in a declaration or in a unit.
use Rattle.std.proofs.Common.{◌≡◌, ℕ, suc, ◌+◌, ◌≤◌, max, map, List, [], ◌∷◌, ◌++◌, length, drop, Option, Some, None, Result, Ok, Err, refl, sym, ap, arith}
use Rattle.std.specs.Char.{to_ascii_uppercase}
use Rattle.plcx_lex.specs.Token.{Token}
use Rattle.plcx_lex.specs.declared.terminal.Terminal.{Terminal}
use Rattle.plcx_lex.specs.declared.terminal.Terminal.TheVariants as t
use Rattle.plcx_lex.specs.Terminal.{terminal}
use Rattle.plcx_st.specs.Grammar.{word, number, marked_class, heading, ending, Each, IsAddress, IsInitial, IsDecl, IsBareDecl, IsMark, IsBlock, IsPou, AreStmts}
use Rattle.plcx_st.specs.Grammar as g
use Rattle.plcx_st.specs.declared.tree.Word.{Word}
use Rattle.plcx_st.specs.declared.tree.Number.{Number}
use Rattle.plcx_st.specs.declared.tree.TextKind.{TextKind}
use Rattle.plcx_st.specs.declared.tree.TextKind.TheVariants as kind
use Rattle.plcx_st.specs.declared.tree.TextClass.{TextClass}
use Rattle.plcx_st.specs.declared.tree.TextClass.TheVariants as class
use Rattle.plcx_st.specs.declared.tree.Mark.{Mark}
use Rattle.plcx_st.specs.declared.tree.Mark.TheVariants as mark
use Rattle.plcx_st.specs.declared.tree.Decl.{Decl}
use Rattle.plcx_st.specs.declared.tree.TextBlock.{TextBlock}
use Rattle.plcx_st.specs.declared.tree.Stmt.{Stmt}
use Rattle.plcx_st.specs.declared.tree.PouText.{PouText}
use Rattle.plcx_read.specs.Reading.{Stop, syntax, Read, ◌>>=◌, same, next, sees, expect, name_at, literal_at, all_of, statement, begins_stmt, address_token, address_at, initial_at, decl, bare_decl, begins_decl, mark_by, block_of, marked_block, block_by, block, begins_block, pou_of, pou_by, begins_pou, pou}
use Rattle.plcx_read.proofs.Steady.{Reader, done, fault_is, never_both}
use Rattle.plcx_read.proofs.SteadyLoops.{Eats}
use Rattle.plcx_read.proofs.SteadyUnits.{decl_eats, bare_decl_eats, block_eats, pou_eats}
use Rattle.plcx_read.proofs.Completes.{Language, Behind, Anything, NoName, Completes, stop_here, completes_along, one_by_one, inside, behind_token, whatever}
use Rattle.plcx_read.proofs.Sound.{Took, by_test, tested, sees_found, next_found, name_found, all_sound}
use Rattle.plcx_read.proofs.SoundStmts.{statements_sound}
use Rattle.plcx_read.proofs.SoundUnits.{Flat as no_depth, also_one as one_more, address_sound, initial_sound, decl_sound, bare_decl_sound, block_sound, blocks_sound, pou_sound}
use Rattle.plcx_read.proofs.CompletesLoops.{Takes, takes, read_then, expect_then, several_completes}
use Rattle.plcx_read.proofs.CompletesStmts.{stmts_completes}
use Rattle.plcx_read.proofs.CompletesExprs.{name_err, literal_err}
use Rattle.plcx_read.proofs.Shortest.{Flat, StmtLists, Pous, PouLists, Made, a_name, a_number, a_address, a_colon, a_semicolon, a_var, a_end_var, an_ending, a_start, a_pou}

module _ {R : Type 0} (L : Language) (a : ℕ) where
  -- a name is looked for; without it these would complete the whole
  name_then : (k : Read Word → Result R Stop) (us : List Token) (f : Stop) → (more : List Token) (d : ℕ) → d ≤ a → L more d
      → ((x : Token) (r : Read Word) → terminal x ≡ t.Name → k r ≡ Err f → Completes Anything (λ u d. L (x ∷ u) d) a r.2 f) → (name_at us >>= k) ≡ Err f → Completes Anything L a us f
  name_then k us f more d within whole behind h =
      one_by_one Anything L a (name_at us) k us f
      (λ bad. completes_along Anything L a us us (syntax, us) f refl (name_err us f bad) (stop_here Anything L a us more d within whole))
      (λ r good bad. (let o = name_found us r good in completes_along Anything L a (o.token ∷ r.2) us f f (sym o.parts) refl (behind_token Anything L a o.token r.2 f (behind o.token r o.is bad)))) h

-- ---- declarations

module _ (a : ℕ) where
  address_token_err : (ts : List Token) (f : Stop) → address_token ts ≡ Err f → (syntax, ts) ≡ f
  unfolding address_token
  address_token_err [] f h = fault_is {A = Read (Option (List ℕ))} (syntax, []) f h
  address_token_err (x ∷ ts) f h =
      tested (same (terminal x) t.Address) (done (Some (map to_ascii_uppercase x.text), 0, ts)) (syntax, x ∷ ts) f ((syntax, x ∷ ts) ≡ f) (λ is h'. absurd (never_both (Some (map to_ascii_uppercase x.text), 0, ts) f h')) (λ is. is) h

  address_fails : (ts : List Token) (f : Stop) → address_at ts ≡ Err f → Completes Anything (Flat IsAddress) a ts f
  unfolding address_at
  address_fails ts f h =
      by_test (sees t.At ts) (address_token (drop 1 ts)) (Ok (None, 0, ts)) (λ r. r ≡ Err f) (Completes Anything (Flat IsAddress) a ts f)
      (λ is bad. (let o = sees_found t.At ts is in
      completes_along Anything (Flat IsAddress) a (o.token ∷ drop 1 ts) ts f f (sym o.parts) refl (behind_token Anything (Flat IsAddress) a o.token (drop 1 ts) f
      (completes_along Anything (λ u d. Flat IsAddress (o.token ∷ u) d) a (drop 1 ts) (drop 1 ts) (syntax, drop 1 ts) f refl (address_token_err (drop 1 ts) f bad)
      (stop_here Anything (λ u d. Flat IsAddress (o.token ∷ u) d) a (drop 1 ts) (a_address.token ∷ []) 0 (omega arith) (_, g.address o.is a_address.is))))))
      (λ is bad. absurd (never_both {A = Read (Option (List ℕ))} (None, 0, ts) f bad)) h

  initial_fails : (ts : List Token) (f : Stop) → initial_at ts ≡ Err f → Completes Anything (Flat IsInitial) a ts f
  unfolding initial_at
  initial_fails ts f h =
      by_test (sees t.Assign ts) (literal_at (drop 1 ts) >>= λ v. Ok (Some v.0, 0, v.2)) (Ok (None, 0, ts)) (λ r. r ≡ Err f) (Completes Anything (Flat IsInitial) a ts f)
      (λ is bad. (let o = sees_found t.Assign ts is in let L : Language = λ u d. Flat IsInitial (o.token ∷ u) d in
      completes_along Anything (Flat IsInitial) a (o.token ∷ drop 1 ts) ts f f (sym o.parts) refl (behind_token Anything (Flat IsInitial) a o.token (drop 1 ts) f
      (one_by_one Anything L a (literal_at (drop 1 ts)) (λ v. Ok (Some v.0, 0, v.2)) (drop 1 ts) f
      (λ bad'. completes_along Anything L a (drop 1 ts) (drop 1 ts) (syntax, drop 1 ts) f refl (literal_err (drop 1 ts) f bad') (stop_here Anything L a (drop 1 ts) (a_number.token ∷ []) 0 (omega arith) (a_start o.token o.is)))
      (λ v good bad'. absurd (never_both {A = Read (Option Number)} (Some v.0, 0, v.2) f bad')) bad))))
      (λ is bad. absurd (never_both {A = Read (Option Number)} (None, 0, ts) f bad)) h

  -- what stands before the type
  abbrev named : Word → Option (List ℕ) → Read Word → Read (Option Number) → List Token → Read Decl
  named w place y start rest = (record { name = w; address = place; ty = y.0; initial = start.0 }, 0, rest)

  decl_fails : (ts : List Token) (f : Stop) → decl ts ≡ Err f → Completes Anything (Flat IsDecl) a ts f
  unfolding decl
  decl_fails ts f h =
      name_then (Flat IsDecl) a (λ w. address_at w.2 >>= λ place. expect t.Colon place.2 >>= λ behind. name_at behind >>= λ y. initial_at y.2 >>= λ start. expect t.Semicolon start.2 >>= λ rest. Ok (named w.0 place.0 y start rest)) ts f
      (a_name.token ∷ a_colon.token ∷ a_name.token ∷ a_semicolon.token ∷ []) 0 (omega arith) (_, g.decl a_colon.token a_name.token a_semicolon.token {xs = []} {ys = []} a_name.is g.no_address a_colon.is a_name.is g.no_initial a_semicolon.is)
      (λ x w is bad. (let L : Language = λ u d. Flat IsDecl (x ∷ u) d in
      read_then Anything L a (address_at w.2) (λ place. expect t.Colon place.2 >>= λ behind. name_at behind >>= λ y. initial_at y.2 >>= λ start. expect t.Semicolon start.2 >>= λ rest. Ok (named w.0 place.0 y start rest)) w.2 f
      (λ bad'. inside Anything L a (Flat IsAddress) a (λ d. d) (λ d le. le) (a_colon.token ∷ a_name.token ∷ a_semicolon.token ∷ []) (λ xs d l. (_, g.decl a_colon.token a_name.token a_semicolon.token {ys = []} is l.1 a_colon.is a_name.is g.no_initial a_semicolon.is)) w.2 f (address_fails w.2 f bad'))
      (Flat IsAddress) a (λ r fine. takes (no_depth IsAddress) a w.2 r (address_sound a w.2 r fine))
      (λ place xs d l le bad'. expect_then Anything (Behind L xs) a t.Colon (λ e. cc) (λ behind. name_at behind >>= λ y. initial_at y.2 >>= λ start. expect t.Semicolon start.2 >>= λ rest. Ok (named w.0 place.0 y start rest)) place.2 f
      (a_colon.token ∷ a_name.token ∷ a_semicolon.token ∷ []) 0 (omega arith) (_, g.decl a_colon.token a_name.token a_semicolon.token {ys = []} is l.1 a_colon.is a_name.is g.no_initial a_semicolon.is)
      (λ c behind colon bad''. whatever NoName (λ u d. Behind L xs (c ∷ u) d) a behind f
      (name_then (λ u d. Behind L xs (c ∷ u) d) a (λ y. initial_at y.2 >>= λ start. expect t.Semicolon start.2 >>= λ rest. Ok (named w.0 place.0 y start rest)) behind f
      (a_name.token ∷ a_semicolon.token ∷ []) 0 (omega arith) (_, g.decl c a_name.token a_semicolon.token {ys = []} is l.1 colon a_name.is g.no_initial a_semicolon.is)
      (λ y v kind' worse. (let M : Language = λ u d. Behind L xs (c ∷ y ∷ u) d in
      read_then Anything M a (initial_at v.2) (λ start. expect t.Semicolon start.2 >>= λ rest. Ok (named w.0 place.0 v start rest)) v.2 f
      (λ bad3. inside Anything M a (Flat IsInitial) a (λ d. d) (λ d le'. le') (a_semicolon.token ∷ []) (λ ys e m. (_, g.decl c y a_semicolon.token is l.1 colon kind' m.1 a_semicolon.is)) v.2 f (initial_fails v.2 f bad3))
      (Flat IsInitial) a (λ r fine. takes (no_depth IsInitial) a v.2 r (initial_sound a v.2 r fine))
      (λ start ys e m le' bad3. expect_then Anything (Behind M ys) a t.Semicolon (λ e'. cc) (λ rest. Ok (named w.0 place.0 v start rest)) start.2 f (a_semicolon.token ∷ []) 0 (omega arith) (_, g.decl c y a_semicolon.token is l.1 colon kind' m.1 a_semicolon.is)
      (λ z rest end' bad4. absurd (never_both (named w.0 place.0 v start rest) f bad4)) bad3) worse)) bad'')) bad') bad)) h

  abbrev bare : Read Word → Read Word → List Token → Read Decl
  bare w y rest = (record { name = w.0; address = None; ty = y.0; initial = None }, 0, rest)

  bare_decl_fails : (ts : List Token) (f : Stop) → bare_decl ts ≡ Err f → Completes Anything (Flat IsBareDecl) a ts f
  unfolding bare_decl
  bare_decl_fails ts f h =
      name_then (Flat IsBareDecl) a (λ w. expect t.Colon w.2 >>= λ behind. name_at behind >>= λ y. expect t.Semicolon y.2 >>= λ rest. Ok (bare w y rest)) ts f
      (a_name.token ∷ a_colon.token ∷ a_name.token ∷ a_semicolon.token ∷ []) 0 (omega arith) (_, g.bare_decl a_name.is a_colon.is a_name.is a_semicolon.is)
      (λ x w is bad. expect_then Anything (λ u d. Flat IsBareDecl (x ∷ u) d) a t.Colon (λ e. cc) (λ behind. name_at behind >>= λ y. expect t.Semicolon y.2 >>= λ rest. Ok (bare w y rest)) w.2 f
      (a_colon.token ∷ a_name.token ∷ a_semicolon.token ∷ []) 0 (omega arith) (_, g.bare_decl is a_colon.is a_name.is a_semicolon.is)
      (λ c behind colon bad'. whatever NoName (λ u d. Flat IsBareDecl (x ∷ c ∷ u) d) a behind f
      (name_then (λ u d. Flat IsBareDecl (x ∷ c ∷ u) d) a (λ y. expect t.Semicolon y.2 >>= λ rest. Ok (bare w y rest)) behind f
      (a_name.token ∷ a_semicolon.token ∷ []) 0 (omega arith) (_, g.bare_decl is colon a_name.is a_semicolon.is)
      (λ y v kind' worse. expect_then Anything (λ u d. Flat IsBareDecl (x ∷ c ∷ y ∷ u) d) a t.Semicolon (λ e. cc) (λ rest. Ok (bare w v rest)) v.2 f (a_semicolon.token ∷ []) 0 (omega arith) (_, g.bare_decl is colon kind' a_semicolon.is)
      (λ z rest end' bad3. absurd (never_both (bare w v rest) f bad3)) worse) bad')) bad) h

  -- ---- blocks

  also_one : {A : Type 0} (Is : List Token → A → Type 0) (w u : List Token) (d c : ℕ) → Flat Is w d → Flat (Each Is) u c → Flat (Each Is) (w ++ u) (max d c)
  also_one Is w u d c m r = (_, g.also m.1 r.1)

  -- what stands behind the heading of a block
  module _ (Is : List Token → Decl → Type 0) (one : Reader Decl) (fails : (ts : List Token) (f : Stop) → one ts ≡ Err f → Completes Anything (Flat Is) a ts f) (sound : (ts : List Token) (r : Read Decl) → one ts ≡ Ok r → Took (no_depth Is) a ts r)
      (eats : Eats one) (c : TextClass) (m : Mark) (L : Language) (whole : (z : Token) (xs : List Token) (ds : List Decl) → Each Is xs ds → terminal z ≡ t.EndVar → L (xs ++ z ∷ []) 0) where
    abbrev made : List Decl → List Token → Read TextBlock
    made ds rest = (record { class = c; mark = m; decls = ds }, 0, rest)

    decls_take : (ts : List Token) (r : Read (List Decl)) → all_of begins_decl one ts ≡ Ok r → Takes (Flat (Each Is)) a ts r.2
    decls_take ts r h = takes (no_depth (Each Is)) a ts r (all_sound begins_decl one (no_depth Is) (no_depth (Each Is)) a g.no_more (one_more Is) sound ts r h)

    block_of_fails : (ts : List Token) (f : Stop) → block_of one c m ts ≡ Err f → Completes Anything L a ts f
    unfolding block_of
    block_of_fails ts f h =
        read_then Anything L a (all_of begins_decl one ts) (λ ds. expect t.EndVar ds.2 >>= λ rest. Ok (made ds.0 rest)) ts f
        (λ bad. inside Anything L a (Flat (Each Is)) a (λ d. 0) (λ d le. omega arith) (a_end_var.token ∷ []) (λ w d l. whole a_end_var.token w l.0 l.1 a_end_var.is) ts f
        (several_completes begins_decl one (Flat Is) (Flat (Each Is)) a (_, g.no_more) (also_one Is) (λ vs y _ fine. takes (no_depth Is) a vs y (sound vs y fine)) eats (λ vs g' _ bad'. fails vs g' bad') (length ts + 1) [] 0 ts f (omega arith) bad))
        (Flat (Each Is)) a (decls_take ts)
        (λ ds w d l le bad. expect_then Anything (Behind L w) a t.EndVar (λ e. cc) (λ rest. Ok (made ds.0 rest)) ds.2 f (a_end_var.token ∷ []) 0 (omega arith) (whole a_end_var.token w l.0 l.1 a_end_var.is)
        (λ z rest end' bad'. absurd (never_both (made ds.0 rest) f bad')) bad) h

  module _ (h : Token) (c : TextClass) (is : marked_class (terminal h) ≡ Some c) where
    abbrev H : Language
    H = λ u d. Flat IsBlock (h ∷ u) d

    at_mark : (q : Terminal) (ts : List Token) (f : Stop) → next ts ≡ q → block_of decl c (mark_by q ts).0 (mark_by q ts).2 ≡ Err f → Completes Anything H a ts f
    at_mark t.Constant ts f sign bad =
        let o = next_found t.Constant ts (λ e. cc) sign in
        completes_along Anything H a (o.token ∷ drop 1 ts) ts f f (sym o.parts) refl (behind_token Anything H a o.token (drop 1 ts) f
        (block_of_fails IsDecl decl decl_fails (decl_sound a) decl_eats c mark.Constant (λ u d. H (o.token ∷ u) d) (λ z xs ds each end'. (_, g.marked z {ms = o.token ∷ []} is (g.constant o.is) each end')) (drop 1 ts) f bad))
    at_mark t.Retain ts f sign bad =
        let o = next_found t.Retain ts (λ e. cc) sign in
        completes_along Anything H a (o.token ∷ drop 1 ts) ts f f (sym o.parts) refl (behind_token Anything H a o.token (drop 1 ts) f
        (block_of_fails IsDecl decl decl_fails (decl_sound a) decl_eats c mark.Retain (λ u d. H (o.token ∷ u) d) (λ z xs ds each end'. (_, g.marked z {ms = o.token ∷ []} is (g.retain o.is) each end')) (drop 1 ts) f bad))
    at_mark _ ts f sign bad = block_of_fails IsDecl decl decl_fails (decl_sound a) decl_eats c mark.Plain H (λ z xs ds each end'. (_, g.marked z {ms = []} is g.plain each end')) ts f bad

    marked_fails : (ts : List Token) (f : Stop) → marked_block c ts ≡ Err f → Completes Anything H a ts f
    marked_fails ts f bad = at_mark (next ts) ts f refl bad

  -- a block at its first word
  module _ (h : Token) where
    abbrev B : Language
    B = λ u d. Flat IsBlock (h ∷ u) d

    -- an empty block
    shortest : Flat IsBlock (a_var.token ∷ a_end_var.token ∷ []) 0
    shortest = (_, g.marked a_end_var.token {ms = []} {xs = []} (ap marked_class a_var.is) g.plain g.no_more a_end_var.is)

    behind_heading : (us : List Token) (f : Stop) → Completes Anything B a us f → Completes Anything (Flat IsBlock) a (h ∷ us) f
    behind_heading us f c = behind_token Anything (Flat IsBlock) a h us f c

    block_kind_fails : (q : Terminal) (ts : List Token) (f : Stop) → terminal h ≡ q → block_by q h ts ≡ Err f → Completes Anything (Flat IsBlock) a (h ∷ ts) f
    block_kind_fails t.Var ts f is bad = behind_heading ts f (marked_fails h class.Var (ap marked_class is) ts f bad)
    block_kind_fails t.VarInput ts f is bad = behind_heading ts f (marked_fails h class.Input (ap marked_class is) ts f bad)
    block_kind_fails t.VarOutput ts f is bad = behind_heading ts f (marked_fails h class.Output (ap marked_class is) ts f bad)
    block_kind_fails t.VarTemp ts f is bad = behind_heading ts f (block_of_fails IsDecl decl decl_fails (decl_sound a) decl_eats class.Temp mark.Plain B (λ z xs ds each end'. (_, g.temporary z is each end')) ts f bad)
    block_kind_fails t.VarInOut ts f is bad = behind_heading ts f (block_of_fails IsBareDecl bare_decl bare_decl_fails (bare_decl_sound a) bare_decl_eats class.InOut mark.Plain B (λ z xs ds each end'. (_, g.in_out z is each end')) ts f bad)
    block_kind_fails _ ts f is bad = completes_along Anything (Flat IsBlock) a (h ∷ ts) (h ∷ ts) (syntax, h ∷ ts) f refl (fault_is {A = Read TextBlock} (syntax, h ∷ ts) f bad) (stop_here Anything (Flat IsBlock) a (h ∷ ts) _ 0 (omega arith) shortest)

  block_fails : (ts : List Token) (f : Stop) → block ts ≡ Err f → Completes Anything (Flat IsBlock) a ts f
  unfolding block
  block_fails [] f bad = completes_along Anything (Flat IsBlock) a [] [] (syntax, []) f refl (fault_is {A = Read TextBlock} (syntax, []) f bad) (stop_here Anything (Flat IsBlock) a [] _ 0 (omega arith) (shortest a_var.token))
  block_fails (h ∷ ts) f bad = block_kind_fails h (terminal h) ts f refl bad

-- ---- units

module _ (b : ℕ) where
  blocks_fail : (ts : List Token) (f : Stop) → all_of begins_block block ts ≡ Err f → Completes Anything (Flat (Each IsBlock)) b ts f
  blocks_fail ts f h =
      several_completes begins_block block (Flat IsBlock) (Flat (Each IsBlock)) b (_, g.no_more) (also_one b IsBlock) (λ vs y _ fine. takes (no_depth IsBlock) b vs y (block_sound b vs y fine)) block_eats (λ vs g' _ bad'. block_fails b vs g' bad') (length ts + 1) [] 0 ts f (omega arith) h

  module _ (k : TextKind) (h : Token) (is : terminal h ≡ heading k) where
    abbrev made_pou : Read Word → Read (List TextBlock) → Read (List Stmt) → List Token → Read PouText
    made_pou w bs ss rest = (record { kind = k; name = w.0; blocks = bs.0; body = ss.0 }, ss.1 + 1, rest)

    ending_other : (k : TextKind) → ending k ≡ t.Name → ⊥
    ending_other kind.Program e = cc
    ending_other kind.FunctionBlock e = cc

    abbrev z : Made (ending k)
    z = an_ending k

    pou_of_fails : (ts : List Token) (f : Stop) → pou_of b k (h ∷ ts) ≡ Err f → Completes Anything Pous (suc b) (h ∷ ts) f
    unfolding pou_of
    pou_of_fails ts f bad =
        behind_token Anything Pous (suc b) h ts f
        (name_then (λ u d. Pous (h ∷ u) d) (suc b) (λ w. all_of begins_block block w.2 >>= λ bs. all_of begins_stmt (statement b) bs.2 >>= λ ss. expect (ending k) ss.2 >>= λ rest. Ok (made_pou w bs ss rest)) ts f
        (a_name.token ∷ z.token ∷ []) 1 (omega arith) (_, g.pou k z.token {xs = []} {ys = []} is a_name.is g.no_more g.no_stmt z.is)
        (λ x w name bad1. (let L : Language = λ u d. Pous (h ∷ x ∷ u) d in
        read_then Anything L (suc b) (all_of begins_block block w.2) (λ bs. all_of begins_stmt (statement b) bs.2 >>= λ ss. expect (ending k) ss.2 >>= λ rest. Ok (made_pou w bs ss rest)) w.2 f
        (λ bad2. inside Anything L (suc b) (Flat (Each IsBlock)) b (λ d. 1) (λ d le. omega arith) (z.token ∷ []) (λ xs d l. (_, g.pou k z.token {ys = []} is name l.1 g.no_stmt z.is)) w.2 f (blocks_fail w.2 f bad2))
        (Flat (Each IsBlock)) b (λ r fine. takes (no_depth (Each IsBlock)) b w.2 r (blocks_sound b w.2 r fine))
        (λ bs xs d l le bad2.
        read_then Anything (Behind L xs) (suc b) (all_of begins_stmt (statement b) bs.2) (λ ss. expect (ending k) ss.2 >>= λ rest. Ok (made_pou w bs ss rest)) bs.2 f
        (λ bad3. inside Anything (Behind L xs) (suc b) StmtLists b suc (λ d' le'. omega arith) (z.token ∷ []) (λ ys d' m. (_, g.pou k z.token is name l.1 m.1 z.is)) bs.2 f (stmts_completes b bs.2 f bad3))
        StmtLists b (λ r fine. takes AreStmts b bs.2 r (statements_sound b bs.2 r fine))
        (λ ss ys d' m le' bad3. expect_then Anything (Behind (Behind L xs) ys) (suc b) (ending k) (ending_other k) (λ rest. Ok (made_pou w bs ss rest)) ss.2 f (z.token ∷ []) (suc d') (omega arith) (_, g.pou k z.token is name l.1 m.1 z.is)
        (λ y rest end' bad4. absurd (never_both (made_pou w bs ss rest) f bad4)) bad3) bad2) bad1)) bad)

  pou_kind_fails : (q : Terminal) (h : Token) (ts : List Token) (f : Stop) → terminal h ≡ q → pou_by b q h ts ≡ Err f → Completes Anything Pous (suc b) (h ∷ ts) f
  pou_kind_fails t.Program h ts f is bad = pou_of_fails kind.Program h is ts f bad
  pou_kind_fails t.FunctionBlock h ts f is bad = pou_of_fails kind.FunctionBlock h is ts f bad
  pou_kind_fails _ h ts f is bad = completes_along Anything Pous (suc b) (h ∷ ts) (h ∷ ts) (syntax, h ∷ ts) f refl (fault_is {A = Read PouText} (syntax, h ∷ ts) f bad) (stop_here Anything Pous (suc b) (h ∷ ts) _ 1 (omega arith) a_pou)

  pou_fails : (ts : List Token) (f : Stop) → pou (suc b) ts ≡ Err f → Completes Anything Pous (suc b) ts f
  unfolding pou
  pou_fails [] f bad = completes_along Anything Pous (suc b) [] [] (syntax, []) f refl (fault_is {A = Read PouText} (syntax, []) f bad) (stop_here Anything Pous (suc b) [] _ 1 (omega arith) a_pou)
  pou_fails (h ∷ ts) f bad = pou_kind_fails (terminal h) h ts f refl bad

  also_pou : (w u : List Token) (d c : ℕ) → Pous w d → PouLists u c → PouLists (w ++ u) (max d c)
  also_pou w u d c m r = (_, g.also_pou m.1 r.1)

  pub pous_complete : (ts : List Token) (f : Stop) → all_of begins_pou (pou (suc b)) ts ≡ Err f → Completes Anything PouLists (suc b) ts f
  pous_complete ts f h =
      several_completes begins_pou (pou (suc b)) Pous PouLists (suc b) (_, g.no_pou) also_pou (λ vs y _ fine. takes IsPou (suc b) vs y (pou_sound (suc b) vs y fine)) (pou_eats (suc b)) (λ vs g' _ bad. pou_fails vs g' bad) (length ts + 1) [] 0 ts f (omega arith) h
