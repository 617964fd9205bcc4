-- What is read as a declaration or as a unit is one.
use Rattle.std.proofs.Common.{◌≡◌, ℕ, zero, suc, ◌+◌, ◌≤◌, true, cond, eqb, eqb→eq, T, max, map, List, [], ◌∷◌, ◌++◌, length, drop, Option, Some, None, Ok, Err, refl, sym, ap, subst, ◌∙◌, append_assoc, arith}
use Rattle.std.proofs.lemmas.List.{append-nil}
use Rattle.std.specs.Char.{to_ascii_uppercase}
use Rattle.plcx_lex.specs.Token.{Token}
use Rattle.plcx_lex.proofs.Numbers.{literal_is}
use Rattle.plcx_lex.specs.declared.terminal.Terminal.{Terminal}
use Rattle.plcx_lex.specs.declared.terminal.Terminal.TheVariants as t
use Rattle.plcx_lex.specs.Terminal.{terminal}
use Rattle.plcx_st.specs.Grammar.{word, number, marked_class, heading, ending, Each, IsAddress, IsInitial, IsDecl, IsBareDecl, IsBlock, IsPou, AreStmts, ArePous}
use Rattle.plcx_st.specs.Grammar as g
use Rattle.plcx_st.specs.declared.tree.Word.{Word}
use Rattle.plcx_st.specs.declared.tree.Number.{Number}
use Rattle.plcx_st.specs.declared.tree.TextKind.{TextKind}
use Rattle.plcx_st.specs.declared.tree.TextKind.TheVariants as kind
use Rattle.plcx_st.specs.declared.tree.TextClass.{TextClass}
use Rattle.plcx_st.specs.declared.tree.TextClass.TheVariants as class
use Rattle.plcx_st.specs.declared.tree.Mark.{Mark}
use Rattle.plcx_st.specs.declared.tree.Mark.TheVariants as mark
use Rattle.plcx_st.specs.declared.tree.Decl.{Decl}
use Rattle.plcx_st.specs.declared.tree.TextBlock.{TextBlock}
use Rattle.plcx_st.specs.declared.tree.Stmt.{Stmt}
use Rattle.plcx_st.specs.declared.tree.PouText.{PouText}
use Rattle.plcx_read.specs.Reading.{syntax, Read, ◌>>=◌, same, next, sees, expect, name_at, literal_at, all_of, statement, begins_stmt, address_token, address_at, initial_at, decl, bare_decl, begins_decl, mark_by, block_of, marked_block, block_by, block, begins_block, pou_of, pou_by, begins_pou, pou, pous}
use Rattle.plcx_read.proofs.Steady.{Reader, done, done_is, bind_ok}
use Rattle.plcx_read.proofs.Sound.{Took, took, by_test, passed, same_is, sees_found, next_found, expect_found, name_found, all_sound}
use Rattle.plcx_read.proofs.SoundExprs.{literal_found}
use Rattle.plcx_read.proofs.SoundStmts.{statements_sound}

-- a relation that has no depth
abbrev pub Flat : {A : Type 0} → (List Token → A → Type 0) → List Token → A → ℕ → Type 0
Flat Is w v d = Is w v

pub also_one : {A : Type 0} (Is : List Token → A → Type 0) (w u : List Token) (v : A) (vs : List A) (d c : ℕ) → Is w v → Each Is u vs → Each Is (w ++ u) (v ∷ vs)
also_one Is w u v vs d c i j = g.also i j

-- what was read, where depths do not matter
pub flat : {A : Type 0} (Is : List Token → A → Type 0) (a : ℕ) (ts tokens rest : List Token) (v : A) (x : Read A) → Is tokens v → ts ≡ tokens ++ rest → done (v, 0, rest) ≡ done x → Took (Flat Is) a ts x
flat Is a ts tokens rest v x is parts h = took (Flat Is) a ts tokens rest v 0 0 x is refl parts (omega arith) h

-- ---- declarations

module _ (a : ℕ) where
  address_token_sound : (w : Token) (ts : List Token) (r : Read (Option (List ℕ))) → terminal w ≡ t.At → address_token ts ≡ Ok r → Took (Flat IsAddress) a (w ∷ ts) r
  unfolding address_token
  address_token_sound w [] r is h = absurd cc
  address_token_sound w (x ∷ ts) r is h =
      let p = passed (same (terminal x) t.Address) (done (Some (map to_ascii_uppercase x.text), 0, ts)) (syntax, x ∷ ts) r h in
      flat IsAddress a (w ∷ x ∷ ts) (w ∷ x ∷ []) ts (Some (map to_ascii_uppercase x.text)) r (g.address is (same_is (terminal x) t.Address p.0)) refl p.1

  pub address_sound : (ts : List Token) (r : Read (Option (List ℕ))) → address_at ts ≡ Ok r → Took (Flat IsAddress) a ts r
  unfolding address_at
  address_sound ts r h =
      by_test (sees t.At ts) (address_token (drop 1 ts)) (done (None, 0, ts)) (λ q. q ≡ Ok r) (Took (Flat IsAddress) a ts r)
      (λ is h'. (let o = sees_found t.At ts is in subst (λ (u : List Token). Took (Flat IsAddress) a u r) (sym o.parts) (address_token_sound o.token (drop 1 ts) r o.is h')))
      (λ is h'. flat IsAddress a ts [] ts None r g.no_address refl h') h

  pub initial_sound : (ts : List Token) (r : Read (Option Number)) → initial_at ts ≡ Ok r → Took (Flat IsInitial) a ts r
  unfolding initial_at
  initial_sound ts r h =
      by_test (sees t.Assign ts) (literal_at (drop 1 ts) >>= λ v. Ok (Some v.0, 0, v.2)) (done (None, 0, ts)) (λ q. q ≡ Ok r) (Took (Flat IsInitial) a ts r)
      (λ is h'. (let o = sees_found t.Assign ts is in
      let b = bind_ok (literal_at (drop 1 ts)) (λ v. done (Some v.0, 0, v.2)) r h' in
      let x = literal_found (drop 1 ts) b.0 b.1 in
      flat IsInitial a ts (o.token ∷ x.token ∷ []) b.0.2 (Some b.0.0) r (subst (λ v. IsInitial (o.token ∷ x.token ∷ []) (Some v)) (sym x.value) (g.initial o.is x.is (literal_is x.token.text x.ty x.n x.literal)))
      (o.parts ∙ ap (λ (w : List Token). o.token ∷ w) x.parts) b.2))
      (λ is h'. flat IsInitial a ts [] ts None r g.no_initial refl h') h

  abbrev named : Read Word → Read (Option (List ℕ)) → Read Word → Read (Option Number) → List Token → Read Decl
  named w place y start rest = (record { name = w.0; address = place.0; ty = y.0; initial = start.0 }, 0, rest)

  pub decl_sound : (ts : List Token) (r : Read Decl) → decl ts ≡ Ok r → Took (Flat IsDecl) a ts r
  unfolding decl
  decl_sound ts r h =
      let w = bind_ok (name_at ts) (λ w. address_at w.2 >>= λ place. expect t.Colon place.2 >>= λ behind. name_at behind >>= λ y. initial_at y.2 >>= λ start. expect t.Semicolon start.2 >>= λ rest. done (named w place y start rest)) r h in
      let x = name_found ts w.0 w.1 in
      let p = bind_ok (address_at w.0.2) (λ place. expect t.Colon place.2 >>= λ behind. name_at behind >>= λ y. initial_at y.2 >>= λ start. expect t.Semicolon start.2 >>= λ rest. done (named w.0 place y start rest)) r w.2 in
      let xs = address_sound w.0.2 p.0 p.1 in
      let b = bind_ok (expect t.Colon p.0.2) (λ behind. name_at behind >>= λ y. initial_at y.2 >>= λ start. expect t.Semicolon start.2 >>= λ rest. done (named w.0 p.0 y start rest)) r p.2 in
      let c = expect_found t.Colon p.0.2 b.0 b.1 in
      let v = bind_ok (name_at b.0) (λ y. initial_at y.2 >>= λ start. expect t.Semicolon start.2 >>= λ rest. done (named w.0 p.0 y start rest)) r b.2 in
      let y = name_found b.0 v.0 v.1 in
      let s = bind_ok (initial_at v.0.2) (λ start. expect t.Semicolon start.2 >>= λ rest. done (named w.0 p.0 v.0 start rest)) r v.2 in
      let ys = initial_sound v.0.2 s.0 s.1 in
      let e = bind_ok (expect t.Semicolon s.0.2) (λ rest. done (named w.0 p.0 v.0 s.0 rest)) r s.2 in
      let z = expect_found t.Semicolon s.0.2 e.0 e.1 in
      let end' : List Token = ys.tokens ++ z.token ∷ [] in
      let middle : List Token = xs.tokens ++ c.token ∷ y.token ∷ end' in
      let last : v.0.2 ≡ end' ++ e.0 = ys.parts ∙ ap (λ (u : List Token). ys.tokens ++ u) z.parts ∙ sym (append_assoc ys.tokens (z.token ∷ []) e.0) in
      let parts : w.0.2 ≡ middle ++ e.0 = xs.parts ∙ ap (λ (u : List Token). xs.tokens ++ u) (c.parts ∙ ap (λ (u : List Token). c.token ∷ u) (y.parts ∙ ap (λ (u : List Token). y.token ∷ u) last)) ∙ sym (append_assoc xs.tokens (c.token ∷ y.token ∷ end') e.0) in
      let made : Decl = record { name = word x.token; address = p.0.0; ty = word y.token; initial = s.0.0 } in
      let same' : made ≡ (named w.0 p.0 v.0 s.0 e.0).0 = ap (λ n. record { name = n; address = p.0.0; ty = word y.token; initial = s.0.0 }) (sym x.value) ∙ ap (λ n. record { name = w.0.0; address = p.0.0; ty = n; initial = s.0.0 }) (sym y.value) in
      flat IsDecl a ts (x.token ∷ middle) e.0 (named w.0 p.0 v.0 s.0 e.0).0 r (subst (λ (d : Decl). IsDecl (x.token ∷ middle) d) same' (g.decl c.token y.token z.token x.is xs.is c.is y.is ys.is z.is)) (x.parts ∙ ap (λ (u : List Token). x.token ∷ u) parts) e.2

  abbrev bare : Read Word → Read Word → List Token → Read Decl
  bare w y rest = (record { name = w.0; address = None; ty = y.0; initial = None }, 0, rest)

  pub bare_decl_sound : (ts : List Token) (r : Read Decl) → bare_decl ts ≡ Ok r → Took (Flat IsBareDecl) a ts r
  unfolding bare_decl
  bare_decl_sound ts r h =
      let w = bind_ok (name_at ts) (λ w. expect t.Colon w.2 >>= λ behind. name_at behind >>= λ y. expect t.Semicolon y.2 >>= λ rest. done (bare w y rest)) r h in
      let x = name_found ts w.0 w.1 in
      let b = bind_ok (expect t.Colon w.0.2) (λ behind. name_at behind >>= λ y. expect t.Semicolon y.2 >>= λ rest. done (bare w.0 y rest)) r w.2 in
      let c = expect_found t.Colon w.0.2 b.0 b.1 in
      let v = bind_ok (name_at b.0) (λ y. expect t.Semicolon y.2 >>= λ rest. done (bare w.0 y rest)) r b.2 in
      let y = name_found b.0 v.0 v.1 in
      let e = bind_ok (expect t.Semicolon v.0.2) (λ rest. done (bare w.0 v.0 rest)) r v.2 in
      let z = expect_found t.Semicolon v.0.2 e.0 e.1 in
      let tokens : List Token = x.token ∷ c.token ∷ y.token ∷ z.token ∷ [] in
      let made : Decl = record { name = word x.token; address = None; ty = word y.token; initial = None } in
      let same' : made ≡ (bare w.0 v.0 e.0).0 = ap (λ n. record { name = n; address = None; ty = word y.token; initial = None }) (sym x.value) ∙ ap (λ n. record { name = w.0.0; address = None; ty = n; initial = None }) (sym y.value) in
      flat IsBareDecl a ts tokens e.0 (bare w.0 v.0 e.0).0 r (subst (λ (d : Decl). IsBareDecl tokens d) same' (g.bare_decl x.is c.is y.is z.is))
      (x.parts ∙ ap (λ (u : List Token). x.token ∷ u) (c.parts ∙ ap (λ (u : List Token). c.token ∷ u) (y.parts ∙ ap (λ (u : List Token). y.token ∷ u) z.parts))) e.2

  -- ---- blocks

  -- declarations behind these tokens, and the end of the block
  module _ (Is : List Token → Decl → Type 0) (one : Reader Decl) (sound : (ts : List Token) (r : Read Decl) → one ts ≡ Ok r → Took (Flat Is) a ts r) (c : TextClass) (m : Mark) (pre : List Token)
      (whole : (z : Token) (xs : List Token) (ds : List Decl) → Each Is xs ds → terminal z ≡ t.EndVar → IsBlock (pre ++ (xs ++ z ∷ [])) (record { class = c; mark = m; decls = ds })) where
    abbrev made_block : List Decl → List Token → Read TextBlock
    made_block ds rest = (record { class = c; mark = m; decls = ds }, 0, rest)

    pub decls_sound : (ts : List Token) (r : Read (List Decl)) → all_of begins_decl one ts ≡ Ok r → Took (Flat (Each Is)) a ts r
    decls_sound ts r h = all_sound begins_decl one (Flat Is) (Flat (Each Is)) a g.no_more (also_one Is) sound ts r h

    pub block_of_sound : (ts : List Token) (r : Read TextBlock) → block_of one c m ts ≡ Ok r → Took (Flat IsBlock) a (pre ++ ts) r
    unfolding block_of
    block_of_sound ts r h =
        let b = bind_ok (all_of begins_decl one ts) (λ ds. expect t.EndVar ds.2 >>= λ rest. done (made_block ds.0 rest)) r h in
        let xs = decls_sound ts b.0 b.1 in
        let e = bind_ok (expect t.EndVar b.0.2) (λ rest. done (made_block b.0.0 rest)) r b.2 in
        let z = expect_found t.EndVar b.0.2 e.0 e.1 in
        let rest : ts ≡ (xs.tokens ++ z.token ∷ []) ++ e.0 = xs.parts ∙ ap (λ (u : List Token). xs.tokens ++ u) z.parts ∙ sym (append_assoc xs.tokens (z.token ∷ []) e.0) in
        flat IsBlock a (pre ++ ts) (pre ++ (xs.tokens ++ z.token ∷ [])) e.0 (made_block b.0.0 e.0).0 r (whole z.token xs.tokens b.0.0 xs.is z.is)
        (ap (λ (u : List Token). pre ++ u) rest ∙ sym (append_assoc pre (xs.tokens ++ z.token ∷ []) e.0)) e.2

  module _ (h : Token) (c : TextClass) (is : marked_class (terminal h) ≡ Some c) where
    mark_sound : (q : Terminal) (ts : List Token) (r : Read TextBlock) → next ts ≡ q → block_of decl c (mark_by q ts).0 (mark_by q ts).2 ≡ Ok r → Took (Flat IsBlock) a (h ∷ ts) r
    mark_sound t.Constant ts r sign good =
        let o = next_found t.Constant ts (λ e. cc) sign in
        subst (λ (u : List Token). Took (Flat IsBlock) a (h ∷ u) r) (sym o.parts)
        (block_of_sound IsDecl decl decl_sound c mark.Constant (h ∷ o.token ∷ []) (λ z xs ds each ends. g.marked z {ms = o.token ∷ []} is (g.constant o.is) each ends) (drop 1 ts) r good)
    mark_sound t.Retain ts r sign good =
        let o = next_found t.Retain ts (λ e. cc) sign in
        subst (λ (u : List Token). Took (Flat IsBlock) a (h ∷ u) r) (sym o.parts)
        (block_of_sound IsDecl decl decl_sound c mark.Retain (h ∷ o.token ∷ []) (λ z xs ds each ends. g.marked z {ms = o.token ∷ []} is (g.retain o.is) each ends) (drop 1 ts) r good)
    mark_sound _ ts r sign good = block_of_sound IsDecl decl decl_sound c mark.Plain (h ∷ []) (λ z xs ds each ends. g.marked z {ms = []} is g.plain each ends) ts r good

    marked_sound : (ts : List Token) (r : Read TextBlock) → marked_block c ts ≡ Ok r → Took (Flat IsBlock) a (h ∷ ts) r
    marked_sound ts r good = mark_sound (next ts) ts r refl good

  block_kind_sound : (q : Terminal) (h : Token) (ts : List Token) (r : Read TextBlock) → terminal h ≡ q → block_by q h ts ≡ Ok r → Took (Flat IsBlock) a (h ∷ ts) r
  block_kind_sound t.Var h ts r is good = marked_sound h class.Var (ap marked_class is) ts r good
  block_kind_sound t.VarInput h ts r is good = marked_sound h class.Input (ap marked_class is) ts r good
  block_kind_sound t.VarOutput h ts r is good = marked_sound h class.Output (ap marked_class is) ts r good
  block_kind_sound t.VarTemp h ts r is good = block_of_sound IsDecl decl decl_sound class.Temp mark.Plain (h ∷ []) (λ z xs ds each ends. g.temporary z is each ends) ts r good
  block_kind_sound t.VarInOut h ts r is good = block_of_sound IsBareDecl bare_decl bare_decl_sound class.InOut mark.Plain (h ∷ []) (λ z xs ds each ends. g.in_out z is each ends) ts r good
  block_kind_sound _ h ts r is good = absurd cc

  pub block_sound : (ts : List Token) (r : Read TextBlock) → block ts ≡ Ok r → Took (Flat IsBlock) a ts r
  unfolding block
  block_sound [] r good = absurd cc
  block_sound (h ∷ ts) r good = block_kind_sound (terminal h) h ts r refl good

  pub blocks_sound : (ts : List Token) (r : Read (List TextBlock)) → all_of begins_block block ts ≡ Ok r → Took (Flat (Each IsBlock)) a ts r
  blocks_sound ts r h = all_sound begins_block block (Flat IsBlock) (Flat (Each IsBlock)) a g.no_more (also_one IsBlock) block_sound ts r h

-- ---- units

module _ (b : ℕ) where
  abbrev made_pou : TextKind → Read Word → Read (List TextBlock) → Read (List Stmt) → List Token → Read PouText
  made_pou k w bs ss rest = (record { kind = k; name = w.0; blocks = bs.0; body = ss.0 }, ss.1 + 1, rest)

  pou_of_sound : (k : TextKind) (h : Token) (ts : List Token) (r : Read PouText) → terminal h ≡ heading k → pou_of b k (h ∷ ts) ≡ Ok r → Took IsPou (suc b) (h ∷ ts) r
  unfolding pou_of
  pou_of_sound k h ts r is good =
      let w = bind_ok (name_at ts) (λ w. all_of begins_block block w.2 >>= λ bs. all_of begins_stmt (statement b) bs.2 >>= λ ss. expect (ending k) ss.2 >>= λ rest. done (made_pou k w bs ss rest)) r good in
      let x = name_found ts w.0 w.1 in
      let bs = bind_ok (all_of begins_block block w.0.2) (λ bs. all_of begins_stmt (statement b) bs.2 >>= λ ss. expect (ending k) ss.2 >>= λ rest. done (made_pou k w.0 bs ss rest)) r w.2 in
      let xs = blocks_sound b w.0.2 bs.0 bs.1 in
      let ss = bind_ok (all_of begins_stmt (statement b) bs.0.2) (λ ss. expect (ending k) ss.2 >>= λ rest. done (made_pou k w.0 bs.0 ss rest)) r bs.2 in
      let ys = statements_sound b bs.0.2 ss.0 ss.1 in
      let e = bind_ok (expect (ending k) ss.0.2) (λ rest. done (made_pou k w.0 bs.0 ss.0 rest)) r ss.2 in
      let y = expect_found (ending k) ss.0.2 e.0 e.1 in
      let end' : List Token = ys.tokens ++ y.token ∷ [] in
      let last : bs.0.2 ≡ end' ++ e.0 = ys.parts ∙ ap (λ (u : List Token). ys.tokens ++ u) y.parts ∙ sym (append_assoc ys.tokens (y.token ∷ []) e.0) in
      let middle : w.0.2 ≡ (xs.tokens ++ end') ++ e.0 = xs.parts ∙ ap (λ (u : List Token). xs.tokens ++ u) last ∙ sym (append_assoc xs.tokens end' e.0) in
      let tokens : List Token = h ∷ x.token ∷ (xs.tokens ++ end') in
      took IsPou (suc b) (h ∷ ts) tokens e.0 (made_pou k w.0 bs.0 ss.0 e.0).0 (suc ss.0.1) (ss.0.1 + 1) r
      (subst (λ n. IsPou tokens (record { kind = k; name = n; blocks = bs.0.0; body = ss.0.0 }) (suc ss.0.1)) (sym x.value) (g.pou k y.token is x.is xs.is ys.is y.is)) (omega arith)
      (ap (λ (u : List Token). h ∷ u) (x.parts ∙ ap (λ (u : List Token). x.token ∷ u) middle)) (omega (arith, ys.within)) e.2

  pou_kind_sound : (q : Terminal) (h : Token) (ts : List Token) (r : Read PouText) → terminal h ≡ q → pou_by b q h ts ≡ Ok r → Took IsPou (suc b) (h ∷ ts) r
  pou_kind_sound t.Program h ts r is good = pou_of_sound kind.Program h ts r is good
  pou_kind_sound t.FunctionBlock h ts r is good = pou_of_sound kind.FunctionBlock h ts r is good
  pou_kind_sound _ h ts r is good = absurd cc

pub pou_sound : (a : ℕ) (ts : List Token) (r : Read PouText) → pou a ts ≡ Ok r → Took IsPou a ts r
unfolding pou
pou_sound zero ts r good = absurd cc
pou_sound (suc b) [] r good = absurd cc
pou_sound (suc b) (h ∷ ts) r good = pou_kind_sound b (terminal h) h ts r refl good

also_pou : (w u : List Token) (v : PouText) (vs : List PouText) (d c : ℕ) → IsPou w v d → ArePous u vs c → ArePous (w ++ u) (v ∷ vs) (max d c)
also_pou w u v vs d c i j = g.also_pou i j

pub all_pous_sound : (a : ℕ) (ts : List Token) (r : Read (List PouText)) → all_of begins_pou (pou a) ts ≡ Ok r → Took ArePous a ts r
all_pous_sound a ts r h = all_sound begins_pou (pou a) IsPou ArePous a g.no_pou also_pou (pou_sound a) ts r h

pub nothing_left : (ts : List Token) → eqb (length ts) 0 ≡ true → ts ≡ []
nothing_left [] h = refl
nothing_left (x ∷ ts) h = absurd (omega (arith, eqb→eq (suc (length ts)) 0 (subst T (sym h) tt)))

pub pous_sound : (a : ℕ) (ts : List Token) (ps : List PouText) → pous a ts ≡ Ok ps → (d : ℕ) × (d ≤ a) × ArePous ts ps d
unfolding pous
pous_sound a ts ps h =
    let b = bind_ok (all_of begins_pou (pou a) ts) (λ y. cond (eqb (length y.2) 0) (done y.0) (Err (syntax, y.2))) ps h in
    let y : Read (List PouText) = b.0 in
    let p = passed (eqb (length y.2) 0) (done y.0) (syntax, y.2) ps b.2 in
    let m = all_pous_sound a ts y b.1 in
    let all : ts ≡ m.tokens = m.parts ∙ ap (λ (w : List Token). m.tokens ++ w) (nothing_left y.2 p.0) ∙ append-nil m.tokens in
    (y.1, m.within, subst (λ (v : List PouText). ArePous ts v y.1) (done_is y.0 ps p.1) (subst (λ (w : List Token). ArePous w y.0 y.1) (sym all) m.is))
