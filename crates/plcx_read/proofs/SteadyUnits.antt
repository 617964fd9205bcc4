-- The readers of declarations and of units are steady.
use Rattle.std.proofs.Common.{◌≡◌, ℕ, zero, suc, ◌+◌, ◌≤◌, map, cond, List, [], ◌∷◌, length, drop, Option, Some, None, Ok, Err, refl, sym, ap, arith}
use Rattle.std.specs.Char.{to_ascii_uppercase}
use Rattle.plcx_lex.specs.Token.{Token}
use Rattle.plcx_lex.specs.declared.terminal.Terminal.{Terminal}
use Rattle.plcx_lex.specs.declared.terminal.Terminal.TheVariants as t
use Rattle.plcx_lex.specs.Terminal.{terminal}
use Rattle.plcx_st.specs.Grammar.{word, ending}
use Rattle.plcx_st.specs.declared.tree.Word.{Word}
use Rattle.plcx_st.specs.declared.tree.TextKind.{TextKind}
use Rattle.plcx_st.specs.declared.tree.TextKind.TheVariants as kind
use Rattle.plcx_st.specs.declared.tree.TextClass.{TextClass}
use Rattle.plcx_st.specs.declared.tree.TextClass.TheVariants as class
use Rattle.plcx_st.specs.declared.tree.Mark.{Mark}
use Rattle.plcx_st.specs.declared.tree.Mark.TheVariants as mark
use Rattle.plcx_st.specs.declared.tree.Decl.{Decl}
use Rattle.plcx_st.specs.declared.tree.TextBlock.{TextBlock}
use Rattle.plcx_st.specs.declared.tree.PouText.{PouText}
use Rattle.plcx_read.specs.Reading.{syntax, too_deep, Out, Read, ◌>>=◌, same, expect, name_at, literal_at, all_of, statement, begins_stmt, address_token, address_at, initial_at, decl, bare_decl, begins_decl, mark_by, block_of, marked_block, block_by, block, begins_block, pou_of, pou_by, begins_pou, pou}
use Rattle.plcx_read.proofs.Steady.{Reader, bind_ok, never_both, chosen, Steady, steady_pure, steady_fail, steady_deep, steady_bind, steady_skip, steady_choose, steady_next, steady_first, steady_sees, steady_expect}
use Rattle.plcx_read.proofs.SteadyLoops.{Eats, Leaves, leaves, steady_all}
use Rattle.plcx_read.proofs.SteadyExprs.{steady_name, steady_literal}
use Rattle.plcx_read.proofs.SteadyStmts.{steady_statements}

name_eats : Eats name_at
unfolding name_at
name_eats [] r h = absurd (never_both r (syntax, []) (sym h))
name_eats (x ∷ ts) r h =
    let e = chosen (same (terminal x) t.Name) (Ok (word x, 0, ts)) (syntax, x ∷ ts) r h in
    omega (arith, ap (λ (w : Out Word). behind w) (sym e))
  where
    behind : Out Word → ℕ
    behind (Ok r) = length r.2
    behind (Err f) = 0

-- what begins with a name takes something
begins_eats : {A : Type 0} (k : Word → ℕ → Reader A) → ((v : Word) (d : ℕ) → Leaves (k v d)) → Eats (λ ts. name_at ts >>= λ x. k x.0 x.1 x.2)
begins_eats k less ts r h =
    let b = bind_ok (name_at ts) (λ x. k x.0 x.1 x.2) r h in
    omega (arith, name_eats ts b.0 b.1, less b.0.0 b.0.1 b.0.2 r b.2)

-- ---- declarations

module _ (even : Type 0) where
  steady_address_token : Steady even address_token address_token
  unfolding address_token
  steady_address_token =
      let h : Token → Reader (Option (List ℕ)) = λ x ts. cond (same (terminal x) t.Address) (Ok (Some (map to_ascii_uppercase x.text), 0, drop 1 ts)) (Err (syntax, ts)) in
      steady_first even address_token address_token h h refl refl (λ x ts. refl) (λ x ts. refl)
      (λ x. steady_choose even (same (terminal x) t.Address) _ _ _ _ (steady_skip even _ _ (steady_pure even (Some (map to_ascii_uppercase x.text)) 0)) (steady_fail even))

  steady_address : Steady even address_at address_at
  unfolding address_at
  steady_address = steady_sees even t.At _ _ (steady_skip even _ _ steady_address_token) _ _ (steady_pure even None 0)

  steady_initial : Steady even initial_at initial_at
  unfolding initial_at
  steady_initial =
      steady_sees even t.Assign _ _ (steady_skip even _ _ (steady_bind even literal_at literal_at (λ v d us. Ok (Some v, 0, us)) (λ v d us. Ok (Some v, 0, us)) (steady_literal even) (λ v d. steady_pure even (Some v) 0)))
      _ _ (steady_pure even None 0)

  abbrev decl_behind : Word → ℕ → Reader Decl
  decl_behind w c ts = address_at ts >>= λ place. expect t.Colon place.2 >>= λ behind. name_at behind >>= λ y. initial_at y.2 >>= λ start. expect t.Semicolon start.2 >>= λ rest.
      Ok (record { name = w; address = place.0; ty = y.0; initial = start.0 }, 0, rest)

  steady_decl_behind : (w : Word) (c : ℕ) → Steady even (decl_behind w c) (decl_behind w c)
  steady_decl_behind w c =
      steady_bind even address_at address_at
      (λ place d us. expect t.Colon us >>= λ behind. name_at behind >>= λ y. initial_at y.2 >>= λ start. expect t.Semicolon start.2 >>= λ rest. Ok (record { name = w; address = place; ty = y.0; initial = start.0 }, 0, rest)) _ steady_address
      (λ place d. steady_expect even t.Colon _ _
      (steady_bind even name_at name_at (λ y f us. initial_at us >>= λ start. expect t.Semicolon start.2 >>= λ rest. Ok (record { name = w; address = place; ty = y; initial = start.0 }, 0, rest)) _ (steady_name even)
      (λ y f. steady_bind even initial_at initial_at (λ start g us. expect t.Semicolon us >>= λ rest. Ok (record { name = w; address = place; ty = y; initial = start }, 0, rest)) _ steady_initial
      (λ start g. steady_expect even t.Semicolon _ _ (steady_pure even (record { name = w; address = place; ty = y; initial = start }) 0)))))

  pub steady_decl : Steady even decl decl
  unfolding decl
  steady_decl = steady_bind even name_at name_at decl_behind decl_behind (steady_name even) steady_decl_behind

  abbrev bare_behind : Word → ℕ → Reader Decl
  bare_behind w c ts = expect t.Colon ts >>= λ behind. name_at behind >>= λ y. expect t.Semicolon y.2 >>= λ rest. Ok (record { name = w; address = None; ty = y.0; initial = None }, 0, rest)

  steady_bare_behind : (w : Word) (c : ℕ) → Steady even (bare_behind w c) (bare_behind w c)
  steady_bare_behind w c =
      steady_expect even t.Colon _ _
      (steady_bind even name_at name_at (λ y f us. expect t.Semicolon us >>= λ rest. Ok (record { name = w; address = None; ty = y; initial = None }, 0, rest)) _ (steady_name even)
      (λ y f. steady_expect even t.Semicolon _ _ (steady_pure even (record { name = w; address = None; ty = y; initial = None }) 0)))

  pub steady_bare_decl : Steady even bare_decl bare_decl
  unfolding bare_decl
  steady_bare_decl = steady_bind even name_at name_at bare_behind bare_behind (steady_name even) steady_bare_behind

pub decl_eats : Eats decl
unfolding decl
decl_eats = begins_eats (decl_behind ⊥) (λ w c. leaves ⊥ _ _ (steady_decl_behind ⊥ w c))

pub bare_decl_eats : Eats bare_decl
unfolding bare_decl
bare_decl_eats = begins_eats (bare_behind ⊥) (λ w c. leaves ⊥ _ _ (steady_bare_behind ⊥ w c))

-- ---- blocks

module _ (even : Type 0) where
  steady_block_of : (one : Reader Decl) → Steady even one one → Eats one → (c : TextClass) (m : Mark) → Steady even (block_of one c m) (block_of one c m)
  unfolding block_of
  steady_block_of one inside eats c m =
      steady_bind even (λ ts. all_of begins_decl one ts) (λ ts. all_of begins_decl one ts) (λ ds d us. expect t.EndVar us >>= λ rest. Ok (record { class = c; mark = m; decls = ds }, 0, rest)) _ (steady_all even begins_decl one one inside eats eats)
      (λ ds d. steady_expect even t.EndVar _ _ (steady_pure even (record { class = c; mark = m; decls = ds }) 0))

  abbrev marked_at : TextClass → Terminal → Reader TextBlock
  marked_at c q ts = block_of decl c (mark_by q ts).0 (mark_by q ts).2

  steady_marked_at : (c : TextClass) (q : Terminal) → Steady even (marked_at c q) (marked_at c q)
  steady_marked_at c t.Constant = steady_skip even _ _ (steady_block_of decl (steady_decl even) decl_eats c mark.Constant)
  steady_marked_at c t.Retain = steady_skip even _ _ (steady_block_of decl (steady_decl even) decl_eats c mark.Retain)
  steady_marked_at c _ = steady_block_of decl (steady_decl even) decl_eats c mark.Plain

  pub steady_marked : (c : TextClass) → Steady even (marked_block c) (marked_block c)
  steady_marked c = steady_next even (marked_at c) (marked_at c) (steady_marked_at c)

  abbrev block_kind : Terminal → Reader TextBlock
  block_kind t.Var ts = marked_block class.Var (drop 1 ts)
  block_kind t.VarInput ts = marked_block class.Input (drop 1 ts)
  block_kind t.VarOutput ts = marked_block class.Output (drop 1 ts)
  block_kind t.VarTemp ts = block_of decl class.Temp mark.Plain (drop 1 ts)
  block_kind t.VarInOut ts = block_of bare_decl class.InOut mark.Plain (drop 1 ts)
  block_kind _ ts = Err (syntax, ts)

  block_alike : (q : Terminal) (h : Token) (ts : List Token) → block_by q h ts ≡ block_kind q (h ∷ ts)
  block_alike t.Var h ts = refl
  block_alike t.VarInput h ts = refl
  block_alike t.VarOutput h ts = refl
  block_alike t.VarTemp h ts = refl
  block_alike t.VarInOut h ts = refl
  block_alike _ h ts = refl

  steady_block_kind : (q : Terminal) → Steady even (block_kind q) (block_kind q)
  steady_block_kind t.Var = steady_skip even _ _ (steady_marked class.Var)
  steady_block_kind t.VarInput = steady_skip even _ _ (steady_marked class.Input)
  steady_block_kind t.VarOutput = steady_skip even _ _ (steady_marked class.Output)
  steady_block_kind t.VarTemp = steady_skip even _ _ (steady_block_of decl (steady_decl even) decl_eats class.Temp mark.Plain)
  steady_block_kind t.VarInOut = steady_skip even _ _ (steady_block_of bare_decl (steady_bare_decl even) bare_decl_eats class.InOut mark.Plain)
  steady_block_kind _ = steady_fail even

  pub steady_block : Steady even block block
  unfolding block
  steady_block =
      steady_first even block block (λ x. block_kind (terminal x)) (λ x. block_kind (terminal x)) refl refl (λ x ts. block_alike (terminal x) x ts) (λ x ts. block_alike (terminal x) x ts) (λ x. steady_block_kind (terminal x))

block_takes : (q : Terminal) (x : Token) (ts : List Token) (r : Read TextBlock) → block_by q x ts ≡ Ok r → length r.2 ≤ length ts
block_takes t.Var x ts r h = leaves ⊥ _ _ (steady_marked ⊥ class.Var) ts r h
block_takes t.VarInput x ts r h = leaves ⊥ _ _ (steady_marked ⊥ class.Input) ts r h
block_takes t.VarOutput x ts r h = leaves ⊥ _ _ (steady_marked ⊥ class.Output) ts r h
block_takes t.VarTemp x ts r h = leaves ⊥ _ _ (steady_block_of ⊥ decl (steady_decl ⊥) decl_eats class.Temp mark.Plain) ts r h
block_takes t.VarInOut x ts r h = leaves ⊥ _ _ (steady_block_of ⊥ bare_decl (steady_bare_decl ⊥) bare_decl_eats class.InOut mark.Plain) ts r h
block_takes _ x ts r h = absurd (never_both r (syntax, x ∷ ts) (sym h))

pub block_eats : Eats block
unfolding block
block_eats [] r h = absurd (never_both r (syntax, []) (sym h))
block_eats (x ∷ ts) r h = omega (arith, block_takes (terminal x) x ts r h)

-- ---- units

module _ (even : Type 0) (b b' : ℕ) (le : b ≤ b') (tie : even → b ≡ b') where
  abbrev pou_behind : ℕ → TextKind → Word → ℕ → Reader PouText
  pou_behind a k w c ts = all_of begins_block block ts >>= λ bs. all_of begins_stmt (statement a) bs.2 >>= λ ss. expect (ending k) ss.2 >>= λ rest. Ok (record { kind = k; name = w; blocks = bs.0; body = ss.0 }, ss.1 + 1, rest)

  steady_pou_behind : (k : TextKind) (w : Word) (c : ℕ) → Steady even (pou_behind b k w c) (pou_behind b' k w c)
  steady_pou_behind k w c =
      steady_bind even (λ ts. all_of begins_block block ts) (λ ts. all_of begins_block block ts)
      (λ bs d us. all_of begins_stmt (statement b) us >>= λ ss. expect (ending k) ss.2 >>= λ rest. Ok (record { kind = k; name = w; blocks = bs; body = ss.0 }, ss.1 + 1, rest))
      (λ bs d us. all_of begins_stmt (statement b') us >>= λ ss. expect (ending k) ss.2 >>= λ rest. Ok (record { kind = k; name = w; blocks = bs; body = ss.0 }, ss.1 + 1, rest))
      (steady_all even begins_block block block (steady_block even) block_eats block_eats)
      (λ bs d. steady_bind even (λ ts. all_of begins_stmt (statement b) ts) (λ ts. all_of begins_stmt (statement b') ts)
      (λ ss f us. expect (ending k) us >>= λ rest. Ok (record { kind = k; name = w; blocks = bs; body = ss }, f + 1, rest)) (λ ss f us. expect (ending k) us >>= λ rest. Ok (record { kind = k; name = w; blocks = bs; body = ss }, f + 1, rest))
      (steady_statements even b b' le tie) (λ ss f. steady_expect even (ending k) _ _ (steady_pure even (record { kind = k; name = w; blocks = bs; body = ss }) (f + 1))))

  steady_pou_of : (k : TextKind) → Steady even (pou_of b k) (pou_of b' k)
  unfolding pou_of
  steady_pou_of k =
      steady_bind even (λ ts. name_at (drop 1 ts)) (λ ts. name_at (drop 1 ts)) (pou_behind b k) (pou_behind b' k) (steady_skip even name_at name_at (steady_name even)) (steady_pou_behind k)

  abbrev pou_kind : ℕ → Terminal → Reader PouText
  pou_kind a t.Program ts = pou_of a kind.Program ts
  pou_kind a t.FunctionBlock ts = pou_of a kind.FunctionBlock ts
  pou_kind a _ ts = Err (syntax, ts)

  pou_alike : (a : ℕ) (q : Terminal) (h : Token) (ts : List Token) → pou_by a q h ts ≡ pou_kind a q (h ∷ ts)
  pou_alike a t.Program h ts = refl
  pou_alike a t.FunctionBlock h ts = refl
  pou_alike a _ h ts = refl

  steady_pou_kind : (q : Terminal) → Steady even (pou_kind b q) (pou_kind b' q)
  steady_pou_kind t.Program = steady_pou_of kind.Program
  steady_pou_kind t.FunctionBlock = steady_pou_of kind.FunctionBlock
  steady_pou_kind _ = steady_fail even

  steady_pou_inside : Steady even (pou (suc b)) (pou (suc b'))
  unfolding pou
  steady_pou_inside =
      steady_first even (pou (suc b)) (pou (suc b')) (λ x. pou_kind b (terminal x)) (λ x. pou_kind b' (terminal x)) refl refl (λ x ts. pou_alike b (terminal x) x ts) (λ x ts. pou_alike b' (terminal x) x ts) (λ x. steady_pou_kind (terminal x))

pou_of_takes : (b : ℕ) (k : TextKind) (x : Token) (ts : List Token) (r : Read PouText) → pou_of b k (x ∷ ts) ≡ Ok r → length r.2 ≤ length ts
unfolding pou_of
pou_of_takes b k x ts r h =
    let m = begins_eats (pou_behind ⊥ b b (omega arith) (λ is. refl) b k) (λ w c. leaves ⊥ _ _ (steady_pou_behind ⊥ b b (omega arith) (λ is. refl) k w c)) ts r h in
    omega (arith, m)

pou_takes : (b : ℕ) (q : Terminal) (x : Token) (ts : List Token) (r : Read PouText) → pou_by b q x ts ≡ Ok r → length r.2 ≤ length ts
pou_takes b t.Program x ts r h = pou_of_takes b kind.Program x ts r h
pou_takes b t.FunctionBlock x ts r h = pou_of_takes b kind.FunctionBlock x ts r h
pou_takes b _ x ts r h = absurd (never_both r (syntax, x ∷ ts) (sym h))

pub pou_eats : (a : ℕ) → Eats (pou a)
unfolding pou
pou_eats zero ts r h = absurd (never_both r (too_deep, ts) (sym h))
pou_eats (suc b) [] r h = absurd (never_both r (syntax, []) (sym h))
pou_eats (suc b) (x ∷ ts) r h = omega (arith, pou_takes b (terminal x) x ts r h)

pub steady_pou : (even : Type 0) (a a' : ℕ) → a ≤ a' → (even → a ≡ a') → Steady even (pou a) (pou a')
unfolding pou
steady_pou even zero zero le tie = steady_deep even (λ ts. Err (too_deep, ts)) (λ is ts. refl)
steady_pou even zero (suc a') le tie = steady_deep even (pou (suc a')) (λ is ts. absurd (let h : 0 ≡ suc a' = tie is in omega arith))
steady_pou even (suc a) zero le tie = absurd (omega arith)
steady_pou even (suc a) (suc a') le tie = steady_pou_inside even a a' (omega arith) (λ is. (let h : suc a ≡ suc a' = tie is in omega arith))

-- all POUs
pub steady_pous : (even : Type 0) (a a' : ℕ) → a ≤ a' → (even → a ≡ a') → Steady even (λ ts. all_of begins_pou (pou a) ts) (λ ts. all_of begins_pou (pou a') ts)
steady_pous even a a' le tie = steady_all even begins_pou (pou a) (pou a') (steady_pou even a a' le tie) (pou_eats a) (pou_eats a')
