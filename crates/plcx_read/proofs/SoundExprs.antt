-- What is read as an expression is one.
use Rattle.std.proofs.Common.{◌≡◌, ℕ, ℤ, zero, suc, ◌+◌, ◌≤◌, ◌<◌, true, false, cond, ltb, max, add-one, List, [], ◌∷◌, ◌++◌, drop, Option, Some, None, Ok, Err, refl, sym, ap, subst, ◌∙◌, append_assoc, arith, inl, inr}
use Rattle.std.proofs.lemmas.Bool.{le-ltb, ltb-false, cases_lt}
use Rattle.plcx_types.specs.declared.ty.Ty.{Ty}
use Rattle.plcx_lex.specs.Token.{Token}
use Rattle.plcx_lex.specs.ReadNumber.{literal_of}
use Rattle.plcx_lex.proofs.Numbers.{literal_is}
use Rattle.plcx_lex.specs.declared.terminal.Terminal.{Terminal}
use Rattle.plcx_lex.specs.declared.terminal.Terminal.TheVariants as t
use Rattle.plcx_lex.specs.Terminal.{terminal}
use Rattle.plcx_st.specs.Grammar.{word, number, operator, level, IsExpr, AreExprs}
use Rattle.plcx_st.specs.Binding.{tightest}
use Rattle.plcx_st.specs.Grammar as g
use Rattle.plcx_st.specs.declared.tree.Number.{Number}
use Rattle.plcx_st.specs.declared.tree.Op.{Op}
use Rattle.plcx_st.specs.declared.tree.Op.TheVariants as op
use Rattle.plcx_st.specs.declared.tree.Expr.{Expr}
use Rattle.plcx_st.specs.declared.tree.Expr.TheVariants as e
use Rattle.plcx_read.specs.Reading.{syntax, too_deep, Out, Read, ◌>>=◌, same, next, expect, room, room_told, name_at, with_literal, literal_at, list_of, next_operator, binding, with_operator, call, member, bracketed, negated, named_by, valued, operand_by, operand, climb, level_of, expr}
use Rattle.plcx_read.proofs.Steady.{Reader, done, done_is, bind_ok}
use Rattle.plcx_read.proofs.Sound.{Took, took, by_test, passed, same_is, next_found, expect_found, name_found, list_sound}

-- ---- levels and depths

pub looser : {n : ℕ} {xs : List Token} {x : Expr} {d : ℕ} → IsExpr n xs x d → (m : ℕ) → m ≤ n → IsExpr m xs x d
looser (g.literal is l) m le = g.literal is l
looser (g.name is) m le = g.name is
looser (g.member i p o) m le = g.member i p o
looser (g.call c f b es z) m le = g.call c f b es z
looser (g.bracket c b x z) m le = g.bracket c b x z
looser (g.negation w x) m le = g.negation w x
looser (g.binary w tight x is y) m le = g.binary w (omega arith) x is y

pub positive : {n : ℕ} {xs : List Token} {x : Expr} {d : ℕ} → IsExpr n xs x d → 0 < d
positive (g.literal is l) = omega arith
positive (g.name is) = omega arith
positive (g.member i p o) = omega arith
positive (g.call c f b es z) = omega arith
positive (g.bracket c b x z) = omega arith
positive (g.negation w x) = omega arith
positive (g.binary w tight x is y) = omega arith

pub level_top : (o : Op) → level o < tightest
level_top op.Or = omega arith
level_top op.Xor = omega arith
level_top op.And = omega arith
level_top op.Equal = omega arith
level_top op.NotEqual = omega arith
level_top op.Less = omega arith
level_top op.Greater = omega arith
level_top op.LessOrEqual = omega arith
level_top op.GreaterOrEqual = omega arith
level_top op.Plus = omega arith
level_top op.Minus = omega arith
level_top op.Times = omega arith
level_top op.Divide = omega arith
level_top op.Mod = omega arith

-- ---- operators

pub record FoundOperator (least : ℕ) (o : Op) (ts : List Token) : Type 0 where
  pub token : Token
  pub is : operator (terminal token) ≡ Some o
  pub parts : ts ≡ token ∷ drop 1 ts
  pub tight : least ≤ level o

some_is : {A : Type 0} (x y : A) → Some x ≡ Some y → x ≡ y
some_is x y h = cc

binding_found : (least : ℕ) (m : Option Op) (o : Op) → binding least m ≡ Some o → (m ≡ Some o) × (least ≤ level o)
binding_found least None o h = absurd cc
binding_found least (Some p) o h =
    by_test (ltb (level p) least) None (Some p) (λ r. r ≡ Some o) ((Some p ≡ Some o) × (least ≤ level o)) (λ is h'. absurd cc)
    (λ is h'. (h', subst (λ (r : Op). least ≤ level r) (some_is p o h') (ltb-false (level p) least is))) h

pub operator_found : (least : ℕ) (ts : List Token) (o : Op) → next_operator least ts ≡ Some o → FoundOperator least o ts
operator_found least [] o h = absurd cc
operator_found least (x ∷ ts) o h = let b = binding_found least (operator (terminal x)) o h in record { token = x; is = b.0; parts = refl; tight = b.1 }

-- an operator that did not go on is looser
pub stopped_level : (n : ℕ) (ts : List Token) (o : Op) (least : ℕ) → next_operator n ts ≡ None → FoundOperator least o ts → level o < n
stopped_level n [] o least h p = absurd (let bad : [] ≡ p.token ∷ [] = p.parts in cc)
stopped_level n (x ∷ ts) o least h p =
    let same' : x ≡ p.token = cc in
    let is : operator (terminal x) ≡ Some o = ap (λ (v : Token). operator (terminal v)) same' ∙ p.is in
    elim (cases_lt (level o) n) [
      | inl lt ↦ lt
      | inr le ↦ absurd (let no' : ltb (level o) n ≡ false = le-ltb (level o) n le in
          let here : binding n (Some o) ≡ Some o = ap (λ c. cond c None (Some o)) no' in
          let bad : None ≡ Some o = sym h ∙ ap (binding n) is ∙ here in cc)
    ]

top_of : (m : Option Op) → binding (suc tightest) m ≡ None
top_of None = refl
top_of (Some o) = let lt : ltb (level o) (suc tightest) ≡ true = (let top = level_top o in grind (arith, top)) in ap (λ c. cond c None (Some o)) lt

pub stops_top : (us : List Token) → next_operator (suc tightest) us ≡ None
stops_top us = top_of (operator (next us))

-- ---- literals

pub record FoundLiteral (ts : List Token) (r : Read Number) : Type 0 where
  pub token : Token
  pub ty : Ty
  pub n : ℤ
  pub is : terminal token ≡ t.Number
  pub literal : literal_of token.text ≡ Some (ty, n)
  pub value : r.0 ≡ number token ty n
  pub parts : ts ≡ token ∷ r.2

with_found : (o : Option (Ty × ℤ)) (x : Token) (ts : List Token) (r : Read Number) → terminal x ≡ t.Number → literal_of x.text ≡ o → with_literal o x ts ≡ Ok r → FoundLiteral (x ∷ ts) r
with_found None x ts r is l h = absurd cc
with_found (Some v) x ts r is l h =
    let e = done_is (number x v.0 v.1, 0, ts) r h in
    record { token = x; ty = v.0; n = v.1; is = is; literal = l; value = ap (λ (q : Read Number). q.0) (sym e); parts = ap (λ (q : Read Number). x ∷ q.2) e }

pub literal_found : (ts : List Token) (r : Read Number) → literal_at ts ≡ Ok r → FoundLiteral ts r
unfolding literal_at
literal_found [] r h = absurd cc
literal_found (x ∷ ts) r h = let p = passed (same (terminal x) t.Number) (with_literal (literal_of x.text) x ts) (syntax, x ∷ ts) r h in with_found (literal_of x.text) x ts r (same_is (terminal x) t.Number p.0) refl p.1

-- ---- expressions

pub record TookExpr (a least : ℕ) (ts : List Token) (x : Read Expr) : Type 0 where
  pub tokens : List Token
  pub is : IsExpr least tokens x.0 x.1
  pub parts : ts ≡ tokens ++ x.2
  pub within : x.1 ≤ a
  pub stops : next_operator least x.2 ≡ None

pub as_took : (a least : ℕ) (ts : List Token) (x : Read Expr) → TookExpr a least ts x → Took (IsExpr least) a ts x
as_took a least ts x m = record { tokens = m.tokens; is = m.is; parts = m.parts; within = m.within }

stopped : (a least n : ℕ) (xs : List Token) (left : Expr) (depth : ℕ) (us : List Token) (x : Read Expr) → least ≤ n → IsExpr n xs left depth → depth ≤ a → next_operator least us ≡ None → done (left, depth, us) ≡ done x → TookExpr a least (xs ++ us) x
stopped a least n xs left depth us x le is within ends h =
    subst (λ (y : Read Expr). TookExpr a least (xs ++ us) y) (done_is (left, depth, us) x h) (record { tokens = xs; is = looser is least le; parts = refl; within = within; stops = ends })

module _ (a : ℕ) (inner : ℕ → Reader Expr) (sound : (least : ℕ) (ts : List Token) (x : Read Expr) → least ≤ tightest → inner least ts ≡ Ok x → TookExpr a least ts x) where
  abbrev Operand : List Token → Read Expr → Type 0
  Operand ts x = Took (IsExpr tightest) (suc a) ts x

  call_sound : (w : Token) (ts : List Token) (x : Read Expr) → terminal w ≡ t.Name → next ts ≡ t.Open → call a inner w ts ≡ Ok x → Operand (w ∷ ts) x
  unfolding call
  call_sound w ts x is opens h =
      let o = next_found t.Open ts (λ e. cc) opens in
      let r = bind_ok (room_told a w ts) (λ _. list_of (inner 0) (drop 1 ts) >>= λ xs. done (e.Call (word w) xs.0, xs.1 + 1, xs.2)) x h in
      let b = bind_ok (list_of (inner 0) (drop 1 ts)) (λ xs. done (e.Call (word w) xs.0, xs.1 + 1, xs.2)) x r.2 in
      let m = list_sound (inner 0) (IsExpr 0) AreExprs a (λ u v d i. g.one_expr i) (λ c u v x xs d d' i is' j. g.more_exprs c i is' j) (λ us y good. as_took a 0 us y (sound 0 us y (omega arith) good)) (drop 1 ts) b.0 b.1 in
      let rest : ts ≡ (o.token ∷ (m.tokens ++ m.close ∷ [])) ++ b.0.2 = o.parts ∙ ap (λ (u : List Token). o.token ∷ u) (m.parts ∙ sym (append_assoc m.tokens (m.close ∷ []) b.0.2)) in
      took (IsExpr tightest) (suc a) (w ∷ ts) (w ∷ o.token ∷ (m.tokens ++ m.close ∷ [])) b.0.2 (e.Call (word w) b.0.0) (suc b.0.1) (b.0.1 + 1) x (g.call m.close is o.is m.is m.shut) (omega arith)
      (ap (λ (u : List Token). w ∷ u) rest) (omega (arith, m.within)) b.2

  member_sound : (w : Token) (ts : List Token) (x : Read Expr) → terminal w ≡ t.Name → next ts ≡ t.Dot → member w ts ≡ Ok x → Operand (w ∷ ts) x
  unfolding member
  member_sound w ts x is dot h =
      let o = next_found t.Dot ts (λ e. cc) dot in
      let b = bind_ok (name_at (drop 1 ts)) (λ v. done (e.Member (word w) v.0, 1, v.2)) x h in
      let n = name_found (drop 1 ts) b.0 b.1 in
      took (IsExpr tightest) (suc a) (w ∷ ts) (w ∷ o.token ∷ n.token ∷ []) b.0.2 (e.Member (word w) b.0.0) 1 1 x
      (subst (λ v. IsExpr tightest (w ∷ o.token ∷ n.token ∷ []) (e.Member (word w) v) 1) (sym n.value) (g.member is o.is n.is)) refl
      (ap (λ (u : List Token). w ∷ u) (o.parts ∙ ap (λ (u : List Token). o.token ∷ u) n.parts)) (omega arith) b.2

  bracket_sound : (w : Token) (ts : List Token) (x : Read Expr) → terminal w ≡ t.Open → bracketed a inner (w ∷ ts) ≡ Ok x → Operand (w ∷ ts) x
  unfolding bracketed
  bracket_sound w ts x is h =
      let r = bind_ok (room a (w ∷ ts)) (λ _. inner 0 ts >>= λ y. expect t.Close y.2 >>= λ rest. done (y.0, y.1 + 1, rest)) x h in
      let b = bind_ok (inner 0 ts) (λ y. expect t.Close y.2 >>= λ rest. done (y.0, y.1 + 1, rest)) x r.2 in
      let m = sound 0 ts b.0 (omega arith) b.1 in
      let c = bind_ok (expect t.Close b.0.2) (λ rest. done (b.0.0, b.0.1 + 1, rest)) x b.2 in
      let z = expect_found t.Close b.0.2 c.0 c.1 in
      let rest : ts ≡ (m.tokens ++ z.token ∷ []) ++ c.0 = m.parts ∙ ap (λ (u : List Token). m.tokens ++ u) z.parts ∙ sym (append_assoc m.tokens (z.token ∷ []) c.0) in
      took (IsExpr tightest) (suc a) (w ∷ ts) (w ∷ (m.tokens ++ z.token ∷ [])) c.0 b.0.0 (suc b.0.1) (b.0.1 + 1) x (g.bracket z.token is m.is z.is) (omega arith) (ap (λ (u : List Token). w ∷ u) rest) (omega (arith, m.within)) c.2

  not_sound : (w : Token) (ts : List Token) (x : Read Expr) → terminal w ≡ t.Not → negated a inner w (w ∷ ts) ≡ Ok x → Operand (w ∷ ts) x
  unfolding negated
  not_sound w ts x is h =
      let r = bind_ok (room a (w ∷ ts)) (λ _. inner tightest ts >>= λ y. done (e.Not y.0 w.span, y.1 + 1, y.2)) x h in
      let b = bind_ok (inner tightest ts) (λ y. done (e.Not y.0 w.span, y.1 + 1, y.2)) x r.2 in
      let m = sound tightest ts b.0 (omega arith) b.1 in
      took (IsExpr tightest) (suc a) (w ∷ ts) (w ∷ m.tokens) b.0.2 (e.Not b.0.0 w.span) (suc b.0.1) (b.0.1 + 1) x (g.negation is m.is) (omega arith) (ap (λ (u : List Token). w ∷ u) m.parts) (omega (arith, m.within)) b.2

  named_sound : (q : Terminal) (w : Token) (ts : List Token) (x : Read Expr) → terminal w ≡ t.Name → next ts ≡ q → named_by a inner q w ts ≡ Ok x → Operand (w ∷ ts) x
  named_sound t.Open w ts x is next' h = call_sound w ts x is next' h
  named_sound t.Dot w ts x is next' h = member_sound w ts x is next' h
  named_sound _ w ts x is next' h = took (IsExpr tightest) (suc a) (w ∷ ts) (w ∷ []) ts (e.Name (word w)) 1 1 x (g.name is) refl refl (omega arith) h

  valued_sound : (ts : List Token) (x : Read Expr) → valued ts ≡ Ok x → Operand ts x
  unfolding valued
  valued_sound ts x h =
      let b = bind_ok (literal_at ts) (λ v. done (e.Number v.0, 1, v.2)) x h in
      let n = literal_found ts b.0 b.1 in
      took (IsExpr tightest) (suc a) ts (n.token ∷ []) b.0.2 (e.Number b.0.0) 1 1 x
      (subst (λ v. IsExpr tightest (n.token ∷ []) (e.Number v) 1) (sym n.value) (g.literal n.is (literal_is n.token.text n.ty n.n n.literal))) refl n.parts (omega arith) b.2

  kind_sound : (q : Terminal) (w : Token) (ts : List Token) (x : Read Expr) → terminal w ≡ q → operand_by a inner q w ts ≡ Ok x → Operand (w ∷ ts) x
  kind_sound t.Name w ts x is h = named_sound (next ts) w ts x is refl h
  kind_sound t.Number w ts x is h = valued_sound (w ∷ ts) x h
  kind_sound t.Open w ts x is h = bracket_sound w ts x is h
  kind_sound t.Not w ts x is h = not_sound w ts x is h
  kind_sound _ w ts x is h = absurd cc

  pub operand_sound : (ts : List Token) (x : Read Expr) → operand a inner ts ≡ Ok x → Operand ts x
  unfolding operand
  operand_sound [] x h = absurd cc
  operand_sound (w ∷ ts) x h = kind_sound (terminal w) w ts x refl h

  climb_sound : (f least n : ℕ) (xs : List Token) (left : Expr) (depth : ℕ) (us : List Token) (x : Read Expr) → least ≤ n → IsExpr n xs left depth → depth ≤ suc a → next_operator (suc n) us ≡ None → climb a inner f least left depth us ≡ Ok x → TookExpr (suc a) least (xs ++ us) x
  unfolding climb
  climb_sound zero least n xs left depth us x le lefts within stop h =
      elim (next_operator least us) as (λ m. next_operator least us ≡ m → with_operator {A = Out Expr} m (Ok (left, depth, us)) (λ o. Err (too_deep, us)) ≡ Ok x → TookExpr (suc a) least (xs ++ us) x) [
        | None ↦ λ is h'. stopped (suc a) least n xs left depth us x le lefts within is h'
        | Some o ↦ λ is h'. absurd cc
      ] refl h
  climb_sound (suc f) least n xs left depth us x le lefts within stop h =
      elim (next_operator least us) as (λ m. next_operator least us ≡ m → with_operator {A = Out Expr} m (Ok (left, depth, us)) (λ o.
      cond (ltb a depth) (Err (too_deep, us)) (inner (level o + 1) (drop 1 us) >>= λ y. climb a inner f least (e.Binary o left y.0) (max depth y.1 + 1) y.2)) ≡ Ok x → TookExpr (suc a) least (xs ++ us) x) [
        | None ↦ λ is h'. stopped (suc a) least n xs left depth us x le lefts within is h'
        | Some o ↦ λ is h'.
            let p = operator_found least us o is in
            by_test (ltb a depth) (Err (too_deep, us)) (inner (level o + 1) (drop 1 us) >>= λ y. climb a inner f least (e.Binary o left y.0) (max depth y.1 + 1) y.2) (λ r. r ≡ Ok x) (TookExpr (suc a) least (xs ++ us) x)
            (λ full bad. absurd cc)
            (λ fits good.
            (let low : depth ≤ a = ltb-false a depth fits in
            let b = bind_ok (inner (level o + 1) (drop 1 us)) (λ y. climb a inner f least (e.Binary o left y.0) (max depth y.1 + 1) y.2) x good in
            let y : Read Expr = b.0 in
            let r = sound (level o + 1) (drop 1 us) y (let top = level_top o in omega (arith, top)) b.1 in
            let tighter : IsExpr (level o) xs left depth = looser lefts (level o) (let lt = stopped_level (suc n) us o least stop p in omega arith) in
            let right : IsExpr (suc (level o)) r.tokens y.0 y.1 = subst (λ (i : ℕ). IsExpr i r.tokens y.0 y.1) (add-one (level o)) r.is in
            let whole : IsExpr (level o) (xs ++ p.token ∷ r.tokens) (e.Binary o left y.0) (suc (max depth y.1)) = g.binary p.token (omega arith) tighter p.is right in
            let ends : next_operator (suc (level o)) y.2 ≡ None = subst (λ (i : ℕ). next_operator i y.2 ≡ None) (add-one (level o)) r.stops in
            let parts : (xs ++ p.token ∷ r.tokens) ++ y.2 ≡ xs ++ us = append_assoc xs (p.token ∷ r.tokens) y.2 ∙ ap (λ (z : List Token). xs ++ z) (ap (λ (z : List Token). p.token ∷ z) (sym r.parts) ∙ sym p.parts) in
            subst (λ (w : List Token). TookExpr (suc a) least w x) parts
            (climb_sound f least (level o) (xs ++ p.token ∷ r.tokens) (e.Binary o left y.0) (max depth y.1 + 1) y.2 x p.tight
            (subst (λ (i : ℕ). IsExpr (level o) (xs ++ p.token ∷ r.tokens) (e.Binary o left y.0) i) (sym (add-one (max depth y.1))) whole) (omega (arith, r.within)) ends b.2))) h'
      ] refl h

  level_sound : (least : ℕ) (ts : List Token) (x : Read Expr) → least ≤ tightest → level_of a inner least ts ≡ Ok x → TookExpr (suc a) least ts x
  unfolding level_of
  level_sound least ts x le h =
      let b = bind_ok (operand a inner ts) (λ y. climb a inner (a + 1) least y.0 y.1 y.2) x h in
      let m = operand_sound ts b.0 b.1 in
      subst (λ (w : List Token). TookExpr (suc a) least w x) (sym m.parts) (climb_sound (a + 1) least tightest m.tokens b.0.0 b.0.1 b.0.2 x le m.is m.within (stops_top b.0.2) b.2)

pub expr_sound : (a least : ℕ) (ts : List Token) (x : Read Expr) → least ≤ tightest → expr a least ts ≡ Ok x → TookExpr a least ts x
unfolding expr
expr_sound zero least ts x le h = absurd cc
expr_sound (suc a) least ts x le h = level_sound a (expr a) (expr_sound a) least ts x le h
