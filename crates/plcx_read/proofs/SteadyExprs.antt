-- The readers of single tokens and of expressions are steady.
use Rattle.std.proofs.Common.{◌≡◌, ℕ, ℤ, zero, suc, ◌+◌, ◌≤◌, max, cond, ltb, List, [], ◌∷◌, drop, Option, Some, None, Ok, Err, refl, ap, arith}
use Rattle.std.proofs.lemmas.Bool.{le-ltb, ltb-false}
use Rattle.plcx_types.specs.declared.ty.Ty.{Ty}
use Rattle.plcx_lex.specs.Token.{Token}
use Rattle.plcx_lex.specs.ReadNumber.{literal_of}
use Rattle.plcx_lex.specs.declared.terminal.Terminal.{Terminal}
use Rattle.plcx_lex.specs.declared.terminal.Terminal.TheVariants as t
use Rattle.plcx_lex.specs.Terminal.{terminal}
use Rattle.plcx_st.specs.Grammar.{word, number, operator, level}
use Rattle.plcx_st.specs.Binding.{tightest}
use Rattle.plcx_st.specs.declared.tree.Word.{Word}
use Rattle.plcx_st.specs.declared.tree.Number.{Number}
use Rattle.plcx_st.specs.declared.tree.Op.{Op}
use Rattle.plcx_st.specs.declared.tree.Expr.{Expr}
use Rattle.plcx_st.specs.declared.tree.Expr.TheVariants as e
use Rattle.plcx_read.specs.Reading.{syntax, too_deep, Out, ◌>>=◌, same, next, expect, name_at, with_literal, literal_at, list_of, binding, with_operator, call, member, bracketed, negated, named_by, valued, operand_by, operand, climb, level_of, expr}
use Rattle.plcx_read.proofs.Steady.{Reader, Steady, steady_pure, steady_fail, steady_deep, steady_bind, steady_skip, steady_alike, steady_choose, steady_if_deep, steady_next, steady_first, steady_expect, steady_room, steady_told}
use Rattle.plcx_read.proofs.SteadyLoops.{Leaves, leaves, steady_list}

-- ---- single tokens

module _ (even : Type 0) where
  pub steady_name : Steady even name_at name_at
  unfolding name_at
  steady_name =
      let h : Token → Reader Word = λ x ts. cond (same (terminal x) t.Name) (Ok (word x, 0, drop 1 ts)) (Err (syntax, ts)) in
      steady_first even name_at name_at h h refl refl (λ x ts. refl) (λ x ts. refl)
      (λ x. steady_choose even (same (terminal x) t.Name) _ _ _ _ (steady_skip even _ _ (steady_pure even (word x) 0)) (steady_fail even))

  abbrev literal_by : Option (Ty × ℤ) → Token → Reader Number
  literal_by None x ts = Err (syntax, ts)
  literal_by (Some v) x ts = Ok (number x v.0 v.1, 0, drop 1 ts)

  literal_alike : (o : Option (Ty × ℤ)) (x : Token) (ts : List Token) → with_literal o x ts ≡ literal_by o x (x ∷ ts)
  literal_alike None x ts = refl
  literal_alike (Some v) x ts = refl

  steady_literal_by : (o : Option (Ty × ℤ)) (x : Token) → Steady even (literal_by o x) (literal_by o x)
  steady_literal_by None x = steady_fail even
  steady_literal_by (Some v) x = steady_skip even _ _ (steady_pure even (number x v.0 v.1) 0)

  pub steady_literal : Steady even literal_at literal_at
  unfolding literal_at
  steady_literal =
      let h : Token → Reader Number = λ x ts. cond (same (terminal x) t.Number) (literal_by (literal_of x.text) x ts) (Err (syntax, ts)) in
      let alike : (x : Token) (ts : List Token) → literal_at (x ∷ ts) ≡ h x (x ∷ ts) = λ x ts. ap (λ (w : Out Number). cond (same (terminal x) t.Number) w (Err (syntax, x ∷ ts))) (literal_alike (literal_of x.text) x ts) in
      steady_first even literal_at literal_at h h refl refl alike alike (λ x. steady_choose even (same (terminal x) t.Number) _ _ _ _ (steady_literal_by (literal_of x.text) x) (steady_fail even))

-- ---- operands

abbrev operand_kind : (a : ℕ) (inner : ℕ → Reader Expr) → Terminal → Token → Reader Expr
operand_kind a inner t.Name x ts = named_by a inner (next (drop 1 ts)) x (drop 1 ts)
operand_kind a inner t.Number x ts = valued ts
operand_kind a inner t.Open x ts = bracketed a inner ts
operand_kind a inner t.Not x ts = negated a inner x ts
operand_kind a inner _ x ts = Err (syntax, ts)

kind_alike : (a : ℕ) (inner : ℕ → Reader Expr) (q : Terminal) (x : Token) (ts : List Token) → operand_by a inner q x ts ≡ operand_kind a inner q x (x ∷ ts)
kind_alike a inner t.Name x ts = refl
kind_alike a inner _ x ts = refl

operand_some : (a : ℕ) (inner : ℕ → Reader Expr) (x : Token) (ts : List Token) → operand a inner (x ∷ ts) ≡ operand_kind a inner (terminal x) x (x ∷ ts)
unfolding operand
operand_some a inner x ts = kind_alike a inner (terminal x) x ts

operand_none : (a : ℕ) (inner : ℕ → Reader Expr) → operand a inner [] ≡ Err (syntax, [])
unfolding operand
operand_none a inner = refl

-- what climbing does by the operator that comes
climb_at : (a : ℕ) (inner : ℕ → Reader Expr) (n least : ℕ) (left : Expr) (depth : ℕ) → Option Op → Reader Expr
climb_at a inner zero least left depth m ts = with_operator m (Ok (left, depth, ts)) (λ o. Err (too_deep, ts))
climb_at a inner (suc n) least left depth m ts =
    with_operator m (Ok (left, depth, ts)) (λ o. cond (ltb a depth) (Err (too_deep, ts)) (inner (level o + 1) (drop 1 ts) >>= λ x. climb a inner n least (e.Binary o left x.0) (max depth x.1 + 1) x.2))

climb_alike : (a : ℕ) (inner : ℕ → Reader Expr) (n least : ℕ) (left : Expr) (depth : ℕ) (ts : List Token) → climb a inner n least left depth ts ≡ climb_at a inner n least left depth (binding least (operator (next ts))) ts
unfolding climb climb_at
climb_alike a inner zero least left depth ts = refl
climb_alike a inner (suc n) least left depth ts = refl

module _ (even : Type 0) (a a' : ℕ) (le : a ≤ a') (tie : even → a ≡ a') (inner inner' : ℕ → Reader Expr) (each : (least : ℕ) → Steady even (inner least) (inner' least)) (less : Leaves (inner 0)) (less' : Leaves (inner' 0)) where
  steady_call : (w : Token) → Steady even (call a inner w) (call a' inner' w)
  unfolding call
  steady_call w =
      steady_told even a a' le tie _ _ (steady_bind even (λ ts. list_of (inner 0) (drop 1 ts)) (λ ts. list_of (inner' 0) (drop 1 ts)) (λ v d us. Ok (e.Call (word w) v, d + 1, us)) (λ v d us. Ok (e.Call (word w) v, d + 1, us))
      (steady_skip even (λ ts. list_of (inner 0) ts) (λ ts. list_of (inner' 0) ts) (steady_list even (inner 0) (inner' 0) (each 0) less less')) (λ v d. steady_pure even (e.Call (word w) v) (d + 1))) w

  steady_member : (w : Token) → Steady even (member w) (member w)
  unfolding member
  steady_member w =
      steady_bind even (λ ts. name_at (drop 1 ts)) (λ ts. name_at (drop 1 ts)) (λ v d us. Ok (e.Member (word w) v, 1, us)) (λ v d us. Ok (e.Member (word w) v, 1, us))
      (steady_skip even name_at name_at (steady_name even)) (λ v d. steady_pure even (e.Member (word w) v) 1)

  steady_bracketed : Steady even (bracketed a inner) (bracketed a' inner')
  unfolding bracketed
  steady_bracketed =
      steady_room even a a' le tie _ _ (steady_bind even (λ ts. inner 0 (drop 1 ts)) (λ ts. inner' 0 (drop 1 ts)) (λ v d us. expect t.Close us >>= λ rest. Ok (v, d + 1, rest)) (λ v d us. expect t.Close us >>= λ rest. Ok (v, d + 1, rest))
      (steady_skip even (inner 0) (inner' 0) (each 0)) (λ v d. steady_expect even t.Close _ _ (steady_pure even v (d + 1))))

  steady_negated : (w : Token) → Steady even (negated a inner w) (negated a' inner' w)
  unfolding negated
  steady_negated w =
      steady_room even a a' le tie _ _ (steady_bind even (λ ts. inner tightest (drop 1 ts)) (λ ts. inner' tightest (drop 1 ts)) (λ v d us. Ok (e.Not v w.span, d + 1, us)) (λ v d us. Ok (e.Not v w.span, d + 1, us))
      (steady_skip even (inner tightest) (inner' tightest) (each tightest)) (λ v d. steady_pure even (e.Not v w.span) (d + 1)))

  steady_valued : Steady even valued valued
  unfolding valued
  steady_valued = steady_bind even literal_at literal_at (λ v d us. Ok (e.Number v, 1, us)) (λ v d us. Ok (e.Number v, 1, us)) (steady_literal even) (λ v d. steady_pure even (e.Number v) 1)

  steady_named : (w : Token) (q : Terminal) → Steady even (named_by a inner q w) (named_by a' inner' q w)
  steady_named w t.Open = steady_call w
  steady_named w t.Dot = steady_member w
  steady_named w _ = steady_pure even (e.Name (word w)) 1

  steady_kind : (q : Terminal) (x : Token) → Steady even (operand_kind a inner q x) (operand_kind a' inner' q x)
  steady_kind t.Name x = steady_skip even (λ ts. named_by a inner (next ts) x ts) (λ ts. named_by a' inner' (next ts) x ts) (steady_next even (λ q. named_by a inner q x) (λ q. named_by a' inner' q x) (steady_named x))
  steady_kind t.Number x = steady_valued
  steady_kind t.Open x = steady_bracketed
  steady_kind t.Not x = steady_negated x
  steady_kind _ x = steady_fail even

  steady_operand : Steady even (operand a inner) (operand a' inner')
  steady_operand =
      steady_first even (operand a inner) (operand a' inner') (λ x. operand_kind a inner (terminal x) x) (λ x. operand_kind a' inner' (terminal x) x)
      (operand_none a inner) (operand_none a' inner') (operand_some a inner) (operand_some a' inner') (λ x. steady_kind (terminal x) x)

  steady_at_operator : (f g least : ℕ) (left : Expr) (depth : ℕ) → ((left : Expr) (depth : ℕ) → Steady even (climb a inner f least left depth) (climb a' inner' g least left depth))
      → (m : Option Op) → Steady even (climb_at a inner (suc f) least left depth m) (climb_at a' inner' (suc g) least left depth m)
  unfolding climb_at
  steady_at_operator f g least left depth go None = steady_pure even left depth
  steady_at_operator f g least left depth go (Some o) =
      steady_if_deep even (ltb a depth) (ltb a' depth) _ _ (λ h. (let low : depth ≤ a = ltb-false a depth h in le-ltb a' depth (omega arith))) (λ is. ap (λ i. ltb i depth) (tie is))
      (steady_bind even (λ ts. inner (level o + 1) (drop 1 ts)) (λ ts. inner' (level o + 1) (drop 1 ts)) (λ v d. climb a inner f least (e.Binary o left v) (max depth d + 1)) (λ v d. climb a' inner' g least (e.Binary o left v) (max depth d + 1))
      (steady_skip even (inner (level o + 1)) (inner' (level o + 1)) (each (level o + 1))) (λ v d. go (e.Binary o left v) (max depth d + 1)))

  steady_end : (g least : ℕ) (left : Expr) (depth : ℕ) → (even → 0 ≡ g) → (m : Option Op) → Steady even (climb_at a inner zero least left depth m) (climb_at a' inner' g least left depth m)
  unfolding climb_at
  steady_end zero least left depth equal None = steady_pure even left depth
  steady_end (suc g) least left depth equal None = steady_pure even left depth
  steady_end zero least left depth equal (Some o) = steady_deep even (λ ts. Err (too_deep, ts)) (λ is ts. refl)
  steady_end (suc g) least left depth equal (Some o) = steady_deep even (climb_at a' inner' (suc g) least left depth (Some o)) (λ is ts. absurd (let h : 0 ≡ suc g = equal is in omega arith))

  steady_looked : (f g least : ℕ) (left : Expr) (depth : ℕ) → ((m : Option Op) → Steady even (climb_at a inner f least left depth m) (climb_at a' inner' g least left depth m))
      → Steady even (climb a inner f least left depth) (climb a' inner' g least left depth)
  steady_looked f g least left depth each_operator =
      steady_alike even _ (λ ts. climb_at a inner f least left depth (binding least (operator (next ts))) ts) _ (λ ts. climb_at a' inner' g least left depth (binding least (operator (next ts))) ts)
      (climb_alike a inner f least left depth) (climb_alike a' inner' g least left depth)
      (steady_next even (λ q. climb_at a inner f least left depth (binding least (operator q))) (λ q. climb_at a' inner' g least left depth (binding least (operator q))) (λ q. each_operator (binding least (operator q))))

  steady_climb : (f g least : ℕ) (left : Expr) (depth : ℕ) → f ≤ g → (even → f ≡ g) → Steady even (climb a inner f least left depth) (climb a' inner' g least left depth)
  steady_climb zero g least left depth fits equal = steady_looked zero g least left depth (steady_end g least left depth equal)
  steady_climb (suc f) zero least left depth fits equal = absurd (omega arith)
  steady_climb (suc f) (suc g) least left depth fits equal =
      steady_looked (suc f) (suc g) least left depth (steady_at_operator f g least left depth (λ l d. steady_climb f g least l d (omega arith) (λ is. (let h : suc f ≡ suc g = equal is in omega arith))))

  pub steady_level : (least : ℕ) → Steady even (level_of a inner least) (level_of a' inner' least)
  unfolding level_of
  steady_level least =
      steady_bind even (operand a inner) (operand a' inner') (λ v d. climb a inner (a + 1) least v d) (λ v d. climb a' inner' (a' + 1) least v d) steady_operand
      (λ v d. steady_climb (a + 1) (a' + 1) least v d (omega arith) (λ is. (let h : a ≡ a' = tie is in omega arith)))

-- beside itself
self_steady : (a least : ℕ) → Steady ⊥ (expr a least) (expr a least)
unfolding expr
self_steady zero least = steady_deep ⊥ (λ ts. Err (too_deep, ts)) (λ is ts. refl)
self_steady (suc a) least =
    let less : Leaves (expr a 0) = leaves ⊥ (expr a 0) (expr a 0) (self_steady a 0) in
    steady_level ⊥ a a (omega arith) (λ is. refl) (expr a) (expr a) (self_steady a) less less least

pub expr_leaves : (a : ℕ) → Leaves (expr a 0)
expr_leaves a = leaves ⊥ (expr a 0) (expr a 0) (self_steady a 0)

pub steady_expr : (even : Type 0) (a a' : ℕ) → a ≤ a' → (even → a ≡ a') → (least : ℕ) → Steady even (expr a least) (expr a' least)
unfolding expr
steady_expr even zero zero le tie least = steady_deep even (λ ts. Err (too_deep, ts)) (λ is ts. refl)
steady_expr even zero (suc a') le tie least = steady_deep even (expr (suc a') least) (λ is ts. absurd (let h : 0 ≡ suc a' = tie is in omega arith))
steady_expr even (suc a) zero le tie least = absurd (omega arith)
steady_expr even (suc a) (suc a') le tie least =
    let le' : a ≤ a' = omega arith in
    let tie' : even → a ≡ a' = λ is. (let h : suc a ≡ suc a' = tie is in omega arith) in
    steady_level even a a' le' tie' (expr a) (expr a') (steady_expr even a a' le' tie') (expr_leaves a) (expr_leaves a') least
