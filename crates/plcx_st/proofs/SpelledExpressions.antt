-- The tokens of a printed expression are that expression.
use Rattle.std.proofs.Common.{◌≡◌, ℕ, suc, ◌≤◌, true, false, max, cond, ltb, List, [], ◌∷◌, ◌++◌, map, Some, refl, sym, ap, subst, ◌∙◌, arith}
use Rattle.std.specs.Prelude.{codes}
use Rattle.std.proofs.lemmas.List.{append-nil}
use Rattle.std.proofs.lemmas.Bool.{ltb-false}
use Rattle.plcx_types.specs.Printed as literal
use Rattle.plcx_types.specs.Value.{Value}
use Rattle.plcx_lex.specs.Token.{Token}
use Rattle.plcx_lex.specs.Number.{IsLiteral}
use Rattle.plcx_meaning.specs.Tree.{Operator, Or, Xor, And, Equal, NotEqual, Less, Greater, LessOrEqual, GreaterOrEqual, Plus, Minus, Times, Divide, Mod, Expression, Number, Name, Member, Apply, Not, Binary, Expressions, no_expression, expression, expressions}
use Rattle.plcx_st.specs.declared.tree.Op.{Op}
use Rattle.plcx_st.specs.declared.tree.Op.TheVariants as op
use Rattle.plcx_st.specs.declared.tree.Expr.{Expr}
use Rattle.plcx_st.specs.declared.tree.Expr.TheVariants as e
use Rattle.plcx_lex.specs.Terminal.{terminal, terminal_of}
use Rattle.plcx_st.specs.Grammar as grammar
use Rattle.plcx_st.specs.Grammar.{IsExpr, AreExprs, operator}
use Rattle.plcx_st.specs.Meant.{op_meant, expr_meant}
use Rattle.plcx_st.specs.Binding.{level, tightest}
use Rattle.plcx_st.specs.Print.{Shape, word, sign, name, number, operator_shape, in_brackets, expression_shapes, further_shapes}
use Rattle.plcx_st.specs.Depth.{expression_depth, list_depth}
use Rattle.plcx_st.specs.InRange.{ExpressionInRange, ExpressionsInRange}
use Rattle.plcx_st.specs.Fitting.{ExpressionFits, ExpressionsFit}
use Rattle.plcx_st.proofs.Views.{number_view, name_view, member_view, call_view, not_view, binary_view}
use Rattle.plcx_st.proofs.Literals.{literal_printed}
use Rattle.plcx_st.proofs.Split.{Shaped, split, headed, empty, last_one, terminal_is, text_is}

-- ---- operators

abbrev op_of : Operator → Op
op_of Or = op.Or
op_of Xor = op.Xor
op_of And = op.And
op_of Equal = op.Equal
op_of NotEqual = op.NotEqual
op_of Less = op.Less
op_of Greater = op.Greater
op_of LessOrEqual = op.LessOrEqual
op_of GreaterOrEqual = op.GreaterOrEqual
op_of Plus = op.Plus
op_of Minus = op.Minus
op_of Times = op.Times
op_of Divide = op.Divide
op_of Mod = op.Mod

record Operates (o : Operator) : Type 0 where
  same : op_meant (op_of o) ≡ o
  told : operator (terminal_of (operator_shape o).kind (operator_shape o).text) ≡ Some (op_of o)

operates : (o : Operator) → Operates o
operates Or = record { same = refl; told = refl }
operates Xor = record { same = refl; told = refl }
operates And = record { same = refl; told = refl }
operates Equal = record { same = refl; told = refl }
operates NotEqual = record { same = refl; told = refl }
operates Less = record { same = refl; told = refl }
operates Greater = record { same = refl; told = refl }
operates LessOrEqual = record { same = refl; told = refl }
operates GreaterOrEqual = record { same = refl; told = refl }
operates Plus = record { same = refl; told = refl }
operates Minus = record { same = refl; told = refl }
operates Times = record { same = refl; told = refl }
operates Divide = record { same = refl; told = refl }
operates Mod = record { same = refl; told = refl }

-- ---- expressions

-- tokens that are an expression with this meaning
pub record ExprOf (least : ℕ) (ts : List Token) (x : Expression) (depth : ℕ) : Type 0 where
  pub value : Expr
  pub stands : IsExpr least ts value depth
  pub is : expr_meant value ≡ x

record ListOf (ts : List Token) (x : Expr) (es : Expressions) (depth : ℕ) : Type 0 where
  values : List Expr
  listed : AreExprs ts (x ∷ values) depth
  is : expressions (map expr_meant values) ≡ es

looser : {m n : ℕ} {ts : List Token} {x : Expr} {d : ℕ} → m ≤ n → IsExpr n ts x d → IsExpr m ts x d
looser le (grammar.literal a b) = grammar.literal a b
looser le (grammar.name a) = grammar.name a
looser le (grammar.member a b c) = grammar.member a b c
looser le (grammar.call c a b h k) = grammar.call c a b h k
looser le (grammar.bracket c a h b) = grammar.bracket c a h b
looser le (grammar.negation a h) = grammar.negation a h
looser {m = m} {n = n} le (grammar.binary {o = o} w a h b k) = grammar.binary w (omega (arith, le, a)) h b k

looser_of : (m n : ℕ) (ts : List Token) (x : Expression) (d : ℕ) → m ≤ n → ExprOf n ts x d → ExprOf m ts x d
looser_of m n ts x d le r = record { value = r.value; stands = looser le r.stands; is = r.is }

along : (least : ℕ) (ts us : List Token) (x : Expression) (d : ℕ) → ts ≡ us → ExprOf least us x d → ExprOf least ts x d
along least ts us x d e r = subst (λ (z : List Token). ExprOf least z x d) (sym e) r

spelled_number : (least : ℕ) (v : Value) (ts : List Token) → IsLiteral (literal.printed v) v.ty v.n → Shaped ts (number v ∷ []) → ExprOf least ts (Number v) 1
spelled_number least v ts is h =
    let t = headed ts (number v) [] h in
    let spelt : IsLiteral t.token.text v.ty v.n = subst (λ (w : List ℕ). IsLiteral w v.ty v.n) (sym (text_is t.token (number v) t.is)) is in
    along least ts (t.token ∷ []) (Number v) 1 (last_one ts (number v) t)
    (record { value = e.Number (grammar.number t.token v.ty v.n); stands = grammar.literal (terminal_is t.token (number v) t.is) spelt; is = number_view (grammar.number t.token v.ty v.n) })

spelled_name : (least : ℕ) (x : List ℕ) (ts : List Token) → Shaped ts (name x ∷ []) → ExprOf least ts (Name x) 1
spelled_name least x ts h =
    let t = headed ts (name x) [] h in
    along least ts (t.token ∷ []) (Name x) 1 (last_one ts (name x) t)
    (record { value = e.Name (grammar.word t.token); stands = grammar.name (terminal_is t.token (name x) t.is); is = name_view (grammar.word t.token) ∙ ap (λ (w : List ℕ). Name w) (text_is t.token (name x) t.is) })

spelled_member : (least : ℕ) (x y : List ℕ) (ts : List Token) → Shaped ts (name x ∷ sign (codes ".") ∷ name y ∷ []) → ExprOf least ts (Member x y) 1
spelled_member least x y ts h =
    let dot = sign (codes ".") in
    let i = headed ts (name x) (dot ∷ name y ∷ []) h in
    let p = headed i.back dot (name y ∷ []) i.second in
    let o = headed p.back (name y) [] p.second in
    along least ts (i.token ∷ p.token ∷ o.token ∷ []) (Member x y) 1
    (i.parts ∙ ap (λ (z : List Token). i.token ∷ z) (p.parts ∙ ap (λ (z : List Token). p.token ∷ z) (last_one p.back (name y) o)))
    (record {
      value = e.Member (grammar.word i.token) (grammar.word o.token);
      stands = grammar.member (terminal_is i.token (name x) i.is) (terminal_is p.token dot p.is) (terminal_is o.token (name y) o.is);
      is = member_view (grammar.word i.token) (grammar.word o.token) ∙ ap (λ (w : List ℕ). Member w o.token.text) (text_is i.token (name x) i.is) ∙ ap (λ (w : List ℕ). Member x w) (text_is o.token (name y) o.is);
    })

spelled_bracket : (least : ℕ) (ts : List Token) (inner : List Shape) (x : Expression) (d : ℕ) → Shaped ts (in_brackets inner) → ((us : List Token) → Shaped us inner → ExprOf 0 us x d) → ExprOf least ts x (suc d)
spelled_bracket least ts inner x d h inside =
    let open' = sign (codes "(") in
    let close = sign (codes ")") in
    let t = headed ts open' (inner ++ close ∷ []) h in
    let r = split t.back inner (close ∷ []) t.second in
    let c = headed r.back close [] r.second in
    let i = inside r.front r.first in
    along least ts (t.token ∷ (r.front ++ c.token ∷ [])) x (suc d) (t.parts ∙ ap (λ (z : List Token). t.token ∷ z) (r.parts ∙ ap (λ (z : List Token). r.front ++ z) (last_one r.back close c)))
    (record { value = i.value; stands = grammar.bracket c.token (terminal_is t.token open' t.is) i.stands (terminal_is c.token close c.is); is = i.is })

spelled_operator : (o : Operator) (a b : List Shape) (left right : Expression) (d c : ℕ) (ts : List Token) → Shaped ts (a ++ operator_shape o ∷ b)
    → ((us : List Token) → Shaped us a → ExprOf (level o) us left d) → ((us : List Token) → Shaped us b → ExprOf (suc (level o)) us right c) → ExprOf (level o) ts (Binary o left right) (suc (max d c))
spelled_operator o a b left right d c ts h lefts rights =
    let r = split ts a (operator_shape o ∷ b) h in
    let t = headed r.back (operator_shape o) b r.second in
    let x = lefts r.front r.first in
    let y = rights t.back t.second in
    let is = operates o in
    let which : operator (terminal t.token) ≡ Some (op_of o) = ap operator (terminal_is t.token (operator_shape o) t.is) ∙ is.told in
    let level-is : grammar.level (op_of o) ≡ level o = ap level is.same in
    let le : level o ≤ grammar.level (op_of o) = omega (arith, level-is) in
    let stands-left : IsExpr (grammar.level (op_of o)) r.front x.value d = subst (λ n. IsExpr n r.front x.value d) (sym level-is) x.stands in
    let stands-right : IsExpr (suc (grammar.level (op_of o))) t.back y.value c = subst (λ n. IsExpr (suc n) t.back y.value c) (sym level-is) y.stands in
    along (level o) ts (r.front ++ t.token ∷ t.back) (Binary o left right) (suc (max d c)) (r.parts ∙ ap (λ (z : List Token). r.front ++ z) t.parts)
    (record {
      value = e.Binary (op_of o) x.value y.value;
      stands = grammar.binary t.token le stands-left which stands-right;
      is = binary_view (op_of o) x.value y.value ∙ ap (λ (p : Operator). Binary p (expr_meant x.value) (expr_meant y.value)) is.same ∙ ap (λ (z : Expression). Binary o z (expr_meant y.value)) x.is ∙ ap (λ (z : Expression). Binary o left z) y.is;
    })

mutual
  unfolding expression_shapes expression_depth

  pub spelled : (x : Expression) (least : ℕ) (ts : List Token) → ExpressionInRange x → ExpressionFits x → Shaped ts (expression_shapes least x) → ExprOf least ts x (expression_depth least x)
  spelled (Number v) least ts good fits h = spelled_number least v ts (literal_printed v fits) h
  spelled (Name x) least ts good fits h = spelled_name least x ts h
  spelled (Member i o) least ts good fits h = spelled_member least i o ts h
  spelled (Apply f no_expression) least ts good fits h = absurd good.1
  spelled (Apply f (expression x xs)) least ts good fits h =
      let open' = sign (codes "(") in
      let close = sign (codes ")") in
      let inner : List Shape = expression_shapes 0 x ++ further_shapes xs in
      let t = headed ts (name f) (open' ∷ (inner ++ close ∷ [])) h in
      let o = headed t.back open' (inner ++ close ∷ []) t.second in
      let r = split o.back inner (close ∷ []) o.second in
      let c = headed r.back close [] r.second in
      let p = split r.front (expression_shapes 0 x) (further_shapes xs) r.first in
      let y = spelled x 0 p.front good.2.0 fits.0 p.first in
      let l = spelled_further xs p.back p.front y.value (expression_depth 0 x) good.2.1 fits.1 p.second y.stands in
      let deep : ℕ = max (expression_depth 0 x) (list_depth xs) in
      let listed : AreExprs r.front (y.value ∷ l.values) deep = subst (λ (z : List Token). AreExprs z (y.value ∷ l.values) deep) (sym p.parts) l.listed in
      along least ts (t.token ∷ o.token ∷ (r.front ++ c.token ∷ [])) (Apply f (expression x xs)) (suc deep)
      (t.parts ∙ ap (λ (z : List Token). t.token ∷ z) (o.parts ∙ ap (λ (z : List Token). o.token ∷ z) (r.parts ∙ ap (λ (z : List Token). r.front ++ z) (last_one r.back close c))))
      (record {
        value = e.Call (grammar.word t.token) (y.value ∷ l.values);
        stands = grammar.call c.token (terminal_is t.token (name f) t.is) (terminal_is o.token open' o.is) listed (terminal_is c.token close c.is);
        is = call_view (grammar.word t.token) (y.value ∷ l.values) ∙ ap (λ (w : List ℕ). Apply w (expression (expr_meant y.value) (expressions (map expr_meant l.values)))) (text_is t.token (name f) t.is)
            ∙ ap (λ (z : Expression). Apply f (expression z (expressions (map expr_meant l.values)))) y.is ∙ ap (λ (z : Expressions). Apply f (expression x z)) l.is;
      })
  spelled (Not operand) least ts good fits h =
      let t = headed ts (word (codes "NOT")) (expression_shapes tightest operand) h in
      let y = spelled operand tightest t.back good fits t.second in
      along least ts (t.token ∷ t.back) (Not operand) (suc (expression_depth tightest operand)) t.parts
      (record { value = e.Not y.value t.token.span; stands = grammar.negation (terminal_is t.token (word (codes "NOT")) t.is) y.stands; is = not_view y.value t.token.span ∙ ap (λ (z : Expression). Not z) y.is })
  spelled (Binary o left right) least ts good fits h =
      let inner : List Shape = expression_shapes (level o) left ++ operator_shape o ∷ expression_shapes (suc (level o)) right in
      let d : ℕ = suc (max (expression_depth (level o) left) (expression_depth (suc (level o)) right)) in
      let whole : (us : List Token) → Shaped us inner → ExprOf (level o) us (Binary o left right) d
      = λ us i. spelled_operator o (expression_shapes (level o) left) (expression_shapes (suc (level o)) right) left right (expression_depth (level o) left) (expression_depth (suc (level o)) right) us i
      (λ vs j. spelled left (level o) vs good.0 fits.0 j) (λ vs j. spelled right (suc (level o)) vs good.1 fits.1 j) in
      elim (ltb (level o) least) as (λ c. ltb (level o) least ≡ c → Shaped ts (cond c (in_brackets inner) inner) → ExprOf least ts (Binary o left right) (cond c (suc d) d)) [
        | true ↦ λ is i. spelled_bracket least ts inner (Binary o left right) d i (λ us j. looser_of 0 (level o) us (Binary o left right) d (omega arith) (whole us j))
        | false ↦ λ is i. looser_of least (level o) ts (Binary o left right) d (ltb-false (level o) least is) (whole ts i)
      ] refl h

  spelled_further : (xs : Expressions) (ts us : List Token) (x : Expr) (d : ℕ) → ExpressionsInRange xs → ExpressionsFit xs → Shaped ts (further_shapes xs) → IsExpr 0 us x d → ListOf (us ++ ts) x xs (max d (list_depth xs))
  spelled_further no_expression ts us x d good fits h stands =
      let same : us ≡ us ++ ts = sym (append-nil us) ∙ ap (λ (z : List Token). us ++ z) (sym (empty ts h)) in
      let deep : d ≡ max d 0 = omega arith in
      record { values = []; listed = subst (λ (n : ℕ). AreExprs (us ++ ts) (x ∷ []) n) deep (subst (λ (z : List Token). AreExprs z (x ∷ []) d) same (grammar.one_expr stands)); is = refl }
  spelled_further (expression t rest) ts us x d good fits h stands =
      let comma = sign (codes ",") in
      let c = headed ts comma (expression_shapes 0 t ++ further_shapes rest) h in
      let p = split c.back (expression_shapes 0 t) (further_shapes rest) c.second in
      let y = spelled t 0 p.front good.0 fits.0 p.first in
      let l = spelled_further rest p.back p.front y.value (expression_depth 0 t) good.1 fits.1 p.second y.stands in
      let parts : us ++ c.token ∷ (p.front ++ p.back) ≡ us ++ ts = ap (λ (z : List Token). us ++ z) (ap (λ (z : List Token). c.token ∷ z) (sym p.parts) ∙ sym c.parts) in
      record {
        values = y.value ∷ l.values;
        listed = subst (λ (z : List Token). AreExprs z (x ∷ y.value ∷ l.values) (max d (max (expression_depth 0 t) (list_depth rest)))) parts (grammar.more_exprs c.token stands (terminal_is c.token comma c.is) l.listed);
        is = ap (λ (z : Expression). expression z (expressions (map expr_meant l.values))) y.is ∙ ap (λ (z : Expressions). expression t z) l.is;
      }
