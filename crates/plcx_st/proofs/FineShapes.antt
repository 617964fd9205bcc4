-- What is printed may stand on its lines.
use Rattle.std.proofs.Common.{◌≡◌, ℕ, suc, true, false, cond, ltb, inl, inr, List, [], ◌∷◌, ◌++◌, refl, ap, sym, subst, ◌∙◌, arith, append_assoc}
use Rattle.std.specs.Prelude.{codes}
use Rattle.std.specs.List.{list_all}
use Rattle.std.specs.Str.{bytes_eq}
use Rattle.std.proofs.lemmas.Bool.{cases_Bool, and_parts}
use Rattle.plcx_types.specs.Name.{is_next_byte}
use Rattle.plcx_types.specs.Printed as literal
use Rattle.plcx_lex.specs.declared.token.TokenKind.{TokenKind}
use Rattle.plcx_lex.specs.declared.token.TokenKind.TheVariants as kind
use Rattle.plcx_lex.specs.Lexis.{IsToken}
use Rattle.plcx_types.specs.Lists.{Each}
use Rattle.plcx_meaning.specs.Tree.{Operator, Or, Xor, And, Equal, NotEqual, Less, Greater, LessOrEqual, GreaterOrEqual, Plus, Minus, Times, Divide, Mod, Expression, Number, Name, Member, Apply, Not, Binary, Expressions, no_expression, expression, Argument}
use Rattle.plcx_st.specs.Binding.{level, tightest}
use Rattle.plcx_st.specs.Print.{Shape, shape, word, sign, name, operator_shape, in_brackets, expression_shapes, list_shapes, further_shapes, argument_shapes, arguments_shapes, further_arguments}
use Rattle.plcx_st.specs.InRange.{IsWord, ExpressionInRange, ExpressionsInRange, ArgumentInRange}
use Rattle.plcx_st.specs.Fitting.{ExpressionFits, ExpressionsFit, ArgumentFits}
use Rattle.plcx_st.proofs.Inside.{head, same_bytes, name_bytes}
use Rattle.plcx_st.proofs.Literals.{number_token, number_head}
use Rattle.plcx_st.proofs.Lexed.{Fine, nothing, plain, opens, member, NoPoint, NoStar}

-- what may come behind an expression
pub record Tail (ss : List Shape) : Type 0 where
  pub fine : Fine ss
  pub point : NoPoint ss

-- what begins as an expression does
pub record Starts (ss : List Shape) : Type 0 where
  pub fine : Fine ss
  pub point : NoPoint ss
  pub star : NoStar ss

pub ends_line : Tail []
ends_line = record { fine = nothing; point = tt }

pub behind_start : (ss : List Shape) → Starts ss → Tail ss
behind_start ss s = record { fine = s.fine; point = s.point }

no_byte : (w : List ℕ) (c : ℕ) → is_next_byte (head w) ≡ true → is_next_byte c ≡ false → head w ≡ c → ⊥
no_byte w c word other is = (let bad : true ≡ false = sym word ∙ ap is_next_byte is ∙ other in absurd cc)

no_point : (w : List ℕ) → is_next_byte (head w) ≡ true → bytes_eq w (codes ".") ≡ false
no_point w word = elim (cases_Bool (bytes_eq w (codes "."))) [
  | inl dot ↦ absurd (no_byte w 46 word refl (ap head (same_bytes w (codes ".") dot)))
  | inr apart ↦ apart
]

-- a name, a number or a word, and what may come behind it
pub starts_word : (k : TokenKind) (w : List ℕ) (ss : List Shape) → IsToken k w → is_next_byte (head w) ≡ true → Tail ss → Starts (shape k w ∷ ss)
starts_word k w ss is word t = record { fine = plain is (no_byte w 40 word refl) t.point t.fine; point = no_point w word; star = no_byte w 42 word refl }

name_head : (w : List ℕ) → IsWord w → is_next_byte (head w) ≡ true
name_head [] h = (let bad : false ≡ true = h.0 in absurd cc)
name_head (b ∷ w) h = (and_parts (is_next_byte b) (list_all is_next_byte w) (name_bytes (b ∷ w) h.0)).0

pub starts_name : (w : List ℕ) (ss : List Shape) → IsWord w → Tail ss → Starts (name w ∷ ss)
starts_name w ss is t = starts_word kind.Name w ss is (name_head w is) t

-- a sign other than `(` and `.`
pub tail_sign : (text : List ℕ) (ss : List Shape) → IsToken kind.Sign text → (head text ≡ 40 → ⊥) → bytes_eq text (codes ".") ≡ false → Tail ss → Tail (sign text ∷ ss)
tail_sign text ss is other point t = record { fine = plain is other t.point t.fine; point = point }

pub starts_open : (ss : List Shape) → Starts ss → Starts (sign (codes "(") ∷ ss)
starts_open ss s = record { fine = opens s.point s.star s.fine; point = refl; star = λ e. omega (arith, e) }

pub starts_close : (ss : List Shape) → Tail ss → Starts (sign (codes ")") ∷ ss)
starts_close ss t = record { fine = plain refl (λ e. omega (arith, e)) t.point t.fine; point = refl; star = λ e. omega (arith, e) }

pub tail_close : (ss : List Shape) → Tail ss → Tail (sign (codes ")") ∷ ss)
tail_close ss t = behind_start _ (starts_close ss t)

pub tail_comma : (ss : List Shape) → Tail ss → Tail (sign (codes ",") ∷ ss)
tail_comma ss t = tail_sign (codes ",") ss refl (λ e. omega (arith, e)) refl t

pub tail_semicolon : (ss : List Shape) → Tail ss → Tail (sign (codes ";") ∷ ss)
tail_semicolon ss t = tail_sign (codes ";") ss refl (λ e. omega (arith, e)) refl t

pub tail_colon : (ss : List Shape) → Tail ss → Tail (sign (codes ":") ∷ ss)
tail_colon ss t = tail_sign (codes ":") ss refl (λ e. omega (arith, e)) refl t

pub tail_assign : (ss : List Shape) → Tail ss → Tail (sign (codes ":=") ∷ ss)
tail_assign ss t = tail_sign (codes ":=") ss refl (λ e. omega (arith, e)) refl t

tail_operator : (o : Operator) (ss : List Shape) → Tail ss → Tail (operator_shape o ∷ ss)
tail_operator Or ss t = behind_start _ (starts_word kind.Keyword (codes "OR") ss (refl, refl) refl t)
tail_operator Xor ss t = behind_start _ (starts_word kind.Keyword (codes "XOR") ss (refl, refl) refl t)
tail_operator And ss t = behind_start _ (starts_word kind.Keyword (codes "AND") ss (refl, refl) refl t)
tail_operator Equal ss t = tail_sign (codes "=") ss refl (λ e. omega (arith, e)) refl t
tail_operator NotEqual ss t = tail_sign (codes "<>") ss refl (λ e. omega (arith, e)) refl t
tail_operator Less ss t = tail_sign (codes "<") ss refl (λ e. omega (arith, e)) refl t
tail_operator Greater ss t = tail_sign (codes ">") ss refl (λ e. omega (arith, e)) refl t
tail_operator LessOrEqual ss t = tail_sign (codes "<=") ss refl (λ e. omega (arith, e)) refl t
tail_operator GreaterOrEqual ss t = tail_sign (codes ">=") ss refl (λ e. omega (arith, e)) refl t
tail_operator Plus ss t = tail_sign (codes "+") ss refl (λ e. omega (arith, e)) refl t
tail_operator Minus ss t = tail_sign (codes "-") ss refl (λ e. omega (arith, e)) refl t
tail_operator Times ss t = tail_sign (codes "*") ss refl (λ e. omega (arith, e)) refl t
tail_operator Divide ss t = tail_sign (codes "/") ss refl (λ e. omega (arith, e)) refl t
tail_operator Mod ss t = behind_start _ (starts_word kind.Keyword (codes "MOD") ss (refl, refl) refl t)

-- ---- expressions

mutual
  unfolding expression_shapes

  pub starts : (e : Expression) (least : ℕ) (tail : List Shape) → ExpressionInRange e → ExpressionFits e → Tail tail → Starts (expression_shapes least e ++ tail)
  starts (Number v) least tail good fits t = starts_word kind.Number (literal.printed v) tail (number_token v fits) (number_head v fits) t
  starts (Name x) least tail good fits t = starts_name x tail good t
  starts (Member i o) least tail good fits t = record { fine = member good.0 (starts_name o tail good.1 t).fine; point = no_point i (name_head i good.0); star = no_byte i 42 (name_head i good.0) refl }
  starts (Apply f arguments) least tail good fits t =
      let inside = list_starts arguments tail good.2 fits t in
      let o = starts_open (list_shapes arguments ++ sign (codes ")") ∷ tail) inside in
      subst Starts (ap (λ (l : List Shape). name f ∷ sign (codes "(") ∷ l) (sym (append_assoc (list_shapes arguments) (sign (codes ")") ∷ []) tail)))
      (starts_name f (sign (codes "(") ∷ (list_shapes arguments ++ sign (codes ")") ∷ tail)) good.0 (behind_start _ o))
  starts (Not operand) least tail good fits t = starts_word kind.Keyword (codes "NOT") (expression_shapes tightest operand ++ tail) (refl, refl) refl (behind_start _ (starts operand tightest tail good fits t))
  starts (Binary o left right) least tail good fits t =
      let inner : List Shape = expression_shapes (level o) left ++ operator_shape o ∷ expression_shapes (suc (level o)) right in
      let tight : (rest : List Shape) → Tail rest → Starts (inner ++ rest)
      = λ rest r. subst Starts (sym (append_assoc (expression_shapes (level o) left) (operator_shape o ∷ expression_shapes (suc (level o)) right) rest))
      (starts left (level o) (operator_shape o ∷ (expression_shapes (suc (level o)) right ++ rest)) good.0 fits.0
      (tail_operator o (expression_shapes (suc (level o)) right ++ rest) (behind_start _ (starts right (suc (level o)) rest good.1 fits.1 r)))) in
      elim (ltb (level o) least) as (λ c. Starts (cond c (in_brackets inner) inner ++ tail)) [
        | true ↦ subst Starts (ap (λ (l : List Shape). sign (codes "(") ∷ l) (sym (append_assoc inner (sign (codes ")") ∷ []) tail)))
            (starts_open (inner ++ sign (codes ")") ∷ tail) (tight (sign (codes ")") ∷ tail) (tail_close tail t)))
        | false ↦ tight tail t
      ]

  pub list_starts : (es : Expressions) (tail : List Shape) → ExpressionsInRange es → ExpressionsFit es → Tail tail → Starts (list_shapes es ++ sign (codes ")") ∷ tail)
  list_starts no_expression tail good fits t = starts_close tail t
  list_starts (expression e es) tail good fits t =
      subst Starts (sym (append_assoc (expression_shapes 0 e) (further_shapes es) (sign (codes ")") ∷ tail)))
      (starts e 0 (further_shapes es ++ sign (codes ")") ∷ tail) good.0 fits.0 (further_tail es (sign (codes ")") ∷ tail) good.1 fits.1 (tail_close tail t)))

  pub further_tail : (es : Expressions) (tail : List Shape) → ExpressionsInRange es → ExpressionsFit es → Tail tail → Tail (further_shapes es ++ tail)
  further_tail no_expression tail good fits t = t
  further_tail (expression e es) tail good fits t =
      let s = starts e 0 (further_shapes es ++ tail) good.0 fits.0 (further_tail es tail good.1 fits.1 t) in
      subst Tail (ap (λ (l : List Shape). sign (codes ",") ∷ l) (sym (append_assoc (expression_shapes 0 e) (further_shapes es) tail))) (tail_comma _ (behind_start _ s))

-- ---- arguments

argument_starts : (a : Argument) (tail : List Shape) → ArgumentInRange a → ArgumentFits a → Tail tail → Starts (argument_shapes a ++ tail)
argument_starts a tail good fits t = starts_name a.formal (sign (codes ":=") ∷ (expression_shapes 0 a.value ++ tail)) good.0 (tail_assign _ (behind_start _ (starts a.value 0 tail good.1 fits t)))

further_argument_tail : (as' : List Argument) (tail : List Shape) → Each ArgumentInRange as' → Each ArgumentFits as' → Tail tail → Tail (further_arguments as' ++ tail)
unfolding further_arguments
further_argument_tail [] tail good fits t = t
further_argument_tail (a ∷ as') tail good fits t =
    let s = argument_starts a (further_arguments as' ++ tail) good.0 fits.0 (further_argument_tail as' tail good.1 fits.1 t) in
    subst Tail (ap (λ (l : List Shape). sign (codes ",") ∷ l) (sym (append_assoc (argument_shapes a) (further_arguments as') tail))) (tail_comma _ (behind_start _ s))

pub arguments_start : (as' : List Argument) (tail : List Shape) → Each ArgumentInRange as' → Each ArgumentFits as' → Tail tail → Starts (arguments_shapes as' ++ sign (codes ")") ∷ tail)
unfolding arguments_shapes
arguments_start [] tail good fits t = starts_close tail t
arguments_start (a ∷ as') tail good fits t =
    subst Starts (sym (append_assoc (argument_shapes a) (further_arguments as') (sign (codes ")") ∷ tail)))
    (argument_starts a (further_arguments as' ++ sign (codes ")") ∷ tail) good.0 fits.0 (further_argument_tail as' (sign (codes ")") ∷ tail) good.1 fits.1 (tail_close tail t)))
