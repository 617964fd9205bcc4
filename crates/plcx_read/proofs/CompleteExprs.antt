-- What is an expression by the grammar is read.
use Rattle.std.proofs.Common.{◌≡◌, ℕ, ℤ, zero, suc, ◌+◌, ◌≤◌, ◌<◌, Bool, true, false, max, cond, ltb, add-one, length-append, List, [], ◌∷◌, ◌++◌, length, drop, Option, Some, None, Result, Ok, Err, refl, ap, ◌∙◌, append_assoc, arith}
use Rattle.std.proofs.lemmas.Bool.{le-ltb}
use Rattle.plcx_types.specs.declared.ty.Ty.{Ty}
use Rattle.plcx_lex.specs.Token.{Token}
use Rattle.plcx_lex.specs.Number.{IsLiteral}
use Rattle.plcx_lex.specs.ReadNumber.{literal_of}
use Rattle.plcx_lex.proofs.Numbers.{literal_reads}
use Rattle.plcx_lex.specs.declared.terminal.Terminal.{Terminal}
use Rattle.plcx_lex.specs.declared.terminal.Terminal.TheVariants as t
use Rattle.plcx_lex.specs.Terminal.{terminal}
use Rattle.plcx_st.specs.declared.tree.Op.{Op}
use Rattle.plcx_st.specs.declared.tree.Op.TheVariants as op
use Rattle.plcx_st.specs.declared.tree.Expr.{Expr}
use Rattle.plcx_st.specs.declared.tree.Expr.TheVariants as e
use Rattle.plcx_st.specs.Grammar.{word, number, operator, level, IsExpr, AreExprs, literal, name, member, call, bracket, negation, binary, one_expr, more_exprs}
use Rattle.plcx_st.specs.Binding.{tightest}
use Rattle.plcx_read.specs.Reading as spec
use Rattle.plcx_read.specs.Reading.{Stop, too_deep, Out, Read, ◌>>=◌, next, sees, same, expect, room, room_told, name_at, literal_at, with_literal, parted, list_of, several, bracketed, negated, valued, named_by, operand_by, operand, climb, level_of, expr, next_operator, binding, with_operator}
use Rattle.plcx_read.proofs.Singles.{sees_it, expects, parted_last, parted_more}

-- ---- operators

pub binding_less : (m n : ℕ) (o : Option Op) → m ≤ n → binding m o ≡ None → binding n o ≡ None
binding_less m n None le h = refl
binding_less m n (Some o) le h = grind arith

pub stops_less : (m n : ℕ) (ts : List Token) → m ≤ n → next_operator m ts ≡ None → next_operator n ts ≡ None
stops_less m n ts le h = binding_less m n (operator (next ts)) le h

pub level_top : (o : Op) → level o < tightest
level_top op.Or = omega arith
level_top op.Xor = omega arith
level_top op.And = omega arith
level_top op.Equal = omega arith
level_top op.NotEqual = omega arith
level_top op.Less = omega arith
level_top op.Greater = omega arith
level_top op.LessOrEqual = omega arith
level_top op.GreaterOrEqual = omega arith
level_top op.Plus = omega arith
level_top op.Minus = omega arith
level_top op.Times = omega arith
level_top op.Divide = omega arith
level_top op.Mod = omega arith

binding_top : (n : ℕ) (o : Option Op) → tightest ≤ n → binding n o ≡ None
binding_top n None le = refl
binding_top n (Some o) le = let h : level o < n = omega (arith, level_top o) in grind arith

pub stops_top : (n : ℕ) (ts : List Token) → tightest ≤ n → next_operator n ts ≡ None
stops_top n ts le = binding_top n (operator (next ts)) le

-- what comes next does not go on where it is no operator, or a looser one
pub stops_at : (n : ℕ) (x : Token) (ts : List Token) (o : Op) → operator (terminal x) ≡ Some o → level o < n → next_operator n (x ∷ ts) ≡ None
stops_at n x ts o is lt = rw is (grind arith)

pub goes_at : (n : ℕ) (x : Token) (ts : List Token) (o : Op) → operator (terminal x) ≡ Some o → n ≤ level o → next_operator n (x ∷ ts) ≡ Some o
goes_at n x ts o is le = rw is (grind arith)

-- ---- the number of turns does not matter

pub same_operators : {A : Type 0} (m : Option Op) (stop : A) (f g : Op → A) → ((o : Op) → f o ≡ g o) → with_operator m stop f ≡ with_operator m stop g
same_operators None stop f g h = refl
same_operators (Some o) stop f g h = h o

pub same_reads : {A B : Type 0} (r : Result A Stop) (f g : A → Result B Stop) → ((x : A) → f x ≡ g x) → (r >>= f) ≡ (r >>= g)
same_reads (Ok x) f g h = h x
same_reads (Err d) f g h = refl

module _ (a : ℕ) (inner : ℕ → List Token → Out Expr) where
  pub climb_turns : (f g least : ℕ) (left : Expr) (depth : ℕ) (ts : List Token) → a < f + depth → a < g + depth → climb a inner f least left depth ts ≡ climb a inner g least left depth ts
  unfolding climb
  climb_turns zero zero least left depth ts p q = refl
  climb_turns zero (suc g) least left depth ts p q =
      let deep : ltb a depth ≡ true = grind arith in
      same_operators (next_operator least ts) _ _ _ (λ o. rw deep refl)
  climb_turns (suc f) zero least left depth ts p q =
      let deep : ltb a depth ≡ true = grind arith in
      same_operators (next_operator least ts) _ _ _ (λ o. rw deep refl)
  climb_turns (suc f) (suc g) least left depth ts p q =
      same_operators (next_operator least ts) _ _ _ (λ o.
      ap (λ (r : Out Expr). cond (ltb a depth) (Err (too_deep, ts)) r)
      (same_reads (inner (level o + 1) (drop 1 ts)) _ _ (λ x. climb_turns f g least (e.Binary o left x.0) (max depth x.1 + 1) x.2 (omega arith) (omega arith))))

-- ---- behind an expression

-- what reading goes on with behind an expression
abbrev pub onward : ℕ → ℕ → Expr → ℕ → List Token → Out Expr
onward zero least x d ts = Err (too_deep, [])
onward (suc a) least x d ts = climb a (expr a) (a + 1) least x d ts

pub onward_stops : (a least : ℕ) (x : Expr) (d : ℕ) (ts : List Token) → next_operator least ts ≡ None → onward (suc a) least x d ts ≡ Ok (x, d, ts)
unfolding climb
onward_stops a least x d ts h = rw (add-one, h) refl

-- an operator that binds tightly enough, behind an expression of some depth below the allowance
pub onward_goes : (a least : ℕ) (x : Expr) (d : ℕ) (w : Token) (ts : List Token) (o : Op) (y : Expr) (c : ℕ) (rest : List Token)
    → 0 < d → d ≤ a → next_operator least (w ∷ ts) ≡ Some o → expr a (suc (level o)) ts ≡ Ok (y, c, rest)
    → onward (suc a) least x d (w ∷ ts) ≡ onward (suc a) least (e.Binary o x y) (suc (max d c)) rest
unfolding climb
onward_goes a least x d w ts o y c rest pos le found read =
    let fits : ltb a d ≡ false = le-ltb _ _ le in
    let right : expr a (level o + 1) ts ≡ Ok (y, c, rest) = rw (add-one (level o)) read in
    let one : climb a (expr a) (suc a) least x d (w ∷ ts) ≡ climb a (expr a) a least (e.Binary o x y) (max d c + 1) rest = rw (found, fits, right) refl in
    let turns : climb a (expr a) a least (e.Binary o x y) (max d c + 1) rest ≡ climb a (expr a) (a + 1) least (e.Binary o x y) (max d c + 1) rest
    = climb_turns a (expr a) a (a + 1) least (e.Binary o x y) (max d c + 1) rest (omega arith) (omega arith) in
    let whole : climb a (expr a) (a + 1) least x d (w ∷ ts) ≡ climb a (expr a) (a + 1) least (e.Binary o x y) (suc (max d c)) rest
    = ap (λ i. climb a (expr a) i least x d (w ∷ ts)) (add-one a) ∙ one ∙ turns ∙ ap (λ i. climb a (expr a) (a + 1) least (e.Binary o x y) i rest) (add-one (max d c)) in
    whole

pub settled : (a least : ℕ) (ts : List Token) (x : Expr) (d : ℕ) (rest : List Token) → 0 < a → next_operator least rest ≡ None
    → expr a least ts ≡ onward a least x d rest → expr a least ts ≡ Ok (x, d, rest)
settled zero least ts x d rest pos stop h = absurd (omega arith)
settled (suc a) least ts x d rest pos stop h = h ∙ onward_stops a least x d rest stop

pub from_operand : (a least : ℕ) (ts : List Token) (x : Expr) (d : ℕ) (rest : List Token) → operand a (expr a) ts ≡ Ok (x, d, rest)
    → expr (suc a) least ts ≡ onward (suc a) least x d rest
unfolding expr level_of
from_operand a least ts x d rest h = rw h refl

-- ---- operands

pub by_terminal : (a : ℕ) (inner : ℕ → List Token → Out Expr) (q : Terminal) (x : Token) (ts : List Token) → terminal x ≡ q → operand a inner (x ∷ ts) ≡ operand_by a inner q x ts
unfolding operand
by_terminal a inner q x ts is = ap (λ r. operand_by a inner r x ts) is

pub literal_value : (v : Token) (ty : Ty) (z : ℤ) (rest : List Token) → terminal v ≡ t.Number → IsLiteral v.text ty z → literal_at (v ∷ rest) ≡ Ok (number v ty z, 0, rest)
unfolding literal_at
literal_value v ty z rest is stands =
    let it : same (terminal v) t.Number ≡ true = sees_it t.Number v rest is in
    let n : literal_of v.text ≡ Some (ty, z) = literal_reads v.text ty z stands in
    rw (it, n) refl

pub reads_literal : (a : ℕ) (v : Token) (ty : Ty) (z : ℤ) (rest : List Token) → terminal v ≡ t.Number → IsLiteral v.text ty z → operand a (expr a) (v ∷ rest) ≡ Ok (e.Number (number v ty z), 1, rest)
unfolding valued
reads_literal a v ty z rest is stands =
    let r : valued (v ∷ rest) ≡ Ok (e.Number (number v ty z), 1, rest) = rw (literal_value v ty z rest is stands) refl in
    by_terminal a (expr a) t.Number v rest is ∙ r

-- whether a name goes on with it
abbrev pub joins_name : Terminal → Bool
joins_name t.Open = true
joins_name t.Dot = true
joins_name _ = false

named_alone : (a : ℕ) (inner : ℕ → List Token → Out Expr) (q : Terminal) (w : Token) (ts : List Token) → joins_name q ≡ false → named_by a inner q w ts ≡ Ok (e.Name (word w), 1, ts)
named_alone a inner t.Open w ts h = absurd cc
named_alone a inner t.Dot w ts h = absurd cc
named_alone a inner _ w ts h = refl

pub reads_name : (a : ℕ) (w : Token) (rest : List Token) → terminal w ≡ t.Name → joins_name (next rest) ≡ false → operand a (expr a) (w ∷ rest) ≡ Ok (e.Name (word w), 1, rest)
reads_name a w rest is alone = by_terminal a (expr a) t.Name w rest is ∙ named_alone a (expr a) (next rest) w rest alone

pub reads_member : (a : ℕ) (i p o : Token) (rest : List Token) → terminal i ≡ t.Name → terminal p ≡ t.Dot → terminal o ≡ t.Name → operand a (expr a) (i ∷ p ∷ o ∷ rest) ≡ Ok (e.Member (word i) (word o), 1, rest)
unfolding spec.member name_at
reads_member a i p o rest is dot last =
    let it : same (terminal o) t.Name ≡ true = sees_it t.Name o rest last in
    let m : spec.member i (p ∷ o ∷ rest) ≡ Ok (e.Member (word i) (word o), 1, rest) = rw it refl in
    by_terminal a (expr a) t.Name i (p ∷ o ∷ rest) is ∙ ap (λ q. named_by a (expr a) q i (p ∷ o ∷ rest)) dot ∙ m

pub has_room : (a : ℕ) (ts : List Token) → 0 < a → room a ts ≡ Ok tt
unfolding room
has_room zero ts pos = absurd (omega arith)
has_room (suc a) ts pos = refl

pub has_room_told : (a : ℕ) (w : Token) (ts : List Token) → 0 < a → room_told a w ts ≡ Ok tt
unfolding room_told
has_room_told zero w ts pos = absurd (omega arith)
has_room_told (suc a) w ts pos = refl

pub reads_not : (a : ℕ) (w : Token) (ts : List Token) (x : Expr) (d : ℕ) (rest : List Token) → terminal w ≡ t.Not → 0 < a → expr a tightest ts ≡ Ok (x, d, rest)
    → operand a (expr a) (w ∷ ts) ≡ Ok (e.Not x w.span, suc d, rest)
unfolding negated
reads_not a w ts x d rest is pos h =
    let r : negated a (expr a) w (w ∷ ts) ≡ Ok (e.Not x w.span, suc d, rest) = rw (has_room a (w ∷ ts) pos, h, add-one) refl in
    by_terminal a (expr a) t.Not w ts is ∙ r

pub reads_bracket : (a : ℕ) (b c : Token) (ts : List Token) (x : Expr) (d : ℕ) (rest : List Token) → terminal b ≡ t.Open → terminal c ≡ t.Close → 0 < a → expr a 0 ts ≡ Ok (x, d, c ∷ rest)
    → operand a (expr a) (b ∷ ts) ≡ Ok (x, suc d, rest)
unfolding bracketed
reads_bracket a b c ts x d rest is closes pos h =
    let r : bracketed a (expr a) (b ∷ ts) ≡ Ok (x, suc d, rest) = rw (has_room a (b ∷ ts) pos, h, expects t.Close c rest closes, add-one) refl in
    by_terminal a (expr a) t.Open b ts is ∙ r

pub reads_call : (a : ℕ) (f b : Token) (ts : List Token) (es : List Expr) (d : ℕ) (rest : List Token) → terminal f ≡ t.Name → terminal b ≡ t.Open → 0 < a → list_of (expr a 0) ts ≡ Ok (es, d, rest)
    → operand a (expr a) (f ∷ b ∷ ts) ≡ Ok (e.Call (word f) es, suc d, rest)
unfolding spec.call
reads_call a f b ts es d rest is opens pos h =
    let r : spec.call a (expr a) f (b ∷ ts) ≡ Ok (e.Call (word f) es, suc d, rest) = rw (has_room_told a f (b ∷ ts) pos, h, add-one) refl in
    by_terminal a (expr a) t.Name f (b ∷ ts) is ∙ ap (λ q. named_by a (expr a) q f (b ∷ ts)) opens ∙ r

-- ---- depth and length

mutual
  pub expr_positive : {n : ℕ} {xs : List Token} {x : Expr} {d : ℕ} → IsExpr n xs x d → (0 < d) × (0 < length xs)
  expr_positive (literal is stands) = (omega arith, omega arith)
  expr_positive (name is) = (omega arith, omega arith)
  expr_positive (member is dot o) = (omega arith, omega arith)
  expr_positive (negation is inside) = (omega arith, omega arith)
  expr_positive (bracket c is inside closes) = (omega arith, omega arith)
  expr_positive (call c is opens inside closes) = (omega arith, omega arith)
  expr_positive (binary w {xs = xs} {ys = ys} tight left is right) = (omega arith, omega (arith, (expr_positive left).1, length-append xs (w ∷ ys)))

  pub exprs_positive : {xs : List Token} {es : List Expr} {d : ℕ} → AreExprs xs es d → (0 < d) × (length es ≤ length xs)
  exprs_positive (one_expr inside) = let p = expr_positive inside in (p.0, omega (arith, p.1))
  exprs_positive (more_exprs c {xs = xs} {ys = ys} inside is others) = let p = expr_positive inside in let q = exprs_positive others in (omega (arith, p.0), omega (arith, q.1, length-append xs (c ∷ ys)))

-- ---- what ends an expression

-- no operator of this level or a tighter one comes next, and nothing that goes on with a name
pub record Ends (n : ℕ) (ts : List Token) : Type 0 where
  pub stops : next_operator n ts ≡ None
  pub alone : joins_name (next ts) ≡ false

pub ends_less : (m n : ℕ) (ts : List Token) → m ≤ n → Ends m ts → Ends n ts
ends_less m n ts le ends = record { stops = stops_less m n ts le ends.stops; alone = ends.alone }

pub ends_by : (n : ℕ) (x : Token) (ts : List Token) (q : Terminal) → terminal x ≡ q → operator q ≡ None → joins_name q ≡ false → Ends n (x ∷ ts)
ends_by n x ts q is none alone = record { stops = rw (is, none) refl; alone = rw is alone }

operator_alone : (q : Terminal) (o : Op) → operator q ≡ Some o → joins_name q ≡ false
operator_alone t.Open o is = absurd cc
operator_alone t.Dot o is = absurd cc
operator_alone _ o is = refl

pub ends_at : (n : ℕ) (x : Token) (ts : List Token) (o : Op) → operator (terminal x) ≡ Some o → level o < n → Ends n (x ∷ ts)
ends_at n x ts o is lt = record { stops = stops_at n x ts o is lt; alone = operator_alone (terminal x) o is }

-- ---- the main induction

abbrev answered : List Expr → ℕ → List Token → Out (List Expr)
answered es d rest = Ok (es, d, rest)

-- an expression before a token that goes on with none, where reading goes on behind it
before : {xs : List Token} {x : Expr} {d : ℕ} → IsExpr 0 xs x d → (a : ℕ) (c : Token) (rest : List Token) → d ≤ a → ((n : ℕ) → Ends n (c ∷ rest)) → expr a 0 (xs ++ c ∷ rest) ≡ onward a 0 x d (c ∷ rest) → expr a 0 (xs ++ c ∷ rest) ≡ Ok (x, d, c ∷ rest)
before {xs = xs} {x = x} {d = d} inside a c rest le ends h = settled a 0 (xs ++ c ∷ rest) x d (c ∷ rest) (omega (arith, (expr_positive inside).0)) (ends 0).stops h

mutual
  -- where an expression stands, reading goes on behind it
  pub complete : {n : ℕ} {xs : List Token} {x : Expr} {d : ℕ} → IsExpr n xs x d → (a m : ℕ) (rest : List Token) → d ≤ a → m ≤ n → Ends (suc n) rest
      → expr a m (xs ++ rest) ≡ onward a m x d rest
  complete (literal is stands) zero m rest le less stop = absurd (omega arith)
  complete (name is) zero m rest le less stop = absurd (omega arith)
  complete (member is dot o) zero m rest le less stop = absurd (omega arith)
  complete (negation is inside) zero m rest le less stop = absurd (omega arith)
  complete (bracket c is inside closes) zero m rest le less stop = absurd (omega arith)
  complete (call c is opens inside closes) zero m rest le less stop = absurd (omega arith)
  complete (binary w tight left is right) zero m rest le less stop = absurd (omega arith)
  complete (literal {v = v} {ty = ty} {z = z} is stands) (suc a) m rest le less stop = from_operand a m (v ∷ rest) _ 1 rest (reads_literal a v ty z rest is stands)
  complete (name {w = w} is) (suc a) m rest le less stop = from_operand a m (w ∷ rest) _ 1 rest (reads_name a w rest is stop.alone)
  complete (member {i = i} {p = p} {o = o} is dot last) (suc a) m rest le less stop = from_operand a m (i ∷ p ∷ o ∷ rest) _ 1 rest (reads_member a i p o rest is dot last)
  complete (negation {w = w} {xs = xs} {x = x} {d = d} is inside) (suc a) m rest le less stop =
      let pos : 0 < a = omega (arith, (expr_positive inside).0) in
      from_operand a m (w ∷ (xs ++ rest)) _ (suc d) rest
      (reads_not a w (xs ++ rest) x d rest is pos (settled a tightest (xs ++ rest) x d rest pos (stops_top tightest rest (omega arith)) (complete inside a tightest rest (omega arith) (omega arith) (record { stops = stops_top (suc tightest) rest (omega arith); alone = stop.alone }))))
  complete (bracket {b = b} c {xs = xs} {x = x} {d = d} is inside closes) (suc a) m rest le less stop =
      rw (append_assoc xs (c ∷ []) rest) (from_operand a m (b ∷ (xs ++ c ∷ rest)) x (suc d) rest
      (reads_bracket a b c (xs ++ c ∷ rest) x d rest is closes (omega (arith, (expr_positive inside).0)) (before inside a c rest (omega arith) (λ n. ends_by n c rest t.Close closes refl refl) (complete inside a 0 (c ∷ rest) (omega arith) (omega arith) (ends_by 1 c rest t.Close closes refl refl)))))
  complete (call {f = f} {b = b} c {xs = xs} {es = es} {d = d} is opens inside closes) (suc a) m rest le less stop =
      let p = exprs_positive inside in
      let pos : 0 < a = omega (arith, p.0) in
      let ih = complete_list inside a (length (xs ++ c ∷ rest) + 1) [] 0 c rest (omega arith) (omega (arith, p.1, length-append xs (c ∷ rest))) closes in
      let none : max 0 d ≡ d = omega arith in
      rw (append_assoc xs (c ∷ []) rest) (from_operand a m (f ∷ b ∷ (xs ++ c ∷ rest)) _ (suc d) rest
      (reads_call a f b (xs ++ c ∷ rest) es d rest is opens pos (ih ∙ ap (λ (i : ℕ). answered es i rest) none)))
  complete (binary {n = n} {o = o} w {xs = xs} {ys = ys} {x = x} {y = y} {d = d} {c = c} tight left is right) (suc a) m rest le less stop =
      let p = expr_positive left in
      let q = expr_positive right in
      let pos : 0 < a = omega (arith, q.0) in
      let first = complete left (suc a) m (w ∷ (ys ++ rest)) (omega arith) (omega arith) (ends_at (suc (level o)) w (ys ++ rest) o is (omega arith)) in
      let second = complete right a (suc (level o)) rest (omega arith) (omega arith) (ends_less (suc n) (suc (suc (level o))) rest (omega arith) stop) in
      let read = settled a (suc (level o)) (ys ++ rest) y c rest pos (stops_less (suc n) (suc (level o)) rest (omega arith) stop.stops) second in
      rw (append_assoc xs (w ∷ ys) rest) (first ∙ onward_goes a m x d w (ys ++ rest) o y c rest p.0 (omega arith) (goes_at m w (ys ++ rest) o is (omega arith)) read)

  pub complete_list : {xs : List Token} {es : List Expr} {d : ℕ} → AreExprs xs es d → (a n : ℕ) (found : List Expr) (depth : ℕ) (c : Token) (rest : List Token) → d ≤ a → length es ≤ n → terminal c ≡ t.Close
      → parted (expr a 0) n found depth (xs ++ c ∷ rest) ≡ Ok (found ++ es, max depth d, rest)
  complete_list (one_expr inside) a zero found depth c rest le turns closes = absurd (omega arith)
  complete_list (more_exprs w inside is others) a zero found depth c rest le turns closes = absurd (omega arith)
  complete_list (one_expr {xs = xs} {x = x} {d = d} inside) a (suc n) found depth c rest le turns closes =
      parted_last (expr a 0) n found depth (xs ++ c ∷ rest) x d c rest closes (before inside a c rest le (λ n. ends_by n c rest t.Close closes refl refl) (complete inside a 0 (c ∷ rest) le (omega arith) (ends_by 1 c rest t.Close closes refl refl)))
  complete_list (more_exprs w {xs = xs} {ys = ys} {x = x} {es = es} {d = d} {f = f} inside is others) a (suc n) found depth c rest le turns closes =
      let after : List Token = ys ++ c ∷ rest in
      let step = parted_more (expr a 0) n found depth (xs ++ w ∷ after) x d w after is (before inside a w after (omega arith) (λ n. ends_by n w after t.Comma is refl refl) (complete inside a 0 (w ∷ after) (omega arith) (omega arith) (ends_by 1 w after t.Comma is refl refl))) in
      let last = complete_list others a n (found ++ x ∷ []) (max depth d) c rest (omega arith) (omega arith) closes in
      let list : (found ++ x ∷ []) ++ es ≡ found ++ x ∷ es = append_assoc found (x ∷ []) es in
      let deep : max (max depth d) f ≡ max depth (max d f) = omega arith in
      rw (append_assoc xs (w ∷ ys) (c ∷ rest), ← list, ← deep) (step ∙ last)

pub complete_before : {xs : List Token} {x : Expr} {d : ℕ} → IsExpr 0 xs x d → (a : ℕ) (c : Token) (rest : List Token) → d ≤ a → ((n : ℕ) → Ends n (c ∷ rest)) → expr a 0 (xs ++ c ∷ rest) ≡ Ok (x, d, c ∷ rest)
complete_before inside a c rest le ends = before inside a c rest le ends (complete inside a 0 (c ∷ rest) le (omega arith) (ends 1))
