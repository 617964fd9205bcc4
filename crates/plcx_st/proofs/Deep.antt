-- How deep the printed form of an expression is: bounds for what the templates build.
use Rattle.std.proofs.Common.{◌≡◌, ℕ, suc, ◌+◌, ◌≤◌, max, Bool, true, false, List, [], ◌∷◌, length, refl, sym, subst, arith}
use Rattle.std.specs.Prelude.{nat_lt, if◌then◌else◌}
use Rattle.std.specs.List.{fold}
use Rattle.std.proofs.lemmas.Bool.Decides.{nat_tests}
use Rattle.plcx_types.specs.Value.{Value}
use Rattle.plcx_types.specs.Lists.{Each}
use Rattle.plcx_meaning.specs.Tree.{Operator, Or, And, Expression, Number, Name, Member, Apply, Not, Binary, expressions}
use Rattle.plcx_meaning.specs.Templates.{or_text, both, chain, compared, neighbours, negation}
use Rattle.plcx_st.specs.Binding.{level, tightest}
use Rattle.plcx_st.specs.Depth.{expression_depth, list_depth}

-- at most so deep, whatever stands beside it
abbrev pub Low : ℕ → Expression → Type 0
Low n e = (least : ℕ) → expression_depth least e ≤ n

pub max_low : (a b n : ℕ) → a ≤ n → b ≤ n → max a b ≤ n
max_low a b n h k = omega arith

pub weaker : (n m : ℕ) (e : Expression) → n ≤ m → Low n e → Low m e
weaker n m e low h least = let bound = h least in omega arith

pub number_low : (v : Value) → Low 1 (Number v)
unfolding expression_depth
number_low v least = omega arith

pub name_low : (x : List ℕ) → Low 1 (Name x)
unfolding expression_depth
name_low x least = omega arith

pub member_low : (i x : List ℕ) → Low 1 (Member i x)
unfolding expression_depth
member_low i x least = omega arith

pub not_low : (n : ℕ) (e : Expression) → Low n e → Low (suc n) (Not e)
unfolding expression_depth
not_low n e h least = let bound = h tightest in omega arith

bracketed_low : (b : Bool) (d n : ℕ) → d ≤ n → (if b then suc d else d) ≤ suc n
bracketed_low true d n h = omega arith
bracketed_low false d n h = omega arith

not_bracketed : (b : Bool) (d n : ℕ) → b ≡ false → d ≤ n → (if b then suc d else d) ≤ n
not_bracketed true d n e h = absurd (cc)
not_bracketed false d n e h = h

not_less : (n : ℕ) → nat_lt n n ≡ false
not_less n = grind (arith, nat_tests)

-- an operator without brackets of its own
pub bare_low : (op : Operator) (a b : Expression) (n : ℕ) → expression_depth (level op) a ≤ n → expression_depth (suc (level op)) b ≤ n → expression_depth (level op) (Binary op a b) ≤ suc n
unfolding expression_depth
bare_low op a b n h k = not_bracketed (nat_lt (level op) (level op)) _ (suc n) (not_less (level op)) (let bound = max_low (expression_depth (level op) a) (expression_depth (suc (level op)) b) n h k in omega arith)

-- and with them
pub binary_low : (op : Operator) (a b : Expression) (n : ℕ) → expression_depth (level op) a ≤ n → expression_depth (suc (level op)) b ≤ n → Low (suc (suc n)) (Binary op a b)
unfolding expression_depth
binary_low op a b n h k least = bracketed_low (nat_lt (level op) least) _ (suc n) (let bound = max_low (expression_depth (level op) a) (expression_depth (suc (level op)) b) n h k in omega arith)

-- a chain of one operator, from the left
behind_low : (op : Operator) (m : ℕ) (es : List Expression) (a b : Expression) (n : ℕ) → m ≤ n → expression_depth (level op) a ≤ n → expression_depth (suc (level op)) b ≤ n → Each (Low m) es → Low (suc (suc (n + length es))) (fold (Binary op) (Binary op a b) es)
behind_low op m [] a b n low h k all = weaker (suc (suc n)) _ (Binary op a b) (omega arith) (binary_low op a b n h k)
behind_low op m (e ∷ es) a b n low h k all =
    weaker _ _ (fold (Binary op) (Binary op (Binary op a b) e) es) (omega arith)
    (behind_low op m es (Binary op a b) e (suc n) (omega arith) (bare_low op a b n h k) (let bound = all.0 (suc (level op)) in omega arith) all.1)

pub fold_low : (op : Operator) (m : ℕ) (e : Expression) (es : List Expression) → Low m e → Each (Low m) es → Low (suc (m + length es)) (fold (Binary op) e es)
fold_low op m e [] h all = weaker m _ e (omega arith) h
fold_low op m e (s ∷ es) h all = weaker _ _ (fold (Binary op) (Binary op e s) es) (omega arith) (behind_low op m es e s m (omega arith) (h (level op)) (all.0 (suc (level op))) all.1)

or_is : (e : Expression) (es : List Expression) → or_text e es ≡ fold (Binary Or) e es
or_is e [] = refl
or_is e (s ∷ es) = or_is (Binary Or e s) es

pub or_low : (m : ℕ) (e : Expression) (es : List Expression) → Low m e → Each (Low m) es → Low (suc (m + length es)) (or_text e es)
or_low m e es h all = subst (Low (suc (m + length es))) (sym (or_is e es)) (fold_low Or m e es h all)

-- neighbours that are compared
compared_low : (op : Operator) (m : ℕ) (es : List Expression) (a b e : Expression) (n : ℕ) → suc (suc m) ≤ n → expression_depth (level And) a ≤ n → expression_depth (suc (level And)) b ≤ n → Low m e → Each (Low m) es
    → Low (suc (suc (n + length es))) (compared op (both a b) e es)
compared_low op m [] a b e n low h k l all = weaker (suc (suc n)) _ (both a b) (omega arith) (binary_low And a b n h k)
compared_low op m (s ∷ es) a b e n low h k l all =
    weaker _ _ (compared op (both (both a b) (Binary op e s)) s es) (omega arith)
    (compared_low op m es (both a b) (Binary op e s) s (suc n) (omega arith) (bare_low And a b n h k) (let bound = binary_low op e s m (l (level op)) (all.0 (suc (level op))) (suc (level And)) in omega arith) all.0 all.1)

pub neighbours_low : (op : Operator) (m : ℕ) (es : List Expression) → 1 ≤ m → Each (Low m) es → Low (suc (suc (suc (suc (m + length es))))) (neighbours op es)
neighbours_low op m [] some all = weaker 1 _ (neighbours op []) (omega arith) (number_low _)
neighbours_low op m (e ∷ []) some all = weaker 1 _ (neighbours op (e ∷ [])) (omega arith) (number_low _)
neighbours_low op m (e ∷ s ∷ []) some all = weaker (suc (suc m)) _ (Binary op e s) (omega arith) (binary_low op e s m (all.0 (level op)) (all.1.0 (suc (level op))))
neighbours_low op m (e ∷ s ∷ t ∷ es) some all =
    let first = binary_low op e s m (all.0 (level op)) (all.1.0 (suc (level op))) in
    let second = binary_low op s t m (all.1.0 (level op)) (all.1.1.0 (suc (level op))) in
    weaker _ _ (compared op (both (Binary op e s) (Binary op s t)) t es) (omega arith) (compared_low op m es (Binary op e s) (Binary op s t) t (suc (suc m)) (omega arith) (first (level And)) (second (suc (level And))) all.1.1.0 all.1.1.1)

pub chain_low : (op : Operator) (m : ℕ) (es : List Expression) → 1 ≤ m → Each (Low m) es → Low (suc (m + length es)) (chain op es)
chain_low op m [] some all = weaker 1 _ (chain op []) (omega arith) (number_low _)
chain_low op m (e ∷ es) some all = weaker _ _ (fold (Binary op) e es) (omega arith) (fold_low op m e es all.0 all.1)

pub negation_low : (m : ℕ) (es : List Expression) → 1 ≤ m → Each (Low m) es → Low (suc m) (negation es)
negation_low m [] some all = weaker 1 _ (negation []) (omega arith) (number_low _)
negation_low m (e ∷ es) some all = not_low m e all.0

arguments_low : (m : ℕ) (es : List Expression) → Each (Low m) es → list_depth (expressions es) ≤ m
unfolding expression_depth
arguments_low m [] all = omega arith
arguments_low m (e ∷ es) all = max_low (expression_depth 0 e) (list_depth (expressions es)) m (all.0 0) (arguments_low m es all.1)

pub apply_low : (f : List ℕ) (m : ℕ) (es : List Expression) → Each (Low m) es → Low (suc m) (Apply f (expressions es))
unfolding expression_depth
apply_low f m es all least = let bound = arguments_low m es all in omega arith
