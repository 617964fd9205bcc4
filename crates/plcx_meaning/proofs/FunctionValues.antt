-- The expression of a function has the value that the function gives.
use Rattle.std.proofs.Common.{◌≡◌, ℕ, suc, ◌+◌, ℤ, ◌+ℤ◌, ◌*ℤ◌, Bool, true, false, ◌&&◌, List, [], ◌∷◌, Some, map, length, drop, ◌≤◌, refl, sym, ap, ◌∙◌, arith, leb-true}
use Rattle.std.specs.Prelude.{bit_and, bit_or, bit_xor}
use Rattle.std.specs.List.{fold, list_all, zip}
use Rattle.std.specs.declared.result.Result.{Result}
use Rattle.std.specs.declared.result.Result.TheVariants.{Ok, Err}
use Rattle.std.proofs.lemmas.Bool.{and_parts, eq-eqb}
use Rattle.plcx_types.specs.declared.fault.Fault.{Fault}
use Rattle.plcx_types.specs.declared.ty.Ty.{Ty}
use Rattle.plcx_types.specs.declared.ty.Ty.TheVariants as ty
use Rattle.plcx_types.specs.TypeName.{same_ty, position_of_type}
use Rattle.plcx_types.specs.Value.{Value}
use Rattle.plcx_types.proofs.TypeTable.{same_is}
use Rattle.plcx_funcs.specs.declared.func.Func.{Func}
use Rattle.plcx_funcs.specs.declared.func.Func.TheVariants as func
use Rattle.plcx_funcs.specs.declared.pins.Class.TheVariants as class
use Rattle.plcx_funcs.specs.Names.{function_name, is_function}
use Rattle.plcx_funcs.specs.Pins.{can_have, input_class, least_inputs, most_inputs}
use Rattle.plcx_funcs.specs.Applied as funcs
use Rattle.plcx_funcs.specs.Applied.{value, applied, takes, suits, after, both_bits, joined, agree, all_agree}
use Rattle.plcx_funcs.proofs.Found.{found_again}
use Rattle.plcx_types.specs.Lists.{Each}
use Rattle.plcx_meaning.specs.Base.{Path, truth, and_of, or_of, not_of}
use Rattle.plcx_meaning.specs.Tree.{Operator, Or, Xor, And, Equal, NotEqual, Less, Greater, LessOrEqual, GreaterOrEqual, Plus, Minus, Times, Divide, Mod, Expression, Apply, Not, Binary, expressions}
use Rattle.plcx_meaning.specs.Functions.{Given, Faulty, group_of, all_suit, can_apply, out_type, answer, call_function}
use Rattle.plcx_meaning.specs.Execute.{TextSetting, Frame, function_of, value_of, values_of}
use Rattle.plcx_meaning.specs.Templates.{both, chain, compared, neighbours, negation, function_text}

and_true : (b : Bool) → (b && true) ≡ b
and_true true = refl
and_true false = refl

and_assoc : (a b d : Bool) → ((a && b) && d) ≡ (a && (b && d))
and_assoc true b d = refl
and_assoc false b d = refl

-- one pair of neighbours
one_pair : (b : Bool) → Given (funcs.truth (b && true)) ≡ Given (value ty.Bool (truth b))
one_pair true = refl
one_pair false = refl

-- the types of values
abbrev pub types : List Value → List Ty
types vs = map (λ (v : Value). v.ty) vs

pub same_type : (t : Ty) → same_ty t t ≡ true
same_type t = eq-eqb (position_of_type t) (position_of_type t) refl

-- a call on values that suit it
pub call_is : (g : Func) (t : Ty) (vs : List Value) → group_of g (types vs) ≡ Some t → can_apply g t (types vs) ≡ true → call_function g vs ≡ answer (out_type g t) (applied g t vs)
call_is g t vs group applies = rw (group, applies)

-- all values have the type
abbrev pub AllOf : Ty → List Value → Type 0
AllOf t vs = Each (λ (v : Value). v.ty ≡ t) vs

-- where each input is of the group
all_of : (g : Func) (t : Ty) → ((i : ℕ) → input_class g i ≡ class.Group) → (i : ℕ) (vs : List Value) → all_suit g t i (types vs) ≡ true → AllOf t vs
all_of g t grouped i [] h = tt
all_of g t grouped i (v ∷ vs) h =
    let parts = and_parts _ _ h in
    let one : same_ty t v.ty ≡ true = ap (λ k. suits k t v.ty) (sym (grouped i)) ∙ parts.0 in
    (sym (same_is t v.ty one), all_of g t grouped (i + 1) vs parts.1)

two_apply : (op : Operator) (t : Ty) → takes (function_of op) t ≡ true → can_apply (function_of op) t (t ∷ t ∷ []) ≡ true
two_apply Or t h = rw (h, same_type t)
two_apply Xor t h = rw (h, same_type t)
two_apply And t h = rw (h, same_type t)
two_apply Equal t h = rw (h, same_type t)
two_apply NotEqual t h = rw (h, same_type t)
two_apply Less t h = rw (h, same_type t)
two_apply Greater t h = rw (h, same_type t)
two_apply LessOrEqual t h = rw (h, same_type t)
two_apply GreaterOrEqual t h = rw (h, same_type t)
two_apply Plus t h = rw (h, same_type t)
two_apply Minus t h = rw (h, same_type t)
two_apply Times t h = rw (h, same_type t)
two_apply Divide t h = rw (h, same_type t)
two_apply Mod t h = rw (h, same_type t)

two_group : (op : Operator) (t : Ty) → group_of (function_of op) (t ∷ t ∷ []) ≡ Some t
two_group Or t = refl
two_group Xor t = refl
two_group And t = refl
two_group Equal t = refl
two_group NotEqual t = refl
two_group Less t = refl
two_group Greater t = refl
two_group LessOrEqual t = refl
two_group GreaterOrEqual t = refl
two_group Plus t = refl
two_group Minus t = refl
two_group Times t = refl
two_group Divide t = refl
two_group Mod t = refl

-- an operator on two values of one type that its function takes
pub two : (op : Operator) (t : Ty) (n m : ℤ) → takes (function_of op) t ≡ true
    → call_function (function_of op) (value t n ∷ value t m ∷ []) ≡ answer (out_type (function_of op) t) (applied (function_of op) t (value t n ∷ value t m ∷ []))
two op t n m h = call_is (function_of op) t (value t n ∷ value t m ∷ []) (two_group op t) (two_apply op t h)

module _ (c : TextSetting) (s : Path → ℤ) (f : Frame) where
  -- the values of expressions
  abbrev pub Known : List Expression → List Value → Type 0
  Known [] [] = Unit {0}
  Known [] (v ∷ vs) = ⊥
  Known (e ∷ es) [] = ⊥
  Known (e ∷ es) (v ∷ vs) = (value_of e c s f ≡ Given v) × Known es vs

  values_known : (es : List Expression) (vs : List Value) → Known es vs → values_of (expressions es) c s f ≡ Given vs
  values_known [] [] k = refl
  values_known [] (v ∷ vs) k = absurd k
  values_known (e ∷ es) [] k = absurd k
  values_known (e ∷ es) (v ∷ vs) k = let rest = values_known es vs k.1 in rw (k.0, rest)

  by_name : (g : Func) (t : Ty) (es : List Expression) (vs : List Value) → Known es vs → is_function g ≡ true → group_of g (types vs) ≡ Some t → can_apply g t (types vs) ≡ true
      → value_of (Apply (function_name g) (expressions es)) c s f ≡ answer (out_type g t) (applied g t vs)
  by_name g t es vs k is group applies = rw (values_known es vs k, found_again g is, group, applies)

  -- two operands whose values are known
  binary_known : (op : Operator) (t : Ty) (a b : Expression) (v w : Value) → takes (function_of op) t ≡ true → v.ty ≡ t → w.ty ≡ t → value_of a c s f ≡ Given v → value_of b c s f ≡ Given w
      → value_of (Binary op a b) c s f ≡ answer (out_type (function_of op) t) (applied (function_of op) t (value t v.n ∷ value t w.n ∷ []))
  binary_known op t a b v w h vt wt ka kb =
      let left : value_of a c s f ≡ Given (value t v.n) = ka ∙ ap (λ u. Given (value u v.n)) vt in
      let right : value_of b c s f ≡ Given (value t w.n) = kb ∙ ap (λ u. Given (value u w.n)) wt in
      rw (left, right) (two op t v.n w.n h)

  pub and_known : (a b : Expression) (n m : ℤ) → value_of a c s f ≡ Given (value ty.Bool n) → value_of b c s f ≡ Given (value ty.Bool m) → value_of (both a b) c s f ≡ Given (value ty.Bool (and_of n m))
  and_known a b n m ka kb = rw (ka, kb)

  pub or_known : (a b : Expression) (n m : ℤ) → value_of a c s f ≡ Given (value ty.Bool n) → value_of b c s f ≡ Given (value ty.Bool m) → value_of (Binary Or a b) c s f ≡ Given (value ty.Bool (or_of n m))
  or_known a b n m ka kb = rw (ka, kb)

  pub not_known : (a : Expression) (n : ℤ) → value_of a c s f ≡ Given (value ty.Bool n) → value_of (Not a) c s f ≡ Given (value ty.Bool (not_of n))
  not_known a n ka = rw (ka)

  -- an operator whose function joins numbers without a fault
  chain_joined : (op : Operator) (t : Ty) (join : ℤ → ℤ → ℤ) → takes (function_of op) t ≡ true → ((n m : ℤ) → answer (out_type (function_of op) t) (applied (function_of op) t (value t n ∷ value t m ∷ [])) ≡ Given (value t (join n m)))
      → (e : Expression) (n : ℤ) (es : List Expression) (vs : List Value) → value_of e c s f ≡ Given (value t n) → Known es vs → AllOf t vs
      → value_of (fold (Binary op) e es) c s f ≡ Given (value t (fold (λ (m : ℤ) (w : Value). join m w.n) n vs))
  chain_joined op t join h gives e n [] [] ke k all = ke
  chain_joined op t join h gives e n [] (v ∷ vs) ke k all = absurd k
  chain_joined op t join h gives e n (x ∷ es) [] ke k all = absurd k
  chain_joined op t join h gives e n (x ∷ es) (v ∷ vs) ke k all =
      chain_joined op t join h gives (Binary op e x) (join n v.n) es vs (binary_known op t e x (value t n) v h refl all.0 ke k.0 ∙ gives n v.n) k.1 all.1

  -- an operator whose function tests the range after each step
  chain_checked : (op : Operator) (t : Ty) (join : ℤ → ℤ → ℤ) → takes (function_of op) t ≡ true → ((v w : Value) → answer (out_type (function_of op) t) (applied (function_of op) t (v ∷ w ∷ [])) ≡ answer t (after join t (Ok v) w))
      → (e : Expression) (r : Result Value Fault) (es : List Expression) (vs : List Value) → value_of e c s f ≡ answer t r → Known es vs → AllOf t vs
      → value_of (fold (Binary op) e es) c s f ≡ answer t (fold (after join t) r vs)
  chain_checked op t join h gives e r [] [] ke k all = ke
  chain_checked op t join h gives e r [] (v ∷ vs) ke k all = absurd k
  chain_checked op t join h gives e r (x ∷ es) [] ke k all = absurd k
  chain_checked op t join h gives e (Err fault) (x ∷ es) (v ∷ vs) ke k all =
      let step : value_of (Binary op e x) c s f ≡ Faulty fault = rw (ke) in
      chain_checked op t join h gives (Binary op e x) (Err fault) es vs step k.1 all.1
  chain_checked op t join h gives e (Ok v) (x ∷ es) (w ∷ vs) ke k all =
      chain_checked op t join h gives (Binary op e x) (after join t (Ok v) w) es vs
      (binary_known op t e x (value t v.n) w h refl all.0 ke k.0 ∙ gives (value t v.n) (value t w.n)) k.1 all.1

  truth_and : (a b : Bool) → and_of (truth a) (truth b) ≡ truth (a && b)
  truth_and true true = refl
  truth_and true false = refl
  truth_and false true = refl
  truth_and false false = refl

  -- neighbours compared, joined by AND
  compared_known : (op : Operator) (t : Ty) (test : ℤ → ℤ → Bool) → takes (function_of op) t ≡ true → ((v w : Value) → answer (out_type (function_of op) t) (applied (function_of op) t (v ∷ w ∷ [])) ≡ Given (value ty.Bool (truth (test v.n w.n))))
      → (so_far e : Expression) (b : Bool) (v : Value) (es : List Expression) (vs : List Value) → value_of so_far c s f ≡ Given (value ty.Bool (truth b)) → value_of e c s f ≡ Given v → v.ty ≡ t → Known es vs → AllOf t vs
      → value_of (compared op so_far e es) c s f ≡ Given (value ty.Bool (truth (b && list_all (λ (x, y). test x.n y.n) (zip (v ∷ vs) vs))))
  compared_known op t test h gives so_far e b v [] [] ks ke vt k all = ks ∙ ap (λ z. Given (value ty.Bool (truth z))) (sym (and_true b))
  compared_known op t test h gives so_far e b v [] (w ∷ vs) ks ke vt k all = absurd k
  compared_known op t test h gives so_far e b v (x ∷ es) [] ks ke vt k all = absurd k
  compared_known op t test h gives so_far e b v (x ∷ es) (w ∷ vs) ks ke vt k all =
      let one = binary_known op t e x v w h vt all.0 ke k.0 ∙ gives (value t v.n) (value t w.n) in
      let both_are = and_known so_far (Binary op e x) (truth b) (truth (test v.n w.n)) ks one ∙ ap (λ n. Given (value ty.Bool n)) (truth_and b (test v.n w.n)) in
      compared_known op t test h gives (both so_far (Binary op e x)) x (b && test v.n w.n) w es vs both_are k.0 all.0 k.1 all.1
      ∙ ap (λ z. Given (value ty.Bool (truth z))) (and_assoc b (test v.n w.n) (list_all (λ (x, y). test x.n y.n) (zip (w ∷ vs) vs)))

  -- a function that joins, one that tests, and one that compares, on all its inputs
  joins : (op : Operator) (t : Ty) (join : ℤ → ℤ → ℤ) → takes (function_of op) t ≡ true → ((n m : ℤ) → answer (out_type (function_of op) t) (applied (function_of op) t (value t n ∷ value t m ∷ [])) ≡ Given (value t (join n m)))
      → (es : List Expression) (vs : List Value) → 2 ≤ length vs → Known es vs → AllOf t vs → value_of (chain op es) c s f ≡ Given (value t (joined join vs))
  joins op t join h gives [] [] low k all = absurd (omega arith)
  joins op t join h gives [] (v ∷ vs) low k all = absurd k
  joins op t join h gives (e ∷ es) [] low k all = absurd k
  joins op t join h gives (e ∷ es) (v ∷ vs) low k all = chain_joined op t join h gives e v.n es vs (k.0 ∙ ap (λ u. Given (value u v.n)) all.0) k.1 all.1

  tests : (op : Operator) (t : Ty) (join : ℤ → ℤ → ℤ) → takes (function_of op) t ≡ true → ((v w : Value) → answer (out_type (function_of op) t) (applied (function_of op) t (v ∷ w ∷ [])) ≡ answer t (after join t (Ok v) w))
      → (es : List Expression) (vs : List Value) → 2 ≤ length vs → Known es vs → AllOf t vs → value_of (chain op es) c s f ≡ answer t (funcs.folded join t vs)
  tests op t join h gives [] [] low k all = absurd (omega arith)
  tests op t join h gives [] (v ∷ vs) low k all = absurd k
  tests op t join h gives (e ∷ es) [] low k all = absurd k
  tests op t join h gives (e ∷ es) (v ∷ vs) low k all = chain_checked op t join h gives e (Ok v) es vs (k.0 ∙ ap (λ u. Given (value u v.n)) all.0) k.1 all.1

  compares : (op : Operator) (t : Ty) (test : ℤ → ℤ → Bool) → takes (function_of op) t ≡ true → ((v w : Value) → answer (out_type (function_of op) t) (applied (function_of op) t (v ∷ w ∷ [])) ≡ Given (value ty.Bool (truth (test v.n w.n))))
      → (es : List Expression) (vs : List Value) → 2 ≤ length vs → Known es vs → AllOf t vs
      → value_of (neighbours op es) c s f ≡ Given (value ty.Bool (truth (list_all (λ (x, y). test x.n y.n) (zip vs (drop 1 vs)))))
  compares op t test h gives [] [] low k all = absurd (omega arith)
  compares op t test h gives [] (v ∷ vs) low k all = absurd k
  compares op t test h gives (e ∷ es) [] low k all = absurd k
  compares op t test h gives (e ∷ []) (v ∷ []) low k all = absurd (omega arith)
  compares op t test h gives (e ∷ []) (v ∷ w ∷ vs) low k all = absurd k.1
  compares op t test h gives (e ∷ x ∷ es) (v ∷ []) low k all = absurd k.1
  compares op t test h gives (e ∷ x ∷ es) (v ∷ w ∷ vs) low k all =
      let first = binary_known op t e x v w h all.0 all.1.0 k.0 k.1.0 ∙ gives (value t v.n) (value t w.n) in
      compared_known op t test h gives (Binary op e x) x (test v.n w.n) w es vs first k.1.0 all.1.0 k.1.1 all.1.1

  -- exactly two inputs
  pairs : (op : Operator) (t : Ty) → takes (function_of op) t ≡ true → (es : List Expression) (vs : List Value) → length vs ≡ 2 → Known es vs → AllOf t vs
      → value_of (chain op es) c s f ≡ answer (out_type (function_of op) t) (applied (function_of op) t vs)
  pairs op t h [] [] two k all = absurd (omega arith)
  pairs op t h [] (v ∷ vs) two k all = absurd k
  pairs op t h (e ∷ es) [] two k all = absurd k
  pairs op t h (e ∷ []) (v ∷ []) two k all = absurd (omega arith)
  pairs op t h (e ∷ []) (v ∷ w ∷ vs) two k all = absurd k.1
  pairs op t h (e ∷ x ∷ es) (v ∷ []) two k all = absurd k.1
  pairs op t h (e ∷ x ∷ []) (v ∷ w ∷ []) two k all =
      binary_known op t e x v w h all.0 all.1.0 k.0 k.1.0
      ∙ ap (λ a. answer (out_type (function_of op) t) (applied (function_of op) t (a ∷ value t w.n ∷ []))) (ap (λ u. value u v.n) (sym all.0))
      ∙ ap (λ a. answer (out_type (function_of op) t) (applied (function_of op) t (v ∷ a ∷ []))) (ap (λ u. value u w.n) (sym all.1.0))
  pairs op t h (e ∷ x ∷ y ∷ es) (v ∷ w ∷ []) two k all = absurd k.1.1
  pairs op t h (e ∷ x ∷ []) (v ∷ w ∷ u ∷ vs) two k all = absurd k.1.1
  pairs op t h (e ∷ x ∷ y ∷ es) (v ∷ w ∷ u ∷ vs) two k all = absurd (omega arith)

  negates : (t : Ty) (es : List Expression) (vs : List Value) → length vs ≡ 1 → Known es vs → group_of func.Not (types vs) ≡ Some t → can_apply func.Not t (types vs) ≡ true
      → value_of (negation es) c s f ≡ answer t (applied func.Not t vs)
  negates t [] [] one k group applies = absurd (omega arith)
  negates t [] (v ∷ vs) one k group applies = absurd k
  negates t (e ∷ es) [] one k group applies = absurd k
  negates t (e ∷ []) (v ∷ []) one k group applies = rw (k.0) (call_is func.Not t (v ∷ []) group applies)
  negates t (e ∷ x ∷ es) (v ∷ []) one k group applies = absurd k.1
  negates t (e ∷ []) (v ∷ w ∷ vs) one k group applies = absurd k.1
  negates t (e ∷ x ∷ es) (v ∷ w ∷ vs) one k group applies = absurd (omega arith)

  length_types : (vs : List Value) → length (types vs) ≡ length vs
  length_types [] = refl
  length_types (v ∷ vs) = ap suc (length_types vs)

  -- how many inputs there are at least, and at most
  at_least : (g : Func) (n : ℕ) → can_have g n ≡ true → least_inputs g ≤ n
  at_least g n h = leb-true (least_inputs g) n (and_parts _ _ h).0

  at_most : (g : Func) (n : ℕ) → can_have g n ≡ true → n ≤ most_inputs g
  at_most g n h = leb-true n (most_inputs g) (and_parts _ _ h).1

  module _ (t : Ty) (es : List Expression) (vs : List Value) (k : Known es vs) where
    -- what can be applied has so many inputs, of types that the function takes and that suit its pins
    counted : (g : Func) → can_apply g t (types vs) ≡ true → can_have g (length vs) ≡ true
    counted g h = ap (can_have g) (sym (length_types vs)) ∙ (and_parts _ _ h).0

    taken : (g : Func) → can_apply g t (types vs) ≡ true → takes g t ≡ true
    taken g h = (and_parts _ _ (and_parts _ _ h).1).0

    grouped : (g : Func) → ((i : ℕ) → input_class g i ≡ class.Group) → can_apply g t (types vs) ≡ true → AllOf t vs
    grouped g all h = all_of g t all 0 vs (and_parts _ _ (and_parts _ _ h).1).1

    least : (g : Func) → can_apply g t (types vs) ≡ true → least_inputs g ≤ length vs
    least g h = at_least g (length vs) (counted g h)

    most : (g : Func) → can_apply g t (types vs) ≡ true → length vs ≤ most_inputs g
    most g h = at_most g (length vs) (counted g h)

    exactly : (n : ℕ) → n ≤ length vs → length vs ≤ n → length vs ≡ n
    exactly n a b = omega arith

    pub function_value : (g : Func) → is_function g ≡ true → group_of g (types vs) ≡ Some t → can_apply g t (types vs) ≡ true
        → value_of (function_text g es) c s f ≡ answer (out_type g t) (applied g t vs)
    function_value func.Add is group h = tests Plus t ◌+ℤ◌ (taken func.Add h) (λ v w. refl) es vs (least func.Add h) k (grouped func.Add (λ i. refl) h)
    function_value func.Mul is group h = tests Times t ◌*ℤ◌ (taken func.Mul h) (λ v w. refl) es vs (least func.Mul h) k (grouped func.Mul (λ i. refl) h)
    function_value func.Sub is group h = pairs Minus t (taken func.Sub h) es vs (exactly 2 (least func.Sub h) (most func.Sub h)) k (grouped func.Sub (λ i. refl) h)
    function_value func.Div is group h = pairs Divide t (taken func.Div h) es vs (exactly 2 (least func.Div h) (most func.Div h)) k (grouped func.Div (λ i. refl) h)
    function_value func.Mod is group h = pairs Mod t (taken func.Mod h) es vs (exactly 2 (least func.Mod h) (most func.Mod h)) k (grouped func.Mod (λ i. refl) h)
    function_value func.And is group h = joins And t (both_bits bit_and) (taken func.And h) (λ n m. refl) es vs (least func.And h) k (grouped func.And (λ i. refl) h)
    function_value func.Or is group h = joins Or t (both_bits bit_or) (taken func.Or h) (λ n m. refl) es vs (least func.Or h) k (grouped func.Or (λ i. refl) h)
    function_value func.Xor is group h = joins Xor t (both_bits bit_xor) (taken func.Xor h) (λ n m. refl) es vs (least func.Xor h) k (grouped func.Xor (λ i. refl) h)
    function_value func.Not is group h = negates t es vs (exactly 1 (least func.Not h) (most func.Not h)) k group h
    function_value func.Gt is group h = compares Greater t (agree func.Gt) (taken func.Gt h) (λ v w. one_pair (agree func.Gt v.n w.n)) es vs (least func.Gt h) k (grouped func.Gt (λ i. refl) h)
    function_value func.Ge is group h = compares GreaterOrEqual t (agree func.Ge) (taken func.Ge h) (λ v w. one_pair (agree func.Ge v.n w.n)) es vs (least func.Ge h) k (grouped func.Ge (λ i. refl) h)
    function_value func.Eq is group h = compares Equal t (agree func.Eq) (taken func.Eq h) (λ v w. one_pair (agree func.Eq v.n w.n)) es vs (least func.Eq h) k (grouped func.Eq (λ i. refl) h)
    function_value func.Le is group h = compares LessOrEqual t (agree func.Le) (taken func.Le h) (λ v w. one_pair (agree func.Le v.n w.n)) es vs (least func.Le h) k (grouped func.Le (λ i. refl) h)
    function_value func.Lt is group h = compares Less t (agree func.Lt) (taken func.Lt h) (λ v w. one_pair (agree func.Lt v.n w.n)) es vs (least func.Lt h) k (grouped func.Lt (λ i. refl) h)
    function_value func.Ne is group h = pairs NotEqual t (taken func.Ne h) es vs (exactly 2 (least func.Ne h) (most func.Ne h)) k (grouped func.Ne (λ i. refl) h)
    function_value func.Abs is group h = by_name func.Abs t es vs k is group h
    function_value func.Move is group h = by_name func.Move t es vs k is group h
    function_value func.Shl is group h = by_name func.Shl t es vs k is group h
    function_value func.Shr is group h = by_name func.Shr t es vs k is group h
    function_value func.Rol is group h = by_name func.Rol t es vs k is group h
    function_value func.Ror is group h = by_name func.Ror t es vs k is group h
    function_value func.Sel is group h = by_name func.Sel t es vs k is group h
    function_value func.Max is group h = by_name func.Max t es vs k is group h
    function_value func.Min is group h = by_name func.Min t es vs k is group h
    function_value func.Limit is group h = by_name func.Limit t es vs k is group h
    function_value func.Mux is group h = by_name func.Mux t es vs k is group h
    function_value (func.Conv from to) is group h = by_name (func.Conv from to) t es vs k is group h
