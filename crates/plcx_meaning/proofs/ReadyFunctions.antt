-- The expression of a function has the type of what the function gives.
use Rattle.std.proofs.Common.{◌≡◌, ℕ, suc, ◌+◌, ◌≤◌, true, false, List, [], ◌∷◌, Some, length, refl, sym, ap, ◌∙◌, subst, arith, leb-true}
use Rattle.std.specs.List.{fold}
use Rattle.std.proofs.lemmas.Bool.{and_parts}
use Rattle.plcx_types.specs.declared.ty.Ty.{Ty}
use Rattle.plcx_types.specs.declared.ty.Ty.TheVariants as ty
use Rattle.plcx_types.specs.TypeName.{same_ty}
use Rattle.plcx_types.proofs.TypeTable.{same_is, same_refl}
use Rattle.plcx_funcs.specs.declared.func.Func.{Func}
use Rattle.plcx_funcs.specs.declared.func.Func.TheVariants as func
use Rattle.plcx_funcs.specs.declared.pins.Class.TheVariants as class
use Rattle.plcx_funcs.specs.Names.{function_name, is_function}
use Rattle.plcx_funcs.specs.Pins.{can_have, input_class, least_inputs, most_inputs}
use Rattle.plcx_funcs.specs.Applied.{takes, suits}
use Rattle.plcx_funcs.proofs.Found.{found_again}
use Rattle.plcx_types.specs.Lists.{Each}
use Rattle.plcx_meaning.specs.Tree.{Operator, Or, Xor, And, Equal, NotEqual, Less, Greater, LessOrEqual, GreaterOrEqual, Plus, Minus, Times, Divide, Mod, Expression, Apply, Not, Binary, expressions}
use Rattle.plcx_meaning.specs.Layout.{Scope}
use Rattle.plcx_meaning.specs.Functions.{group_of, all_suit, can_apply, out_type}
use Rattle.plcx_meaning.specs.Execute.{function_of}
use Rattle.plcx_meaning.specs.Templates.{both, chain, compared, neighbours, negation, function_text}
use Rattle.plcx_meaning.specs.Typed.{is_operator, result_type, expression_types, AreInRange}
use Rattle.plcx_meaning.specs.Ready.{ExpressionIsReady}

-- an operator on one type that its function takes
two_types : (op : Operator) (t : Ty) → takes (function_of op) t ≡ true → result_type (function_of op) (t ∷ t ∷ []) ≡ Some (out_type (function_of op) t)
two_types Or t h = rw (h, same_refl t)
two_types Xor t h = rw (h, same_refl t)
two_types And t h = rw (h, same_refl t)
two_types Equal t h = rw (h, same_refl t)
two_types NotEqual t h = rw (h, same_refl t)
two_types Less t h = rw (h, same_refl t)
two_types Greater t h = rw (h, same_refl t)
two_types LessOrEqual t h = rw (h, same_refl t)
two_types GreaterOrEqual t h = rw (h, same_refl t)
two_types Plus t h = rw (h, same_refl t)
two_types Minus t h = rw (h, same_refl t)
two_types Times t h = rw (h, same_refl t)
two_types Divide t h = rw (h, same_refl t)
two_types Mod t h = rw (h, same_refl t)

module _ (c : Scope) where
  -- expressions of these types
  abbrev pub HaveTypes : List Expression → List Ty → Type 0
  HaveTypes [] [] = Unit {0}
  HaveTypes [] (t ∷ ts) = ⊥
  HaveTypes (e ∷ es) [] = ⊥
  HaveTypes (e ∷ es) (t ∷ ts) = ExpressionIsReady c e t × HaveTypes es ts

  pub typed_as : (e : Expression) (t u : Ty) → t ≡ u → ExpressionIsReady c e t → ExpressionIsReady c e u
  typed_as e t u same h = subst (ExpressionIsReady c e) same h

  pub binary_has : (op : Operator) (t : Ty) (a b : Expression) → takes (function_of op) t ≡ true → ExpressionIsReady c a t → ExpressionIsReady c b t → ExpressionIsReady c (Binary op a b) (out_type (function_of op) t)
  binary_has op t a b h ha hb = record { typed = rw (ha.typed, hb.typed) (two_types op t h); range = (ha.range, hb.range) }

  pub and_has : (a b : Expression) → ExpressionIsReady c a ty.Bool → ExpressionIsReady c b ty.Bool → ExpressionIsReady c (both a b) ty.Bool
  and_has a b ha hb = binary_has And ty.Bool a b refl ha hb

  pub not_has : (a : Expression) → ExpressionIsReady c a ty.Bool → ExpressionIsReady c (Not a) ty.Bool
  not_has a h = record { typed = rw (h.typed) refl; range = h.range }

  all_types : (es : List Expression) (types : List Ty) → HaveTypes es types → expression_types c (expressions es) ≡ Some types
  all_types [] [] h = refl
  all_types [] (t ∷ ts) h = absurd h
  all_types (e ∷ es) [] h = absurd h
  all_types (e ∷ es) (t ∷ ts) h = rw (h.0.typed, all_types es ts h.1)

  all_in_range : (es : List Expression) (types : List Ty) → HaveTypes es types → AreInRange (expressions es)
  all_in_range [] [] h = tt
  all_in_range [] (t ∷ ts) h = absurd h
  all_in_range (e ∷ es) [] h = absurd h
  all_in_range (e ∷ es) (t ∷ ts) h = (h.0.range, all_in_range es ts h.1)

  by_name : (g : Func) (t : Ty) (es : List Expression) (types : List Ty) → HaveTypes es types → is_function g ≡ true → is_operator g ≡ false → group_of g types ≡ Some t → can_apply g t types ≡ true
      → ExpressionIsReady c (Apply (function_name g) (expressions es)) (out_type g t)
  by_name g t es types k is plain group applies = record { typed = rw (all_types es types k, found_again g is, plain, group, applies); range = all_in_range es types k }

  abbrev AllHave : Ty → List Expression → Type 0
  AllHave t es = Each (λ e. ExpressionIsReady c e t) es

  -- where each input is of the group
  all_of : (g : Func) (t : Ty) → ((i : ℕ) → input_class g i ≡ class.Group) → (i : ℕ) (es : List Expression) (types : List Ty) → HaveTypes es types → all_suit g t i types ≡ true → AllHave t es
  all_of g t grouped i [] [] k h = tt
  all_of g t grouped i [] (u ∷ us) k h = absurd k
  all_of g t grouped i (e ∷ es) [] k h = absurd k
  all_of g t grouped i (e ∷ es) (u ∷ us) k h =
      let parts = and_parts _ _ h in
      let one : same_ty t u ≡ true = ap (λ w. suits w t u) (sym (grouped i)) ∙ parts.0 in
      (typed_as e u t (sym (same_is t u one)) k.0, all_of g t grouped (i + 1) es us k.1 parts.1)

  joined : (op : Operator) (t : Ty) → takes (function_of op) t ≡ true → out_type (function_of op) t ≡ t → (e : Expression) (es : List Expression) → ExpressionIsReady c e t → AllHave t es → ExpressionIsReady c (fold (Binary op) e es) t
  joined op t h same e [] he all = he
  joined op t h same e (x ∷ es) he all = joined op t h same (Binary op e x) es (typed_as (Binary op e x) (out_type (function_of op) t) t same (binary_has op t e x h he all.0)) all.1

  chains : (op : Operator) (t : Ty) → takes (function_of op) t ≡ true → out_type (function_of op) t ≡ t → (es : List Expression) → 1 ≤ length es → AllHave t es → ExpressionIsReady c (chain op es) t
  chains op t h same [] some all = absurd (omega arith)
  chains op t h same (e ∷ es) some all = joined op t h same e es all.0 all.1

  compared_has : (op : Operator) (t : Ty) → takes (function_of op) t ≡ true → out_type (function_of op) t ≡ ty.Bool → (so_far e : Expression) (es : List Expression) → ExpressionIsReady c so_far ty.Bool → ExpressionIsReady c e t → AllHave t es
      → ExpressionIsReady c (compared op so_far e es) ty.Bool
  compared_has op t h same so_far e [] hs he all = hs
  compared_has op t h same so_far e (x ∷ es) hs he all =
      compared_has op t h same (both so_far (Binary op e x)) x es (and_has so_far (Binary op e x) hs (typed_as (Binary op e x) (out_type (function_of op) t) ty.Bool same (binary_has op t e x h he all.0))) all.0 all.1

  compares : (op : Operator) (t : Ty) → takes (function_of op) t ≡ true → out_type (function_of op) t ≡ ty.Bool → (es : List Expression) → 2 ≤ length es → AllHave t es → ExpressionIsReady c (neighbours op es) ty.Bool
  compares op t h same [] two all = absurd (omega arith)
  compares op t h same (e ∷ []) two all = absurd (omega arith)
  compares op t h same (e ∷ x ∷ es) two all =
      compared_has op t h same (Binary op e x) x es (typed_as (Binary op e x) (out_type (function_of op) t) ty.Bool same (binary_has op t e x h all.0 all.1.0)) all.1.0 all.1.1

  -- exactly two inputs
  pairs : (op : Operator) (t : Ty) → takes (function_of op) t ≡ true → (es : List Expression) → length es ≡ 2 → AllHave t es → ExpressionIsReady c (chain op es) (out_type (function_of op) t)
  pairs op t h [] two all = absurd (omega arith)
  pairs op t h (e ∷ []) two all = absurd (omega arith)
  pairs op t h (e ∷ x ∷ []) two all = binary_has op t e x h all.0 all.1.0
  pairs op t h (e ∷ x ∷ y ∷ es) two all = absurd (omega arith)

  negates : (t : Ty) (es : List Expression) → length es ≡ 1 → takes func.Not t ≡ true → AllHave t es → ExpressionIsReady c (negation es) t
  negates t [] one h all = absurd (omega arith)
  negates t (e ∷ []) one h all = record { typed = rw (all.0.typed, h, same_refl t) refl; range = all.0.range }
  negates t (e ∷ x ∷ es) one h all = absurd (omega arith)

  same_length : (es : List Expression) (types : List Ty) → HaveTypes es types → length types ≡ length es
  same_length [] [] k = refl
  same_length [] (t ∷ ts) k = absurd k
  same_length (e ∷ es) [] k = absurd k
  same_length (e ∷ es) (t ∷ ts) k = ap suc (same_length es ts k.1)

  module _ (t : Ty) (es : List Expression) (types : List Ty) (k : HaveTypes es types) where
    counted : (g : Func) → can_apply g t types ≡ true → can_have g (length es) ≡ true
    counted g h = ap (can_have g) (sym (same_length es types k)) ∙ (and_parts _ _ h).0

    taken : (g : Func) → can_apply g t types ≡ true → takes g t ≡ true
    taken g h = (and_parts _ _ (and_parts _ _ h).1).0

    grouped : (g : Func) → ((i : ℕ) → input_class g i ≡ class.Group) → can_apply g t types ≡ true → AllHave t es
    grouped g all h = all_of g t all 0 es types k (and_parts _ _ (and_parts _ _ h).1).1

    least : (g : Func) → can_apply g t types ≡ true → least_inputs g ≤ length es
    least g h = leb-true (least_inputs g) (length es) (and_parts _ _ (counted g h)).0

    most : (g : Func) → can_apply g t types ≡ true → length es ≤ most_inputs g
    most g h = leb-true (length es) (most_inputs g) (and_parts _ _ (counted g h)).1

    exactly : (n : ℕ) → n ≤ length es → length es ≤ n → length es ≡ n
    exactly n a b = omega arith

    some : (n : ℕ) → 2 ≤ n → 1 ≤ n
    some n h = omega arith

    pub function_has : (g : Func) → is_function g ≡ true → group_of g types ≡ Some t → can_apply g t types ≡ true → ExpressionIsReady c (function_text g es) (out_type g t)
    function_has func.Add is group h = chains Plus t (taken func.Add h) refl es (some _ (least func.Add h)) (grouped func.Add (λ i. refl) h)
    function_has func.Mul is group h = chains Times t (taken func.Mul h) refl es (some _ (least func.Mul h)) (grouped func.Mul (λ i. refl) h)
    function_has func.Sub is group h = pairs Minus t (taken func.Sub h) es (exactly 2 (least func.Sub h) (most func.Sub h)) (grouped func.Sub (λ i. refl) h)
    function_has func.Div is group h = pairs Divide t (taken func.Div h) es (exactly 2 (least func.Div h) (most func.Div h)) (grouped func.Div (λ i. refl) h)
    function_has func.Mod is group h = pairs Mod t (taken func.Mod h) es (exactly 2 (least func.Mod h) (most func.Mod h)) (grouped func.Mod (λ i. refl) h)
    function_has func.And is group h = chains And t (taken func.And h) refl es (some _ (least func.And h)) (grouped func.And (λ i. refl) h)
    function_has func.Or is group h = chains Or t (taken func.Or h) refl es (some _ (least func.Or h)) (grouped func.Or (λ i. refl) h)
    function_has func.Xor is group h = chains Xor t (taken func.Xor h) refl es (some _ (least func.Xor h)) (grouped func.Xor (λ i. refl) h)
    function_has func.Not is group h = negates t es (exactly 1 (least func.Not h) (most func.Not h)) (taken func.Not h) (grouped func.Not (λ i. refl) h)
    function_has func.Gt is group h = compares Greater t (taken func.Gt h) refl es (least func.Gt h) (grouped func.Gt (λ i. refl) h)
    function_has func.Ge is group h = compares GreaterOrEqual t (taken func.Ge h) refl es (least func.Ge h) (grouped func.Ge (λ i. refl) h)
    function_has func.Eq is group h = compares Equal t (taken func.Eq h) refl es (least func.Eq h) (grouped func.Eq (λ i. refl) h)
    function_has func.Le is group h = compares LessOrEqual t (taken func.Le h) refl es (least func.Le h) (grouped func.Le (λ i. refl) h)
    function_has func.Lt is group h = compares Less t (taken func.Lt h) refl es (least func.Lt h) (grouped func.Lt (λ i. refl) h)
    function_has func.Ne is group h = pairs NotEqual t (taken func.Ne h) es (exactly 2 (least func.Ne h) (most func.Ne h)) (grouped func.Ne (λ i. refl) h)
    function_has func.Abs is group h = by_name func.Abs t es types k is refl group h
    function_has func.Move is group h = by_name func.Move t es types k is refl group h
    function_has func.Shl is group h = by_name func.Shl t es types k is refl group h
    function_has func.Shr is group h = by_name func.Shr t es types k is refl group h
    function_has func.Rol is group h = by_name func.Rol t es types k is refl group h
    function_has func.Ror is group h = by_name func.Ror t es types k is refl group h
    function_has func.Sel is group h = by_name func.Sel t es types k is refl group h
    function_has func.Max is group h = by_name func.Max t es types k is refl group h
    function_has func.Min is group h = by_name func.Min t es types k is refl group h
    function_has func.Limit is group h = by_name func.Limit t es types k is refl group h
    function_has func.Mux is group h = by_name func.Mux t es types k is refl group h
    function_has (func.Conv from to) is group h = by_name (func.Conv from to) t es types k is refl group h
