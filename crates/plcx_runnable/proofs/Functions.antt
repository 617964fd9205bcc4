-- Arguments of types that a function takes fit its signature, and what it gives of them has the type of OUT.
use Rattle.std.proofs.Common.{◌≡◌, ℕ, zero, suc, ◌+◌, ◌<◌, ◌≤◌, ℤ, pos, negsuc, Bool, true, false, List, [], ◌∷◌, length, refl, sym, ap, ◌∙◌, subst, arith, leb-true, ltb-true, if◌then◌else◌}
use Rattle.std.specs.Prelude.{◌+ℤ◌, ◌-ℤ◌, ◌*ℤ◌, ◌%◌, ◌^◌, nat_lt, int_lt, int_div, unsigned_abs}
use Rattle.std.specs.List.{fold}
use Rattle.std.specs.declared.result.Result.{Result}
use Rattle.std.specs.declared.result.Result.TheVariants.{Ok, Err}
use Rattle.std.proofs.lemmas.Bool.{and_parts}
use Rattle.plcx_types.specs.declared.fault.Fault.{Fault}
use Rattle.plcx_types.specs.declared.fault.Fault.TheVariants as fault
use Rattle.plcx_types.specs.declared.ty.Ty.{Ty}
use Rattle.plcx_types.specs.declared.ty.Ty.TheVariants as ty
use Rattle.plcx_types.specs.Range.{fits}
use Rattle.plcx_types.specs.Value.{Value}
use Rattle.plcx_types.proofs.TypeTable.{same_is}
use Rattle.plcx_funcs.specs.declared.func.Func.{Func}
use Rattle.plcx_funcs.specs.declared.func.Func.TheVariants as func
use Rattle.plcx_funcs.specs.declared.pins.Class.TheVariants as class
use Rattle.plcx_funcs.specs.Pins as pins
use Rattle.plcx_funcs.specs.Pins.{can_have, input_class, least_inputs}
use Rattle.plcx_funcs.specs.Types.{is_bool}
use Rattle.plcx_funcs.specs.Applied.{value, value_at, number_at, checked, is_zero, after, folded, quotient, greater, lesser, best, chosen, narrows, width, converted, moved, shifted_left, shifted_right, rotated_left, rotated_right, applied, suits, FitsSignature}
use Rattle.plcx_meaning.specs.Functions.{all_suit, can_apply, out_type}
use Rattle.plcx_meaning.proofs.FunctionValues.{types}
use Rattle.plcx_steps.specs.Sound.{most_inputs}
use Rattle.plcx_steps.specs.Typed.{Gives}

-- ---- arguments

length_types : (vs : List Value) → length (types vs) ≡ length vs
length_types [] = refl
length_types (v ∷ vs) = ap suc (length_types vs)

-- each argument suits its pin
suits_at : (f : Func) (t : Ty) (j : ℕ) (vs : List Value) → all_suit f t j (types vs) ≡ true → (i : ℕ) → i < length vs → suits (input_class f (j + i)) t (value_at vs i).ty ≡ true
suits_at f t j [] h i low = absurd (omega arith)
suits_at f t j (v ∷ vs) h zero low = ap (λ k. suits (input_class f k) t v.ty) (let e : j + 0 ≡ j = omega arith in e) ∙ (and_parts _ _ h).0
suits_at f t j (v ∷ vs) h (suc i) low =
    ap (λ k. suits (input_class f k) t (value_at vs i).ty) (let e : j + suc i ≡ j + 1 + i = omega arith in e)
    ∙ suits_at f t (j + 1) vs (and_parts _ _ h).1 i (omega arith)

module _ (f : Func) (t : Ty) (vs : List Value) (h : can_apply f t (types vs) ≡ true) where
  counted : can_have f (length vs) ≡ true
  counted = ap (can_have f) (sym (length_types vs)) ∙ (and_parts _ _ h).0

  least : least_inputs f ≤ length vs
  least = leb-true (least_inputs f) (length vs) (and_parts _ _ counted).0

  suit : (i : ℕ) → i < length vs → suits (input_class f i) t (value_at vs i).ty ≡ true
  suit i low = ap (λ k. suits (input_class f k) t (value_at vs i).ty) (let e : i ≡ 0 + i = omega arith in e) ∙ suits_at f t 0 vs (and_parts _ _ (and_parts _ _ h).1).1 i low

  fit : FitsSignature f t vs
  fit = record { count = counted; group = (and_parts _ _ (and_parts _ _ h).1).0; types = suit }

  -- one of the group has its type
  grouped : (i : ℕ) → i < length vs → input_class f i ≡ class.Group → (value_at vs i).ty ≡ t
  grouped i low e = sym (same_is t (value_at vs i).ty (ap (λ k. suits k t (value_at vs i).ty) (sym e) ∙ suit i low))

-- ---- what is given

-- a value of the type, or a fault
abbrev GoodAt : Ty → Result Value Fault → Type 0
GoodAt t (Ok v) = v.ty ≡ t
GoodAt t (Err e) = Unit {0}

record Good (t : Ty) (r : Result Value Fault) : Type 0 where
  pub is : GoodAt t r

good : (t : Ty) (r : Result Value Fault) → GoodAt t r → Good t r
good t r h = record { is = h }

checked_good : (t : Ty) (n : ℤ) → Good t (checked t n)
checked_good t n = by_test (fits t n)
  where
    by_test : (b : Bool) → Good t (if b then Ok (value t n) else Err fault.Range)
    by_test true = good t (Ok (value t n)) refl
    by_test false = good t (Err fault.Range) tt

quotient_good : (t : Ty) (a b : ℤ) → Good t (quotient t a b)
quotient_good t a b = by_test (is_zero b) (checked_good t (int_div a b))
  where
    by_test : (c : Bool) → Good t (checked t (int_div a b)) → Good t (if c then Err fault.DivByZero else checked t (int_div a b))
    by_test true h = good t (Err fault.DivByZero) tt
    by_test false h = h

after_good : (op : ℤ → ℤ → ℤ) (t : Ty) (r : Result Value Fault) (v : Value) → Good t (after op t r v)
after_good op t (Ok w) v = checked_good t (op w.n v.n)
after_good op t (Err e) v = good t (Err e) tt

fold_good : (op : ℤ → ℤ → ℤ) (t : Ty) (r : Result Value Fault) (vs : List Value) → Good t r → Good t (fold (after op t) r vs)
fold_good op t r [] h = h
fold_good op t r (v ∷ vs) h = fold_good op t (after op t r v) vs (after_good op t r v)

folded_good : (op : ℤ → ℤ → ℤ) (t : Ty) (vs : List Value) → (0 < length vs → (value_at vs 0).ty ≡ t) → Good t (folded op t vs)
folded_good op t [] h = good t (Err fault.Range) tt
folded_good op t (v ∷ vs) h = fold_good op t (Ok v) vs (good t (Ok v) (h (omega arith)))

moved_good : (move : ℕ → ℕ → ℕ → ℕ) (t : Ty) (n by : ℤ) → Good t (moved move t n by)
moved_good move t n (pos by) = good t (Ok (value t (pos (move (width t) (unsigned_abs n) by)))) refl
moved_good move t n (negsuc by) = good t (Err fault.Range) tt

converted_good : (from to : Ty) (n : ℤ) → Good to (converted from to n)
converted_good from to n = by_tests (is_bool to) (narrows from to) (checked_good to n)
  where
    low : ℤ
    low = pos (unsigned_abs n % 2 ^ width to)

    by_tests : (b c : Bool) → Good to (checked to n) → Good to (if b then Ok (value to (if is_zero n then pos 0 else pos 1)) else (if c then Ok (value to (pos (unsigned_abs n % 2 ^ width to))) else checked to n))
    by_tests true c h = good to (Ok (value to (if is_zero n then pos 0 else pos 1))) refl
    by_tests false true h = good to (Ok (value to (pos (unsigned_abs n % 2 ^ width to)))) refl
    by_tests false false h = h

-- one of two, and one of several
either_type : (t : Ty) (b : Bool) (v w : Value) → v.ty ≡ t → w.ty ≡ t → (if b then v else w).ty ≡ t
either_type t true v w e f = e
either_type t false v w e f = f

best_type : (t : Ty) (choose : Value → Value → Value) → ((v w : Value) → v.ty ≡ t → w.ty ≡ t → (choose v w).ty ≡ t) → (v : Value) (vs : List Value) → v.ty ≡ t → ((i : ℕ) → i < length vs → (value_at vs i).ty ≡ t) → (fold choose v vs).ty ≡ t
best_type t choose keeps v [] e all = e
best_type t choose keeps v (w ∷ vs) e all = best_type t choose keeps (choose v w) vs (keeps v w e (all 0 (omega arith))) (λ i low. all (suc i) (omega arith))

best_good : (t : Ty) (choose : Value → Value → Value) → ((v w : Value) → v.ty ≡ t → w.ty ≡ t → (choose v w).ty ≡ t) → (vs : List Value) → 0 < length vs → ((i : ℕ) → i < length vs → (value_at vs i).ty ≡ t) → Good t (Ok (best choose vs))
best_good t choose keeps [] some all = absurd (omega arith)
best_good t choose keeps (v ∷ vs) some all = good t (Ok (best choose (v ∷ vs))) (best_type t choose keeps v vs (all 0 (omega arith)) (λ i low. all (suc i) (omega arith)))

chosen_good : (t : Ty) (vs : List Value) (n : ℤ) → ((k : ℕ) → k + 1 < length vs → (value_at vs (k + 1)).ty ≡ t) → Good t (chosen vs n)
chosen_good t vs (negsuc k) all = good t (Err fault.Range) tt
chosen_good t vs (pos k) all = by_test (nat_lt (k + 1) (length vs)) (λ e. all k (ltb-true (k + 1) (length vs) e))
  where
    by_test : (b : Bool) → (b ≡ true → (value_at vs (k + 1)).ty ≡ t) → Good t (if b then Ok (value_at vs (k + 1)) else Err fault.Range)
    by_test true h = good t (Ok (value_at vs (k + 1))) (h refl)
    by_test false h = good t (Err fault.Range) tt

greater_type : (t : Ty) (v w : Value) → v.ty ≡ t → w.ty ≡ t → (greater v w).ty ≡ t
greater_type t v w e f = either_type t (int_lt v.n w.n) w v f e

lesser_type : (t : Ty) (v w : Value) → v.ty ≡ t → w.ty ≡ t → (lesser v w).ty ≡ t
lesser_type t v w e f = either_type t (int_lt w.n v.n) w v f e

given : (f : Func) (t : Ty) (vs : List Value) → can_apply f t (types vs) ≡ true → Good (out_type f t) (applied f t vs)
given func.Add t vs h = folded_good ◌+ℤ◌ t vs (λ low. grouped func.Add t vs h 0 low refl)
given func.Mul t vs h = folded_good ◌*ℤ◌ t vs (λ low. grouped func.Mul t vs h 0 low refl)
given func.Sub t vs h = checked_good t (number_at vs 0 -ℤ number_at vs 1)
given func.Div t vs h = quotient_good t (number_at vs 0) (number_at vs 1)
given func.Mod t vs h = good t (applied func.Mod t vs) refl
given func.Abs t vs h = checked_good t (pos (unsigned_abs (number_at vs 0)))
given func.Move t vs h = good t (applied func.Move t vs) (grouped func.Move t vs h 0 (least func.Move t vs h) refl)
given func.And t vs h = good t (applied func.And t vs) refl
given func.Or t vs h = good t (applied func.Or t vs) refl
given func.Xor t vs h = good t (applied func.Xor t vs) refl
given func.Not t vs h = good t (applied func.Not t vs) refl
given func.Shl t vs h = moved_good shifted_left t (number_at vs 0) (number_at vs 1)
given func.Shr t vs h = moved_good shifted_right t (number_at vs 0) (number_at vs 1)
given func.Rol t vs h = moved_good rotated_left t (number_at vs 0) (number_at vs 1)
given func.Ror t vs h = moved_good rotated_right t (number_at vs 0) (number_at vs 1)
given func.Sel t vs h =
    let three : 3 ≤ length vs = least func.Sel t vs h in
    good t (applied func.Sel t vs) (either_type t (is_zero (number_at vs 0)) (value_at vs 1) (value_at vs 2) (grouped func.Sel t vs h 1 (omega arith) refl) (grouped func.Sel t vs h 2 (omega arith) refl))
given func.Max t vs h =
    let two : 2 ≤ length vs = least func.Max t vs h in
    best_good t greater (greater_type t) vs (omega arith) (λ i low. grouped func.Max t vs h i low refl)
given func.Min t vs h =
    let two : 2 ≤ length vs = least func.Min t vs h in
    best_good t lesser (lesser_type t) vs (omega arith) (λ i low. grouped func.Min t vs h i low refl)
given func.Limit t vs h =
    let three : 3 ≤ length vs = least func.Limit t vs h in
    let one : (i : ℕ) → i < length vs → (value_at vs i).ty ≡ t = λ i low. grouped func.Limit t vs h i low refl in
    good t (applied func.Limit t vs)
    (lesser_type t (greater (value_at vs 1) (value_at vs 0)) (value_at vs 2) (greater_type t (value_at vs 1) (value_at vs 0) (one 1 (omega arith)) (one 0 (omega arith))) (one 2 (omega arith)))
given func.Mux t vs h = chosen_good t vs (number_at vs 0) (λ k low. grouped func.Mux t vs h (k + 1) low (ap (input_class func.Mux) (let e : k + 1 ≡ suc k = omega arith in e)))
given func.Gt t vs h = good ty.Bool (applied func.Gt t vs) refl
given func.Ge t vs h = good ty.Bool (applied func.Ge t vs) refl
given func.Eq t vs h = good ty.Bool (applied func.Eq t vs) refl
given func.Le t vs h = good ty.Bool (applied func.Le t vs) refl
given func.Lt t vs h = good ty.Bool (applied func.Lt t vs) refl
given func.Ne t vs h = good ty.Bool (applied func.Ne t vs) refl
given (func.Conv from to) t vs h = converted_good from to (number_at vs 0)

-- the types that a function takes tell what it gives
pub gives : (f : Func) (t : Ty) (us : List Ty) → can_apply f t us ≡ true → Gives f t us (out_type f t)
gives f t us h = record {
  fits = λ args e. fit f t args (ap (can_apply f t) e ∙ h);
  typed = λ args v e is. good_ok (given f t args (ap (can_apply f t) e ∙ h)) is;
}
  where
    good_ok : {r : Result Value Fault} {u : Ty} {v : Value} → Good u r → r ≡ Ok v → v.ty ≡ u
    good_ok {r} {u} {v} g e = subst (GoodAt u) e g.is

-- no function has more inputs
pub few_inputs : (f : Func) (t : Ty) (us : List Ty) → can_apply f t us ≡ true → length us ≤ most_inputs
few_inputs f t us h = few f (leb-true (length us) (pins.most_inputs f) (and_parts _ _ (and_parts _ _ h).0).1)
  where
    few : (g : Func) → length us ≤ pins.most_inputs g → length us ≤ most_inputs
    few func.Add low = omega arith
    few func.Mul low = omega arith
    few func.Sub low = omega arith
    few func.Div low = omega arith
    few func.Mod low = omega arith
    few func.Abs low = omega arith
    few func.Move low = omega arith
    few func.And low = omega arith
    few func.Or low = omega arith
    few func.Xor low = omega arith
    few func.Not low = omega arith
    few func.Shl low = omega arith
    few func.Shr low = omega arith
    few func.Rol low = omega arith
    few func.Ror low = omega arith
    few func.Sel low = omega arith
    few func.Max low = omega arith
    few func.Min low = omega arith
    few func.Limit low = omega arith
    few func.Mux low = omega arith
    few func.Gt low = omega arith
    few func.Ge low = omega arith
    few func.Eq low = omega arith
    few func.Le low = omega arith
    few func.Lt low = omega arith
    few func.Ne low = omega arith
    few (func.Conv from to) low = omega arith
