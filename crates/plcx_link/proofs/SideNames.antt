-- The rule on formal parameters, side by side.
use Rattle.std.proofs.Common.{◌≡◌, ℕ, zero, suc, ◌+◌, ◌||◌, Bool, true, false, not, List, [], ◌∷◌, map, drop, Option, Some, None, Bor, is_none, slice_get, refl, sym, ap, ◌∙◌, arith}
use Rattle.std.specs.List.{list_any}
use Rattle.plcx_model.specs.declared.body.PinIn.{PinIn}
use Rattle.plcx_model.specs.declared.body.PinOut.{PinOut}
use Rattle.plcx_model.specs.declared.project.ListClass.TheVariants.{InOut}
use Rattle.plcx_model.specs.declared.project.Pou.{Pou}
use Rattle.plcx_rules.specs.declared.callee.Callee.{Callee}
use Rattle.plcx_rules.specs.Texts.{same_name}
use Rattle.plcx_rules.specs.Callees.{BlockPin, Formal, fixed, block_pins, pins_where, present, input_count, input_formal, is_function, formal_named}
use Rattle.plcx_rules.specs.LinkRules.{names_of, has_double, count_suits, is_listed, inputs_fail, in_outs_fail, outputs_fail}
use Rattle.plcx_names.specs.declared.pins.OwnPin.{OwnPin}
use Rattle.plcx_names.specs.Seen.{shown_pin}
use Rattle.plcx_link.specs.declared.formals.Side.TheVariants.{Inputs, InOuts, Outputs}
use Rattle.plcx_link.specs.Sides.{formals_on, side_fails, missing, block_missing, twice_at}
use Rattle.plcx_link.specs.Outputs.{is_only, output_name_by}
use Rattle.plcx_link.proofs.PinLists.{any_map}

or_three : (a b c : Bool) → (a || (b || c)) ≡ ((a || b) || c)
or_three true b c = refl
or_three false b c = refl

pub inputs_are : (pous : List Pou) (c : Callee) (inputs : List PinIn) → inputs_fail pous c inputs ≡ (not (count_suits c (input_count inputs)) || side_fails pous c (Inputs (input_count inputs)) (names_of (present inputs)))
unfolding inputs_fail
inputs_are pous c inputs =
    sym (or_three (not (count_suits c (input_count inputs))) (list_any (λ (p : PinIn). is_none (input_formal pous c inputs p)) (present inputs)) (has_double (names_of (present inputs))))
    ∙ ap (λ b. not (count_suits c (input_count inputs)) || (b || has_double (names_of (present inputs))))
    (sym (any_map (λ (n : List ℕ). is_none (formal_named n (formals_on pous c (Inputs (input_count inputs))))) (λ (p : PinIn). p.formal) (present inputs)))

pub in_outs_are : (pous : List Pou) (c : Callee) (in_outs : List PinIn) → in_outs_fail pous c in_outs ≡ (side_fails pous c InOuts (names_of in_outs) || missing pous c in_outs)
unfolding in_outs_fail
in_outs_are pous c in_outs =
    ap (λ b. (b || has_double (names_of in_outs)) || missing pous c in_outs)
    (sym (any_map (λ (n : List ℕ). is_none (formal_named n (formals_on pous c InOuts))) (λ (p : PinIn). p.formal) in_outs))

pub outputs_are : (pous : List Pou) (c : Callee) (outputs : List PinOut) → outputs_fail pous c outputs ≡ side_fails pous c Outputs (map (output_name_by (is_function c) (is_only outputs)) outputs)
unfolding outputs_fail
outputs_are pous c outputs =
    ap (λ b. b || has_double (map (output_name_by (is_function c) (is_only outputs)) outputs))
    (sym (any_map (λ (n : List ℕ). is_none (formal_named n (formals_on pous c Outputs))) (output_name_by (is_function c) (is_only outputs)) outputs))

-- an in-out isn't listed, by the pins that the code keeps
pub missing_is : (pous : List Pou) (place : ℕ) (in_outs : List PinIn) (p : Pou) (own : List OwnPin) → Some p ≡ slice_get pous place → map shown_pin own ≡ block_pins InOut p
    → list_any (λ (q : OwnPin). not (list_any (λ (r : PinIn). same_name (shown_pin q).name r.formal) in_outs)) own ≡ block_missing pous place in_outs
missing_is pous place in_outs p own there pins =
    sym (any_map (λ (f : Formal). not (is_listed in_outs f)) fixed (map shown_pin own) ∙ any_map (λ (b : BlockPin). not (is_listed in_outs (fixed b))) shown_pin own)
    ∙ (ap (λ (ps : List BlockPin). list_any (λ (f : Formal). not (is_listed in_outs f)) (map fixed ps)) pins
    ∙ ap (λ (o : Option Pou). list_any (λ (f : Formal). not (is_listed in_outs f)) (map fixed (pins_where InOut o))) there)

pub none_missing : (pous : List Pou) (place : ℕ) (in_outs : List PinIn) → None ≡ slice_get pous place → false ≡ block_missing pous place in_outs
none_missing pous place in_outs none = ap (λ (o : Option Pou). list_any (λ (f : Formal). not (is_listed in_outs f)) (map fixed (pins_where InOut o))) none

-- ---- doubled names

pub no_more : {X : Type 0} (i : ℕ) → drop i (let xs : List X = [] in xs) ≡ []
no_more zero = refl
no_more (suc i) = refl

-- a name more that may stand twice
pub one_more : (names : List (Bor (List ℕ))) (i : ℕ) → has_double (map (λ (n : Bor (List ℕ)). n.now) (drop i names)) ≡ (twice_at (drop i names) || has_double (map (λ (n : Bor (List ℕ)). n.now) (drop (i + 1) names)))
one_more [] i = rw (no_more i, no_more (i + 1)) refl
one_more (x ∷ xs) zero = ap (λ b. b || has_double (map (λ (n : Bor (List ℕ)). n.now) xs)) (any_map (same_name x.now) (λ (n : Bor (List ℕ)). n.now) xs)
one_more (x ∷ xs) (suc i) = let e : suc i + 1 ≡ suc (i + 1) = omega arith in rw e (one_more xs i)

pub dropped : {X : Type 0} (xs : List X) (i : ℕ) (x : X) → slice_get xs i ≡ Some x → drop i xs ≡ x ∷ drop (i + 1) xs
dropped [] i x h = cc
dropped (y ∷ ys) zero x h = let same : y ≡ x = cc in rw same refl
dropped (y ∷ ys) (suc i) x h = let e : suc i + 1 ≡ suc (i + 1) = omega arith in rw e (dropped ys i x h)

pub past_all : {X : Type 0} (xs : List X) (i : ℕ) → slice_get xs i ≡ None → drop i xs ≡ []
past_all [] i h = no_more i
past_all (y ∷ ys) zero h = cc
past_all (y ∷ ys) (suc i) h = past_all ys i h
