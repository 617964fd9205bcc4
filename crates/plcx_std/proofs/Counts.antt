-- CTU and CTD over their calls.
use Rattle.std.proofs.Common.{◌≡◌, ℕ, suc, min, Bool, true, false, List, [], ◌∷◌, refl, ap, ◌∙◌, arith, ℤ, pos, negsuc, ◌-ℤ◌}
use Rattle.std.specs.Prelude.{if◌then◌else◌, int_lt, int_le}
use Rattle.std.proofs.lemmas.Int.{ints}
use Rattle.plcx_types.specs.Range.{InRange}
use Rattle.plcx_types.specs.declared.ty.Ty.TheVariants.{Int}
use Rattle.plcx_std.specs.Step.{one_more, one_less, rises}
use Rattle.plcx_std.specs.History.{CounterCall, was, edges, loaded, ctu_counts, ctd_counts, PresetsFit}
use Rattle.plcx_std.specs.Calls.{after_ctu, after_ctd}

up_memory : (calls : List CounterCall) → (after_ctu calls).memory ≡ was (λ c. c.input) calls
up_memory [] = refl
up_memory (c ∷ earlier) = refl

down_memory : (calls : List CounterCall) → (after_ctd calls).memory ≡ was (λ c. c.input) calls
down_memory [] = refl
down_memory (c ∷ earlier) = refl

up_once : (n : ℕ) → one_more (pos (min n 32767)) ≡ pos (min (suc n) 32767)
up_once n = grind (arith, ints)

up_step : (over input memory : Bool) (n : ℕ) → (if over then pos 0 else if rises input memory then one_more (pos (min n 32767)) else pos (min n 32767)) ≡ pos (min (if over then 0 else if rises input memory then suc n else n) 32767)
up_step true input memory n = refl
up_step false true true n = refl
up_step false true false n = up_once n
up_step false false memory n = refl

pub ctu_law : (calls : List CounterCall) → (after_ctu calls).count ≡ ctu_counts calls
ctu_law [] = refl
ctu_law (c ∷ earlier) =
    ap (λ m. if c.over then pos 0 else if rises c.input m then one_more (after_ctu earlier).count else (after_ctu earlier).count) (up_memory earlier)
    ∙ ap (λ k. if c.over then pos 0 else if rises c.input (was (λ d. d.input) earlier) then one_more k else k) (ctu_law earlier)
    ∙ up_step c.over c.input (was (λ d. d.input) earlier) (edges earlier)

pub ctu_output_law : (c : CounterCall) (earlier : List CounterCall) → (after_ctu (c ∷ earlier)).output ≡ int_le c.preset (ctu_counts (c ∷ earlier))
ctu_output_law c earlier = ap (λ k. int_le c.preset k) (ctu_law (c ∷ earlier))

abbrev floor : ℤ → ℤ
floor z = if int_lt (negsuc 32767) z then z else negsuc 32767

down_once : (z : ℤ) (n : ℕ) → one_less (floor (z -ℤ pos n)) ≡ floor (z -ℤ pos (suc n))
down_once z n = grind (arith, ints)

loaded_once : (z : ℤ) → InRange Int z → z ≡ floor (z -ℤ pos 0)
loaded_once z (low, high) = grind (arith, ints)

down_step : (over input memory : Bool) (p z : ℤ) (n : ℕ) → InRange Int p → (if over then p else if rises input memory then one_less (floor (z -ℤ pos n)) else floor (z -ℤ pos n)) ≡ floor ((if over then p else z) -ℤ pos (if over then 0 else if rises input memory then suc n else n))
down_step true input memory p z n fits = loaded_once p fits
down_step false true true p z n fits = refl
down_step false true false p z n fits = down_once z n
down_step false false memory p z n fits = refl

pub ctd_law : (calls : List CounterCall) → PresetsFit calls → (after_ctd calls).count ≡ ctd_counts calls
ctd_law [] fit = refl
ctd_law (c ∷ earlier) fit =
    ap (λ m. if c.over then c.preset else if rises c.input m then one_less (after_ctd earlier).count else (after_ctd earlier).count) (down_memory earlier)
    ∙ ap (λ k. if c.over then c.preset else if rises c.input (was (λ d. d.input) earlier) then one_less k else k) (ctd_law earlier fit.1)
    ∙ down_step c.over c.input (was (λ d. d.input) earlier) c.preset (loaded earlier) (edges earlier) fit.0

pub ctd_output_law : (c : CounterCall) (earlier : List CounterCall) → PresetsFit (c ∷ earlier) → (after_ctd (c ∷ earlier)).output ≡ int_le (ctd_counts (c ∷ earlier)) (pos 0)
ctd_output_law c earlier fit = ap (λ k. int_le k (pos 0)) (ctd_law (c ∷ earlier) fit)
