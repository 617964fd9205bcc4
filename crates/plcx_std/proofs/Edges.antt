-- R_TRIG and F_TRIG over their calls.
use Rattle.std.proofs.Common.{◌≡◌, Bool, not, ◌&&◌, List, [], ◌∷◌, refl, ap}
use Rattle.plcx_std.specs.History.{was, r_trig_shows, f_trig_shows}
use Rattle.plcx_std.specs.Calls.{after_r_trig, after_f_trig}

rising_memory : (clocks : List Bool) → (after_r_trig clocks).memory ≡ was (λ clock. clock) clocks
rising_memory [] = refl
rising_memory (clock ∷ earlier) = refl

falling_memory : (clocks : List Bool) → (after_f_trig clocks).memory ≡ was (λ clock. not clock) clocks
falling_memory [] = refl
falling_memory (clock ∷ earlier) = refl

pub r_trig_law : (clocks : List Bool) → (after_r_trig clocks).output ≡ r_trig_shows clocks
r_trig_law [] = refl
r_trig_law (clock ∷ earlier) = ap (λ m. clock && not m) (rising_memory earlier)

pub f_trig_law : (clocks : List Bool) → (after_f_trig clocks).output ≡ f_trig_shows clocks
f_trig_law [] = refl
f_trig_law (clock ∷ earlier) = ap (λ m. not clock && not m) (falling_memory earlier)
