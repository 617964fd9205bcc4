-- A run from its parts.
use Rattle.std.proofs.Common.{◌≡◌, ◌∷◌, ℕ, List, [], Ok, Err, map, arith}
use Rattle.std.specs.Prelude.{Result, IfOk}
use Rattle.plcx_types.specs.Lists.{Each}
use Rattle.plcx_state.specs.Layouts.{Laid}
use Rattle.plcx_tasks.specs.declared.ticking.TaskEvent.{TaskEvent}
use Rattle.plcx_tasks.specs.Tasks.{AreTicks}
use Rattle.plcx_tasks.specs.Runs.{NoneIsAfter, CanRun}

-- what holds of a value for three reasons
pub three_ok : {A E : Type 0} (res : Result A E) (P Q R S : A → Type 0) → ((x : A) → P x → Q x → R x → S x) → IfOk res P → IfOk res Q → IfOk res R → IfOk res S
three_ok (Ok x) P Q R S f p q r = f x p q r
three_ok (Err e) P Q R S f p q r = p

module _ {S : Type 0} (laid : S → Laid) (last : S → ℕ) where
  none_after : (sides : List S) → Each (λ (s : S). last s ≡ 0) sides → NoneIsAfter laid last 0 sides
  none_after [] h = tt
  none_after (s ∷ sides) h = (let z = h.0 in omega arith, none_after sides h.1)

  -- before the first event of sides, ticks from 0 on can come
  pub can_run : (sides : List S) (events : List TaskEvent) → Each (λ (s : S). last s ≡ 0) sides → AreTicks (map laid sides) 0 events → CanRun laid last sides events
  can_run sides events fresh ticks = record { from = 0; none_after = none_after sides fresh; ticks = ticks }
