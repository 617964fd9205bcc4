-- A store between two scans: its values are the state of the text.
use Rattle.std.specs.Prelude.{◌≡◌, ℕ, List}
use Rattle.std.specs.declared.result.Result.{Result}
use Rattle.plcx_meaning.specs.Tree.{PouText}
use Rattle.plcx_meaning.specs.Execute.{TextState, text_machine}
use Rattle.plcx_meaning.specs.Run.{Event, Side, tells, after}
use Rattle.plcx_state.specs.Stores.{Stored}
use Rattle.plcx_steps.specs.declared.state.Stop.{Stop}
use Rattle.plcx_numbered.specs.Agreeing.{Holds, plain_path}
use Rattle.plcx_stored.specs.Between.{told_by, is_stopped}
use Rattle.plcx_text_numbered.specs.Numbers.{plan_of}

-- a store has the value of each leaf of the program that the text has
pub record AgreesWith (unit : List PouText) (p : PouText) (g : TextState) (s : Stored) : Type 0 where
  pub store : Holds plain_path (plan_of unit p).plan.paths g.store s.values

-- A scan over a store is that of a side of the text: it is told alike, and behind it the side is halted or not, and the store agrees with the side's state.
pub record IsScanOf (unit : List PouText) (p : PouText) (turns : ℕ) (e : Event) (g : Side TextState) (result : Result (Unit {0}) Stop) (new : Stored) : Type 0 where
  pub told : tells (text_machine unit p) turns e g ≡ told_by result
  pub agrees : AgreesWith unit p (after (text_machine unit p) turns e g).state new
  pub halted : (after (text_machine unit p) turns e g).halted ≡ is_stopped result
