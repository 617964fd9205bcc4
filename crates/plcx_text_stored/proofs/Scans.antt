-- A scan that is alike the text's, as a scan of a side.
use Rattle.std.proofs.Common.{◌≡◌, ◌∙◌, ℕ, false, List, refl, sym, ap, subst, if◌then◌else◌}
use Rattle.std.specs.declared.result.Result.{Result}
use Rattle.std.specs.declared.result.Result.TheVariants.{Ok, Err}
use Rattle.std.proofs.Props.{props}
use Rattle.plcx_meaning.specs.Base.{Outcome, Ended, Stopped, Stuck}
use Rattle.plcx_meaning.specs.Execute.{TextState, text_machine}
use Rattle.plcx_meaning.specs.Run.{Input, Scan, Halted, TheStop, told_of, Side, side_after, after}
use Rattle.plcx_meaning.specs.Tree.{PouText}
use Rattle.plcx_steps.specs.declared.state.State.{State}
use Rattle.plcx_steps.specs.declared.state.Stop.{Stop}
use Rattle.plcx_stored.specs.Between.{told_by, is_stopped}
use Rattle.plcx_stored.proofs.Propositions.{told_set}
use Rattle.plcx_text_steps.specs.Running.{numbers, outcome}
use Rattle.plcx_text_numbered.specs.Agreeing.{Agree, AlikeAt, Alike, Nothing}
use Rattle.plcx_text_numbered.specs.Numbers.{plan_of}
use Rattle.plcx_text_stored.specs.Between.{AgreesWith, IsScanOf}
use Rattle.plcx_text_stored.proofs.Propositions.{agrees_prop}

module _ (unit : List PouText) (p : PouText) where
  -- a scan begins with what agrees
  pub scan_begins : (g : TextState) (old : State) → AgreesWith unit p g old.store → Agree (plan_of unit p).plan.paths (record g { left = old.left }) (numbers old)
  scan_begins g old a = record { store = a.store; left = refl }

  module _ (turns time : ℕ) (inputs : List Input) (new : State) where
    abbrev IsOf : TextState → Result (Unit {0}) Stop → Outcome TextState (Unit {0}) → Type 0
    IsOf g result x = (told_of x ≡ told_by result) × AgreesWith unit p (side_after time g x).state new.store × ((side_after time g x).halted ≡ is_stopped result)

    ends : (g : TextState) (result : Result (Unit {0}) Stop) (x : Outcome TextState (Unit {0})) → AlikeAt (plan_of unit p).plan.paths Nothing x (outcome result (tt {0}) (numbers new)) → IsOf g result x
    ends g (Ok u) (Ended h v) a = (refl, record { store = a.0.store }, refl)
    ends g (Ok u) (Stopped s h) a = absurd a
    ends g (Ok u) Stuck a = absurd a
    ends g (Err stop) (Ended h v) a = absurd a
    ends g (Err stop) (Stopped s h) a = (ap TheStop a.0, record { store = a.1.store }, refl)
    ends g (Err stop) Stuck a = absurd a

    pub scan_is : (g : Side TextState) → g.halted ≡ false → (result : Result (Unit {0}) Stop)
        → Alike (plan_of unit p).plan.paths Nothing ((text_machine unit p).scan turns time inputs g.state) (outcome result (tt {0}) (numbers new)) → IsScanOf unit p turns (Scan time inputs) g result new.store
    scan_is g awake result alike =
        let m = text_machine unit p in
        let is = ends g.state result (m.scan turns time inputs g.state) alike.is in
        let goes : after m turns (Scan time inputs) g ≡ side_after time g.state (m.scan turns time inputs g.state) = ap (λ b. if b then record g { last = time } else side_after time g.state (m.scan turns time inputs g.state)) awake in
        record {
          told = ap (λ b. if b then Halted else told_of (m.scan turns time inputs g.state)) awake ∙ is.0;
          agrees = subst (λ (h : Side TextState). AgreesWith unit p h.state new.store) (sym goes) is.1;
          halted = ap (λ (h : Side TextState). h.halted) goes ∙ is.2;
        }

    pub scan_prop : (g : Side TextState) (result : Result (Unit {0}) Stop) → IsProp (IsScanOf unit p turns (Scan time inputs) g result new.store)
    scan_prop g result = hlevel (told_set, agrees_prop, props)
