-- A scan that is alike the diagram's, as a scan of a side.
use Rattle.std.proofs.Common.{◌≡◌, ◌∙◌, ℕ, false, List, [], refl, sym, ap, subst, if◌then◌else◌}
use Rattle.std.specs.List.{fold}
use Rattle.std.specs.declared.result.Result.{Result}
use Rattle.std.specs.declared.result.Result.TheVariants.{Ok, Err}
use Rattle.plcx_meaning.specs.Base.{Outcome, Ended, Stopped, Stuck}
use Rattle.plcx_meaning.specs.Diagram.{Pou, Project}
use Rattle.plcx_meaning.specs.Evaluate.{Heard, DiagramState, scan_does, unheard, diagram_machine}
use Rattle.plcx_meaning.specs.Run.{Input, Scan, Halted, TheStop, told_of, Side, side_after, after}
use Rattle.plcx_meaning.specs.Watch.{heard_of}
use Rattle.plcx_steps.specs.declared.state.State.{State}
use Rattle.plcx_steps.specs.declared.state.Stop.{Stop}
use Rattle.plcx_steps.specs.Running.{numbered, outcome, nothing}
use Rattle.plcx_numbered.specs.Agreeing.{Agree, AlikeAt, Alike, Nothing}
use Rattle.plcx_numbered.specs.Numbers.{shape_of}
use Rattle.plcx_stored.specs.Between.{AgreesWith, told_by, is_stopped, IsScanOf}
use Rattle.plcx_stored.proofs.Propositions.{told_set, agrees_prop}
use Rattle.std.proofs.Props.{props}

module _ {M : Type 0} (project : Project) (p : Pou) (tell : M → Heard → M) (before : M) where
  -- a scan begins with what agrees, and nothing is heard
  pub scan_begins : (d : DiagramState) (old : State) → AgreesWith project p d old.store → Agree (shape_of project p) tell before (record d { left = old.left; heard = [] }) (numbered old before)
  scan_begins d old a = record { store = a.store; memories = a.memories; left = refl; heard = refl }

  module _ (turns time : ℕ) (inputs : List Input) (new : State) (behind : M) where
    abbrev IsOf : DiagramState → Result (Unit {0}) Stop → Outcome DiagramState (Unit {0}) → Type 0
    IsOf d result x =
        (told_of (unheard x) ≡ told_by result)
        × AgreesWith project p (side_after time d (unheard x)).state new.store
        × ((side_after time d (unheard x)).halted ≡ is_stopped result)
        × (behind ≡ fold tell before (heard_of x))

    ends : (d : DiagramState) (result : Result (Unit {0}) Stop) (x : Outcome DiagramState (Unit {0})) → AlikeAt (shape_of project p) tell before Nothing x (outcome result nothing (numbered new behind)) → IsOf d result x
    ends d (Ok u) (Ended e v) a = (refl, record { store = a.0.store; memories = a.0.memories }, refl, a.0.heard)
    ends d (Ok u) (Stopped s e) a = absurd a
    ends d (Ok u) Stuck a = absurd a
    ends d (Err stop) (Ended e v) a = absurd a
    ends d (Err stop) (Stopped s e) a = (ap TheStop a.0, record { store = a.1.store; memories = a.1.memories }, refl, a.1.heard)
    ends d (Err stop) Stuck a = absurd a

    pub scan_is : (g : Side DiagramState) → g.halted ≡ false → (result : Result (Unit {0}) Stop)
        → Alike (shape_of project p) tell before Nothing (scan_does project p turns time inputs g.state) (outcome result nothing (numbered new behind)) → IsScanOf project p turns (Scan time inputs) g tell result new.store before behind
    scan_is g awake result alike =
        let m = diagram_machine project p in
        let is = ends g.state result (scan_does project p turns time inputs g.state) alike.is in
        let goes : after m turns (Scan time inputs) g ≡ side_after time g.state (m.scan turns time inputs g.state) = ap (λ b. if b then record g { last = time } else side_after time g.state (m.scan turns time inputs g.state)) awake in
        record {
          told = ap (λ b. if b then Halted else told_of (m.scan turns time inputs g.state)) awake ∙ is.0;
          agrees = subst (λ (h : Side DiagramState). AgreesWith project p h.state new.store) (sym goes) is.1;
          halted = ap (λ (h : Side DiagramState). h.halted) goes ∙ is.2;
          heard = is.3 ∙ ap (λ b. fold tell before (if b then [] else heard_of (scan_does project p turns time inputs g.state))) (sym awake);
        }

    pub scan_prop : ((x y : M) → IsProp (x ≡ y)) → (g : Side DiagramState) (result : Result (Unit {0}) Stop) → IsProp (IsScanOf project p turns (Scan time inputs) g tell result new.store before behind)
    scan_prop watch g result = hlevel (watch, told_set, agrees_prop, props)
