-- What the laws say, each of its subject.
use Rattle.std.specs.Prelude.{◌≡◌, ◌<◌, ◌^◌, ℕ, pos, false, List, [], Option, Some, length, map, slice_get}
use Rattle.std.specs.declared.result.Result.{Result}
use Rattle.plcx_types.specs.Lists.{Each}
use Rattle.plcx_types.specs.Value.{Value}
use Rattle.plcx_meaning.specs.Tree as tree
use Rattle.plcx_meaning.specs.Tree.{PouText}
use Rattle.plcx_meaning.specs.Execute.{TextState, text_machine}
use Rattle.plcx_meaning.specs.Layout.{variables_of, Restart}
use Rattle.plcx_meaning.specs.Ready.{IsReady}
use Rattle.plcx_meaning.specs.Run.{Scan, Side, put_inputs}
use Rattle.plcx_meaning.specs.Run as meant
use Rattle.plcx_state.specs.Layouts.{Laid, IsLaid}
use Rattle.plcx_state.specs.Retains.{numbers, kept_at, Agrees, IsRetainedOf}
use Rattle.plcx_state.specs.Stores.{Stored, IsStored, IsStoreOf, opened, is_warm, restarted}
use Rattle.plcx_scan.specs.declared.event.Input.{Input}
use Rattle.plcx_scan.specs.Events.{IsInput, meant_input}
use Rattle.plcx_steps.specs.declared.program.Program.{Program}
use Rattle.plcx_steps.specs.declared.state.State.{State}
use Rattle.plcx_steps.specs.declared.state.Stop.{Stop}
use Rattle.plcx_numbered.specs.Numbers.{Place}
use Rattle.plcx_stored.specs.Between.{with_inputs}
use Rattle.plcx_text_steps.specs.declared.text.Text.{Text}
use Rattle.plcx_text_steps.specs.Numbered.{text_does}
use Rattle.plcx_text_steps.specs.Running as running
use Rattle.plcx_text_numbered.specs.Numbers.{places_of}
use Rattle.plcx_text_numbered.specs.Texts.{IsTextOf}
use Rattle.plcx_text_stored.specs.LaidFor.{IsLaidFor}
use Rattle.plcx_text_stored.specs.Between.{AgreesWith, IsScanOf}

-- a store that is opened agrees with the text as it begins
abbrev pub StoreOpens : Type 0
StoreOpens =
    (unit : List PouText) (p : PouText) (l : Laid) → IsLaidFor unit p l → IsLaid l
    → (kept : List (Option Value)) → IsRetainedOf l.leaves kept
    → AgreesWith unit p ((text_machine unit p).begin (kept_at l.leaves kept)) (opened l kept)

-- what agrees does so when inputs are written
abbrev pub InputsAreStored : Type 0
InputsAreStored =
    (unit : List PouText) (p : PouText) (l : Laid) → IsLaidFor unit p l → IsLaid l
    → (inputs : List Input) → Each (IsInput l.leaves) inputs
    → (g : TextState) (s : Stored) → AgreesWith unit p g s
    → AgreesWith unit p (record g { store = put_inputs (map (meant_input l.leaves) inputs) g.store }) (record s { values = with_inputs inputs s.values })

-- what agrees does so after a restart
abbrev pub StoreRestarts : Type 0
StoreRestarts =
    (unit : List PouText) (p : PouText) (l : Laid) → IsLaidFor unit p l
    → (r : Restart) (g : TextState) (s : Stored) → IsStored s → IsStoreOf l s → AgreesWith unit p g s
    → AgreesWith unit p ((text_machine unit p).restart r g) (restarted (is_warm r) s)

-- a store that agrees has what the text shows
abbrev pub StoreShows : Type 0
StoreShows =
    (unit : List PouText) (p : PouText) (l : Laid) → IsLaidFor unit p l
    → (g : TextState) (s : Stored) → IsStored s → IsStoreOf l s → AgreesWith unit p g s
    → Agrees l.leaves ((text_machine unit p).value g) (numbers s.values)

-- From a store that agrees with a text whose inputs are written, a scan of what is prepared is a scan of the text, whose budget are the turns that are left.
abbrev pub ScansAreStored : Type 0
ScansAreStored =
    (unit : List PouText) (program : Program) (text : Text) → IsReady unit → ∥ IsTextOf unit program text ∥₁
    → (k : ℕ) (p : PouText) → slice_get unit k ≡ Some p → p.kind ≡ tree.Program
    → (time : ℕ) (inputs : List meant.Input) (g : Side TextState) → g.halted ≡ false
    → (old new : State) → AgreesWith unit p (record g.state { store = put_inputs inputs g.state.store }) old.store
    → (result : Result (Unit {0}) Stop)
    → running.outcome result tt (running.numbers new) ≡ text_does program text (pos time) k (running.numbers old)
    → IsScanOf unit p old.left (Scan time inputs) g result new.store

-- The values of a store have the types of the program's leaves, as many as its layout has, which are fewer than 2^32; and there are no memories.
abbrev pub StoreIsTyped : Type 0
StoreIsTyped =
    (unit : List PouText) (p : PouText) (l : Laid) → IsLaidFor unit p l → IsLaid l → (s : Stored) → IsStored s → IsStoreOf l s
    → (map (λ (v : Value). v.ty) s.values ≡ map (λ (x : Place). x.1) (places_of unit (variables_of p.blocks)))
    × (s.memories ≡ []) × (length l.leaves ≡ length s.values) × (length s.values < 2 ^ 32)

-- a layout is laid for a program, and a store agrees, in one way alone
abbrev pub OneAgreement : Type 0
OneAgreement =
    ((unit : List PouText) (p : PouText) (l : Laid) → IsProp (IsLaidFor unit p l))
    × ((unit : List PouText) (p : PouText) (g : TextState) (s : Stored) → IsProp (AgreesWith unit p g s))
