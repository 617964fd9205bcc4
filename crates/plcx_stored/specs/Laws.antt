-- What the laws say, each of its subject.
use Rattle.std.specs.Prelude.{◌≡◌, ◌<◌, ◌^◌, ℕ, pos, false, List, [], Option, Some, length, map, slice_get}
use Rattle.std.specs.declared.result.Result.{Result}
use Rattle.plcx_types.specs.Lists.{Each}
use Rattle.plcx_types.specs.Value.{Value}
use Rattle.plcx_meaning.specs.Tree as tree
use Rattle.plcx_meaning.specs.Diagram.{Pou, Project}
use Rattle.plcx_meaning.specs.Evaluate.{Heard, DiagramState, diagram_machine}
use Rattle.plcx_meaning.specs.Fits.{ProjectFits}
use Rattle.plcx_meaning.specs.Layout.{variables_of, Restart}
use Rattle.plcx_meaning.specs.Run.{Scan, Side, put_inputs}
use Rattle.plcx_meaning.specs.Run as meant
use Rattle.plcx_state.specs.Layouts.{Laid, IsLaid}
use Rattle.plcx_state.specs.Retains.{numbers, kept_at, Agrees, IsRetainedOf}
use Rattle.plcx_state.specs.Stores.{Stored, IsStored, IsStoreOf, HasValue, opened, is_warm, restarted}
use Rattle.plcx_scan.specs.declared.event.Input.{Input}
use Rattle.plcx_scan.specs.Events.{IsInput, meant_input}
use Rattle.plcx_steps.specs.declared.program.Program.{Program}
use Rattle.plcx_steps.specs.declared.state.State.{State}
use Rattle.plcx_steps.specs.declared.state.Stop.{Stop}
use Rattle.plcx_steps.specs.Numbered.{bodies_do}
use Rattle.plcx_steps.specs.Running.{numbered, outcome, nothing}
use Rattle.plcx_steps.specs.Sound.{levels, origin}
use Rattle.plcx_numbered.specs.Numbers.{Place, places_of, depth, cell_types}
use Rattle.plcx_numbered.specs.Programs.{IsProgramOf}
use Rattle.plcx_stored.specs.LaidFor.{IsLaidFor}
use Rattle.plcx_stored.specs.Between.{AgreesWith, with_inputs, IsScanOf}

-- a store that is opened agrees with the diagram as it begins
abbrev pub StoreOpens : Type 0
StoreOpens =
    (project : Project) (p : Pou) (l : Laid) → IsLaidFor project p l → IsLaid l
    → (kept : List (Option Value)) → IsRetainedOf l.leaves kept
    → AgreesWith project p ((diagram_machine project p).begin (kept_at l.leaves kept)) (opened l kept)

-- an input has a leaf of its type in a store
abbrev pub InputFits : Type 0
InputFits = (l : Laid) (s : Stored) → IsLaid l → IsStored s → IsStoreOf l s → (input : Input) → IsInput l.leaves input → HasValue s.values input.leaf input.value.ty

-- what agrees does so when inputs are written
abbrev pub InputsAreStored : Type 0
InputsAreStored =
    (project : Project) (p : Pou) (l : Laid) → IsLaidFor project p l → IsLaid l
    → (inputs : List Input) → Each (IsInput l.leaves) inputs
    → (d : DiagramState) (s : Stored) → AgreesWith project p d s
    → AgreesWith project p (record d { store = put_inputs (map (meant_input l.leaves) inputs) d.store }) (record s { values = with_inputs inputs s.values })

-- what agrees does so after a restart
abbrev pub StoreRestarts : Type 0
StoreRestarts =
    (project : Project) (p : Pou) (l : Laid) → IsLaidFor project p l
    → (r : Restart) (d : DiagramState) (s : Stored) → IsStored s → IsStoreOf l s → AgreesWith project p d s
    → AgreesWith project p ((diagram_machine project p).restart r d) (restarted (is_warm r) s)

-- a store that agrees has what the diagram shows
abbrev pub StoreShows : Type 0
StoreShows =
    (project : Project) (p : Pou) (l : Laid) → IsLaidFor project p l
    → (d : DiagramState) (s : Stored) → IsStored s → IsStoreOf l s → AgreesWith project p d s
    → Agrees l.leaves ((diagram_machine project p).value d) (numbers s.values)

-- From a store that agrees with a diagram whose inputs are written, a scan of what is prepared is a scan of the diagram, whose budget are the turns that
-- are left.
abbrev pub ScansAreStored : {M : Type 0} → (M → Heard → M) → Type 0
ScansAreStored {M} tell =
    (project : Project) (program : Program) → ∥ ProjectFits project ∥₁ → ∥ IsProgramOf project program ∥₁
    → (k : ℕ) (p : Pou) → slice_get project k ≡ Some p → p.kind ≡ tree.Program
    → (time : ℕ) (inputs : List meant.Input) (g : Side DiagramState) → g.halted ≡ false
    → (old new : State) → AgreesWith project p (record g.state { store = put_inputs inputs g.state.store }) old.store
    → (result : Result (Unit {0}) Stop) (before behind : M)
    → outcome result nothing (numbered new behind) ≡ bodies_do levels tell program (pos time) k origin [] (numbered old before)
    → IsScanOf project p old.left (Scan time inputs) g tell result new.store before behind

-- The values and memories of a store have the types of the program's leaves and memories, as many as its layout has, which are fewer than 2^32.
abbrev pub StoreIsTyped : Type 0
StoreIsTyped =
    (project : Project) (p : Pou) (l : Laid) → IsLaidFor project p l → IsLaid l → (s : Stored) → IsStored s → IsStoreOf l s
    → (map (λ (v : Value). v.ty) s.values ≡ map (λ (x : Place). x.1) (places_of project (variables_of p.lists)))
    × (map (λ (v : Value). v.ty) s.memories ≡ cell_types depth project p)
    × (length l.leaves ≡ length s.values) × (length l.memories ≡ length s.memories)
    × (length s.values < 2 ^ 32) × (length s.memories < 2 ^ 32)

-- a layout is laid for a program, and a store agrees, in one way alone
abbrev pub OneAgreement : Type 0
OneAgreement = ((project : Project) (p : Pou) (l : Laid) → IsProp (IsLaidFor project p l)) × ((project : Project) (p : Pou) (d : DiagramState) (s : Stored) → IsProp (AgreesWith project p d s))
