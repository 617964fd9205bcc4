-- A scan of a side is one of the text.
use Rattle.std.proofs.Common.{◌≡◌, ℕ, ℤ, pos, ◌<◌, ◌≤◌, true, false, List, [], Some, map, length, slice_get, refl, sym, ap, ◌∙◌, subst, arith}
use Rattle.std.specs.declared.result.Result.{Result}
use Rattle.std.proofs.lemmas.Option.{slice_get-get_or}
use Rattle.plcx_types.specs.Lists.{Each}
use Rattle.plcx_types.specs.Value.{Value}
use Rattle.plcx_meaning.specs.Execute.{TextState}
use Rattle.plcx_meaning.specs.Ready.{IsReady}
use Rattle.plcx_meaning.specs.Run.{Scan, put_inputs}
use Rattle.plcx_meaning.specs.Run.{Side as Meant}
use Rattle.plcx_meaning.specs.Tree.{PouKind, Program, FunctionBlock, is_program}
use Rattle.plcx_state.specs.Layouts.{IsLaid}
use Rattle.plcx_state.specs.Stores.{Stored, IsStored, IsStoreOf}
use Rattle.plcx_scan.specs.declared.event.Input.{Input}
use Rattle.plcx_scan.specs.Events.{IsInput, meant_input}
use Rattle.plcx_steps.specs.declared.state.State.{State}
use Rattle.plcx_steps.specs.declared.state.Stop.{Stop}
use Rattle.plcx_steps.specs.Sound.{origin}
use Rattle.plcx_stored.specs.Between.{with_inputs}
use Rattle.plcx_frames.proofs.Scanning.{there_is}
use Rattle.plcx_text_steps.specs.Numbered.{text_does}
use Rattle.plcx_text_steps.specs.Running.{numbers, outcome, StandsTyped}
use Rattle.plcx_text_steps.specs.Sound.{Stands}
use Rattle.plcx_text_runnable.specs.Laws.{BodiesThere, ProgramsStand}
use Rattle.plcx_text_stored.specs.Between.{AgreesWith, IsScanOf}
use Rattle.plcx_text_stored.specs.Laws.{OneAgreement, InputsAreStored, ScansAreStored, StoreIsTyped}
use Rattle.plcx_run.specs.declared.side.TextSide.{TextSide}
use Rattle.plcx_run.specs.Standing.{no_pou}
use Rattle.plcx_run.specs.Sides.{unit, program, StandsFor}
use Rattle.plcx_run.proofs.Sided.{laid_for}

-- its program stands at its place
program_there : (s : TextSide) → slice_get (unit s) s.place ≡ Some (program s)
program_there s = slice_get-get_or (unit s) s.place no_pou s.stands.there

-- and is a program
kind_of : (k : PouKind) → is_program k ≡ true → k ≡ Program
kind_of Program h = refl
kind_of FunctionBlock h = absurd (cc)

-- inputs leave what a restart gives as it is
pub store_of : (s : TextSide) (inputs : List Input) (store : Stored) → store ≡ record s.state.store { values = with_inputs inputs s.state.store.values } → IsStoreOf s.layout store
store_of s inputs store e = record { leaves = ap (λ (x : Stored). x.starts) e ∙ s.stands.store.leaves; memories = ap (λ (x : Stored). x.memory_starts) e ∙ s.stands.store.memories }

-- the program of a side stands ready for a scan
pub stands : OneAgreement → BodiesThere → ProgramsStand → StoreIsTyped → (s : TextSide) → IsReady (unit s) → IsLaid s.layout → (store : Stored) → IsStored store → IsStoreOf s.layout store
    → (wires in_outs : ℕ) → length s.frame.wires.items ≤ wires → length s.frame.in_outs.items ≤ in_outs
    → Stands s.program s.text (length s.text.sections.items) s.place origin [] (length store.values) (length store.memories) wires in_outs
    × StandsTyped s.program s.text s.place origin [] store.values store.memories
stands one bodies stand types s ready laid store stored of wires in_outs wide deep =
    let count = bodies (unit s) s.program s.text s.stands.prepared in
    let low = s.stands.there in
    let found = there_is s.program.bodies.items s.place (omega arith) in
    let frame = s.stands.framed found.0 found.1 in
    let across = frame.wide in
    let down = frame.deep in
    let typed = types (unit s) (program s) s.layout (laid_for one s) laid store stored of in
    stand (unit s) s.program s.text ∣ ready ∣₁ s.stands.prepared s.place (program s) found.0 (program_there s) (kind_of (program s).kind s.stands.program_there) found.1
    store.values store.memories typed.0 (ap (map (λ (v : Value). v.ty)) typed.1) wires in_outs (omega arith) (omega arith)

-- what it does is what the text does
pub scanned : OneAgreement → InputsAreStored → ScansAreStored → (s : TextSide) → IsReady (unit s) → IsLaid s.layout → s.halted ≡ false
    → (time : ℕ) (clock : ℤ) → clock ≡ pos time → (inputs : List Input) → Each (IsInput s.layout.leaves) inputs
    → (old new : State) → old.store ≡ record s.state.store { values = with_inputs inputs s.state.store.values }
    → (result : Result (Unit {0}) Stop) → outcome result (tt {0}) (numbers new) ≡ text_does s.program s.text clock s.place (numbers old)
    → (g : Meant TextState) → StandsFor s g
    → IsScanOf (unit s) (program s) old.left (Scan time (map (meant_input s.layout.leaves) inputs)) g result new.store
scanned one put scans s ready laid runs time clock is_time inputs are old new e result does g h =
    let written = map (meant_input s.layout.leaves) inputs in
    let agreed : AgreesWith (unit s) (program s) (record g.state { store = put_inputs written g.state.store }) old.store =
    subst (AgreesWith (unit s) (program s) (record g.state { store = put_inputs written g.state.store })) (sym e) (put (unit s) (program s) s.layout (laid_for one s) laid inputs are g.state s.state.store h.agrees) in
    scans (unit s) s.program s.text ready s.stands.prepared s.place (program s) (program_there s) (kind_of (program s).kind s.stands.program_there)
    time written g (h.halted ∙ runs) old new agreed result
    (does ∙ ap (λ (t : ℤ). text_does s.program s.text t s.place (numbers old)) is_time)
