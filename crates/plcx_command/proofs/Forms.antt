-- What is asked for of runs, one form as the other.
use Rattle.std.proofs.Common.{◌≡◌, ◌≢◌, ℕ, List, refl, inl, inr, Option, Some}
use Rattle.std.specs.Prelude.{Result, Ok, Err}
use Rattle.plcx_meaning.specs.Diagram.{Project}
use Rattle.plcx_words.specs.Command.{Run}
use Rattle.plcx_traced.specs.Programs.{IsMissing}
use Rattle.plcx_traced.specs.Runs.{AreTold, ComesTo}
use Rattle.plcx_traced.specs.declared.error.RunError.{RunError}
use Rattle.plcx_traced.specs.declared.error.RunError.TheVariants.{NoProgram, NoMemory}
use Rattle.plcx_simulate.specs.Programs.{programs_of}
use Rattle.plcx_coverage.specs.Coverage.{CoversTo}
use Rattle.plcx_command.specs.Headline.{Reads}
use Rattle.plcx_command.specs.Says.{file_of}
use Rattle.plcx_command.specs.Simulated.{RunForm, Trace, Coverage, run_action, RunComesTo}

-- over files that are told a run comes to one thing
abbrev pub OneRun : Type 0
OneRun = (form : RunForm) (project : Project) (told : List ℕ → Option (List ℕ)) (r : Run) → AreTold told r → (x y : Result (List ℕ) RunError) → x ≢ Err NoMemory → y ≢ Err NoMemory
    → RunComesTo told (λ _. ⊥) form project r x → RunComesTo told (λ _. ⊥) form project r y → x ≡ y

-- and where its program is missing, to nothing but that
abbrev pub MissingRun : Type 0
MissingRun = (form : RunForm) (project : Project) (told : List ℕ → Option (List ℕ)) (r : Run) (x : Result (List ℕ) RunError) → x ≢ Err NoMemory → RunComesTo told (λ _. ⊥) form project r x
    → IsMissing (programs_of project) r.program → (programs : ℕ) × (x ≡ Err (NoProgram programs))

to_trace : (told : List ℕ → Option (List ℕ)) (project : Project) (r : Run) (x : Result (List ℕ) RunError) → RunComesTo told (λ _. ⊥) Trace project r x → ComesTo told (λ _. ⊥) (programs_of project) r x
to_trace told project r (Ok text) h = h
to_trace told project r (Err e) h = h

to_coverage : (told : List ℕ → Option (List ℕ)) (project : Project) (r : Run) (x : Result (List ℕ) RunError) → RunComesTo told (λ _. ⊥) Coverage project r x → CoversTo told (λ _. ⊥) project r x
to_coverage told project r (Ok text) h = h
to_coverage told project r (Err e) h = h

pub one_run : ((project : Project) (told : List ℕ → Option (List ℕ)) (r : Run) → AreTold told r → (x y : Result (List ℕ) RunError) → x ≢ Err NoMemory → y ≢ Err NoMemory
    → ComesTo told (λ _. ⊥) (programs_of project) r x → ComesTo told (λ _. ⊥) (programs_of project) r y → x ≡ y)
    → ((project : Project) (told : List ℕ → Option (List ℕ)) (r : Run) → AreTold told r → (x y : Result (List ℕ) RunError) → x ≢ Err NoMemory → y ≢ Err NoMemory
    → CoversTo told (λ _. ⊥) project r x → CoversTo told (λ _. ⊥) project r y → x ≡ y) → OneRun
one_run trace coverage Trace project told r all x y nx ny h k = trace project told r all x y nx ny (to_trace told project r x h) (to_trace told project r y k)
one_run trace coverage Coverage project told r all x y nx ny h k = coverage project told r all x y nx ny (to_coverage told project r x h) (to_coverage told project r y k)

pub missing_run : ((project : Project) (told : List ℕ → Option (List ℕ)) (r : Run) (x : Result (List ℕ) RunError) → x ≢ Err NoMemory → ComesTo told (λ _. ⊥) (programs_of project) r x
    → IsMissing (programs_of project) r.program → (programs : ℕ) × (x ≡ Err (NoProgram programs)))
    → ((project : Project) (told : List ℕ → Option (List ℕ)) (r : Run) (x : Result (List ℕ) RunError) → x ≢ Err NoMemory → CoversTo told (λ _. ⊥) project r x
    → IsMissing (programs_of project) r.program → (programs : ℕ) × (x ≡ Err (NoProgram programs))) → MissingRun
missing_run trace coverage Trace project told r x nx h m = trace project told r x nx (to_trace told project r x h) m
missing_run trace coverage Coverage project told r x nx h m = coverage project told r x nx (to_coverage told project r x h) m

-- the files that a run reads
pub file_of_run : (form : RunForm) (r : Run) → file_of (run_action form r) ≡ Some r.file
file_of_run Trace r = refl
file_of_run Coverage r = refl

pub reads_file : (form : RunForm) (r : Run) → Reads (Some (run_action form r)) r.file
reads_file Trace r = inl refl
reads_file Coverage r = inl refl

pub reads_kept : (form : RunForm) (r : Run) (name : List ℕ) → r.retain ≡ Some name → Reads (Some (run_action form r)) name
reads_kept Trace r name is = inr (inl is)
reads_kept Coverage r name is = inr (inl is)

pub reads_events : (form : RunForm) (r : Run) → Reads (Some (run_action form r)) r.events
reads_events Trace r = inr (inr refl)
reads_events Coverage r = inr (inr refl)
