-- What a run covers comes to one thing.
use Rattle.std.proofs.Common.{◌≡◌, ◌≢◌, ◌∙◌, ℕ, List, sym, ap}
use Rattle.std.specs.Prelude.{Option, Result, Ok, Err}
use Rattle.plcx_meaning.specs.Diagram.{Project}
use Rattle.plcx_meaning.specs.Evaluate.{diagram_machine}
use Rattle.plcx_meaning.specs.Run.{begin_side}
use Rattle.plcx_meaning.specs.Watch.{heard_over}
use Rattle.plcx_words.specs.Command.{Run}
use Rattle.plcx_traced.specs.Programs.{IsMissing}
use Rattle.plcx_traced.specs.Runs.{AreTold}
use Rattle.plcx_traced.specs.declared.error.RunError.{RunError}
use Rattle.plcx_traced.specs.declared.error.RunError.TheVariants.{NoProgram, NoMemory}
use Rattle.plcx_traced.proofs.OneOutcome as runs
use Rattle.plcx_simulate.specs.Programs.{programs_of}
use Rattle.plcx_cover.specs.Counts.{rows_of, all_grown}
use Rattle.plcx_cover.specs.Texts.{cover_text}
use Rattle.plcx_coverage.specs.Coverage.{IsCovered, CoversTo}

module _ (project : Project) (told : List ℕ → Option (List ℕ)) (r : Run) where
  pub missing_alone : (x : Result (List ℕ) RunError) → x ≢ Err NoMemory → CoversTo told (λ _. ⊥) project r x → IsMissing (programs_of project) r.program → (programs : ℕ) × (x ≡ Err (NoProgram programs))
  missing_alone (Ok text) there h m =
      let bad = runs.missing_alone (programs_of project) told (λ _. ⊥) r (Ok h.trace) (λ e. cc) h.traced m in
      let clash = bad.1 in
      absurd (cc)
  missing_alone (Err e) there h m = runs.missing_alone (programs_of project) told (λ _. ⊥) r (Err e) there h m

  module _ (all : AreTold told r) where
    text_same : (x y : List ℕ) → IsCovered told project r x → IsCovered told project r y → x ≡ y
    text_same x y h k =
        h.text_is
        ∙ runs.course_same (programs_of project) told r all
        (λ p kept es. cover_text project (all_grown (heard_over project p r.turns es (begin_side (diagram_machine project p) kept)) (rows_of project))) h.trace k.trace h.traced k.traced
        ∙ sym k.text_is

    pub one_coverage : (x y : Result (List ℕ) RunError) → x ≢ Err NoMemory → y ≢ Err NoMemory → CoversTo told (λ _. ⊥) project r x → CoversTo told (λ _. ⊥) project r y → x ≡ y
    one_coverage (Ok x) (Ok y) nx ny h k = ap Ok (text_same x y h k)
    one_coverage (Ok x) (Err e) nx ny h k =
        let clash = runs.one_outcome (programs_of project) told r all (Ok h.trace) (Err e) (λ c. cc) ny h.traced k in
        absurd (cc)
    one_coverage (Err e) (Ok y) nx ny h k =
        let clash = runs.one_outcome (programs_of project) told r all (Ok k.trace) (Err e) (λ c. cc) nx k.traced h in
        absurd (cc)
    one_coverage (Err e) (Err f) nx ny h k = runs.one_outcome (programs_of project) told r all (Err e) (Err f) nx ny h k
