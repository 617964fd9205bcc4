-- A run of a text comes to one thing.
use Rattle.std.proofs.Common.{◌≡◌, ◌≢◌, ℕ, List}
use Rattle.std.specs.Prelude.{Option, Result, Err}
use Rattle.plcx_meaning.specs.Tree.{PouText}
use Rattle.plcx_words.specs.Command.{Run}
use Rattle.plcx_traced.specs.Programs.{IsMissing}
use Rattle.plcx_traced.specs.Runs.{AreTold, ComesTo}
use Rattle.plcx_traced.specs.declared.error.RunError.{RunError}
use Rattle.plcx_traced.specs.declared.error.RunError.TheVariants.{NoProgram, NoMemory}
use Rattle.plcx_traced.proofs.OneOutcome as runs
use Rattle.plcx_execute.specs.Programs.{programs_of}

pub one_outcome : (unit : List PouText) (told : List ℕ → Option (List ℕ)) (r : Run) → AreTold told r → (x y : Result (List ℕ) RunError) → x ≢ Err NoMemory → y ≢ Err NoMemory
    → ComesTo told (λ _. ⊥) (programs_of unit) r x → ComesTo told (λ _. ⊥) (programs_of unit) r y → x ≡ y
one_outcome unit told r all = runs.one_outcome (programs_of unit) told r all

pub missing_alone : (unit : List PouText) (told : List ℕ → Option (List ℕ)) (r : Run) (x : Result (List ℕ) RunError) → x ≢ Err NoMemory → ComesTo told (λ _. ⊥) (programs_of unit) r x
    → IsMissing (programs_of unit) r.program → (programs : ℕ) × (x ≡ Err (NoProgram programs))
missing_alone unit told r x = runs.missing_alone (programs_of unit) told (λ _. ⊥) r x
