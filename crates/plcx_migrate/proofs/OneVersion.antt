-- A project has one version.
use Rattle.std.proofs.Common.{◌≡◌, ◌∙◌, ℕ, List, sym, ap}
use Rattle.std.specs.Prelude.{Option}
use Rattle.plcx_meaning.specs.Diagram.{Pou, Project}
use Rattle.plcx_state.specs.Layouts.{Laid}
use Rattle.plcx_traced.proofs.OneLines.{leaves_same}
use Rattle.plcx_traced.proofs.OneOutcome.{chosen_once, not_missing}
use Rattle.plcx_simulate.specs.Programs.{programs_of}
use Rattle.plcx_migrate.specs.Versions.{IsVersion, LacksProgram}

pub one_version : (project : Project) (program : Option (List ℕ)) (a b : Laid) → IsVersion project program a → IsVersion project program b → a.leaves ≡ b.leaves
one_version project program a b h k =
    leaves_same a.leaves b.leaves h.is_laid.typed k.is_laid.typed
    (h.leaves_are ∙ ap (λ (p : Pou). ((programs_of project).machine p).layout) (chosen_once (programs_of project) program h.pou k.pou h.is k.is) ∙ sym k.leaves_are)

pub not_both : (project : Project) (program : Option (List ℕ)) (a : Laid) (programs : ℕ) → IsVersion project program a → LacksProgram project program programs → ⊥
not_both project program a programs h l = not_missing (programs_of project) program h.pou h.is l.missing

pub one_count : (project : Project) (program : Option (List ℕ)) (m n : ℕ) → LacksProgram project program m → LacksProgram project program n → m ≡ n
one_count project program m n h k = h.count ∙ sym k.count
