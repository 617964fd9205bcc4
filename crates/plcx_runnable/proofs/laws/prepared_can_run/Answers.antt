use Rattle.std.proofs.Common.{map}
use Rattle.std.specs.Coded.{×_prop}
use Rattle.std.proofs.Math.Logic.{∥∥₁_elim}
use Rattle.plcx_meaning.specs.Fits.{ProjectFits}
use Rattle.plcx_numbered.specs.Programs.{IsProgramOf}
use Rattle.plcx_runnable.specs.Shapes.{types_of}
use Rattle.plcx_runnable.proofs.Propositions.{sound_prop, typed_prop}
use Rattle.plcx_runnable.proofs.Programs.{program_sound, program_typed}
use Rattle.plcx_runnable.proofs.laws.prepared_can_run.Goals as goal

pub returns : goal.returns
returns c = λ project program fits prepared.
    let prop = ×_prop (sound_prop program) (typed_prop (map (types_of project) project) program) in
    ∥∥₁_elim fits prop (λ (f : ProjectFits project). ∥∥₁_elim prepared prop (λ (p : IsProgramOf project program). (program_sound project f program p, program_typed project f program p)))
