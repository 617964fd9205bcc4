use Rattle.std.proofs.Common.{map}
use Rattle.std.proofs.Math.Logic.{∥∥₁_elim}
use Rattle.plcx_meaning.specs.Fits.{ProjectFits}
use Rattle.plcx_numbered.specs.Programs.{IsProgramOf}
use Rattle.plcx_runnable.specs.Shapes.{types_of}
use Rattle.plcx_runnable.proofs.Propositions.{typed_prop}
use Rattle.plcx_runnable.proofs.Programs.{program_typed}
use Rattle.plcx_runnable.proofs.Standing.{main_prop, main_is, stands}
use Rattle.plcx_runnable.proofs.laws.programs_stand.Goals as goal

pub returns : goal.returns
returns c = λ project program fits prepared k p body there main is.
    stands project program k p body
    (∥∥₁_elim fits (main_prop project p body) (λ (f : ProjectFits project). ∥∥₁_elim prepared (main_prop project p body) (λ (q : IsProgramOf project program). main_is project f program q k p body there main is)))
    (∥∥₁_elim fits (typed_prop (map (types_of project) project) program) (λ (f : ProjectFits project). ∥∥₁_elim prepared (typed_prop (map (types_of project) project) program) (λ (q : IsProgramOf project program). program_typed project f program q)))
    there is
