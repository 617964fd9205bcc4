use Rattle.std.specs.Coded.{Coded-set, coded_ℕ}
use Rattle.std.proofs.Math.Logic.{∥∥₁_elim}
use Rattle.plcx_numbered.specs.Programs.{IsBodyOf, IsProgramOf}
use Rattle.plcx_runnable.proofs.Programs.{zip_long}
use Rattle.plcx_runnable.proofs.laws.bodies_are_there.Goals as goal

pub returns : goal.returns
returns c = λ project program prepared. ∥∥₁_elim prepared (Coded-set coded_ℕ _ _) (λ (is : IsProgramOf project program). zip_long (IsBodyOf project program) project program.bodies.items is.bodies)
