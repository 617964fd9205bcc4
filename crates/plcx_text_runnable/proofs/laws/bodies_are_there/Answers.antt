use Rattle.std.specs.Coded.{Coded-set, coded_ℕ}
use Rattle.std.proofs.Math.Logic.{∥∥₁_elim}
use Rattle.plcx_text_numbered.specs.Texts.{IsTextOf}
use Rattle.plcx_text_runnable.proofs.laws.bodies_are_there.Goals as goal

pub returns : goal.returns
returns c = λ unit program text prepared. ∥∥₁_elim prepared (Coded-set coded_ℕ _ _) (λ (is : IsTextOf unit program text). is.bodies)
