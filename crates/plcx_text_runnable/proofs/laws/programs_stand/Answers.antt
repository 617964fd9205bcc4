use Rattle.std.proofs.Math.Logic.{∥∥₁_elim}
use Rattle.plcx_meaning.specs.Ready.{IsReady}
use Rattle.plcx_text_numbered.specs.Texts.{IsTextOf}
use Rattle.plcx_text_runnable.specs.Shapes.{shapes_of}
use Rattle.plcx_text_runnable.proofs.Programs.{text_typed}
use Rattle.plcx_text_runnable.proofs.Propositions.{typed_prop}
use Rattle.plcx_text_runnable.proofs.Standing.{main_prop, main_is, stands}
use Rattle.plcx_text_runnable.proofs.laws.programs_stand.Goals as goal

pub returns : goal.returns
returns c = λ unit program text ready prepared k p body there main is.
    stands unit program text k p body
    (∥∥₁_elim ready (main_prop unit text k p body) (λ (r : IsReady unit). ∥∥₁_elim prepared (main_prop unit text k p body) (λ (w : IsTextOf unit program text). main_is unit r program text w k p there main body is)))
    (∥∥₁_elim ready (typed_prop (shapes_of unit) program text) (λ (r : IsReady unit). ∥∥₁_elim prepared (typed_prop (shapes_of unit) program text) (λ (w : IsTextOf unit program text). text_typed unit r program text w)))
    there is
