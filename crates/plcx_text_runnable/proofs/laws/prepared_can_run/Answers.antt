use Rattle.std.specs.Coded.{×_prop}
use Rattle.std.proofs.Math.Logic.{∥∥₁_elim}
use Rattle.plcx_meaning.specs.Ready.{IsReady}
use Rattle.plcx_text_numbered.specs.Texts.{IsTextOf}
use Rattle.plcx_text_runnable.specs.Shapes.{shapes_of}
use Rattle.plcx_text_runnable.proofs.Programs.{text_sound, text_typed}
use Rattle.plcx_text_runnable.proofs.Propositions.{sound_prop, typed_prop}
use Rattle.plcx_text_runnable.proofs.laws.prepared_can_run.Goals as goal

pub returns : goal.returns
returns c = λ unit program text ready prepared.
    let prop = ×_prop (sound_prop text program) (typed_prop (shapes_of unit) program text) in
    ∥∥₁_elim ready prop (λ (r : IsReady unit). ∥∥₁_elim prepared prop (λ (w : IsTextOf unit program text). (text_sound unit r program text w, text_typed unit r program text w)))
