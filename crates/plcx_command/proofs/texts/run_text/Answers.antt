use Rattle.std.proofs.Common.{refl}
use Rattle.std.specs.Prelude.{Ok, Err}
use Rattle.plcx_command.proofs.Takes.{both_ok}
use Rattle.plcx_command.proofs.texts.run_text.Goals as goal

pub returns-in-Ok : goal.returns-in-Ok
returns-in-Ok g c = record { outcome = Ok c.in-Ok.text.items; comes = c.in-Ok.ensures.ok; there = λ e. cc; answer = refl }

pub returns-in-Err : goal.returns-in-Err
returns-in-Err g c =
    both_ok c.no_text_trace.result _ _ _ (λ reply there e.
    record { outcome = Err c.in-Err.error; comes = c.in-Err.ensures.err; there = λ is. there (cc); answer = e }) c.no_text_trace.ensures.there c.no_text_trace.ensures.answer
