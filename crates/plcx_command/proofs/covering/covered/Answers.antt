use Rattle.std.proofs.Common.{refl}
use Rattle.std.specs.Prelude.{Ok, Err}
use Rattle.plcx_simulate.specs.Programs.{diagrams_in}
use Rattle.plcx_command.proofs.Takes.{both_ok, diagrams_there}
use Rattle.plcx_command.proofs.covering.covered.Goals as goal

pub returns-in-Ok : goal.returns-in-Ok
returns-in-Ok g c = λ file.
    record {
      outcome = Ok c.in-Ok.text.items;
      simulated = record { diagrams = diagrams_in c.args.checked.now; has = diagrams_there _ c.args.checked.now file; comes = c.in-Ok.ensures.ok; there = λ e. cc };
      answer = refl;
    }

pub returns-in-Err : goal.returns-in-Err
returns-in-Err g c =
    both_ok c.no_trace.result _ _ _ (λ reply there e file.
    record {
      outcome = Err c.in-Err.error;
      simulated = record { diagrams = diagrams_in c.args.checked.now; has = diagrams_there _ c.args.checked.now file; comes = c.in-Err.ensures.err; there = λ is. there (cc) };
      answer = e;
    }) c.no_trace.ensures.there c.no_trace.ensures.answer
