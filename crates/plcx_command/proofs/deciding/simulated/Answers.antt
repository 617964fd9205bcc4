use Rattle.std.proofs.Common.{refl}
use Rattle.std.specs.Prelude.{Ok, Err}
use Rattle.plcx_simulate.specs.Programs.{diagrams_in}
use Rattle.plcx_words.specs.Says.{said_by_run}
use Rattle.plcx_command.proofs.Takes.{both_ok, diagrams_there, error_heard}
use Rattle.plcx_command.proofs.deciding.simulated.Goals as goal

pub returns-in-Ok-clause-says : goal.returns-in-Ok-clause-says
returns-in-Ok-clause-says g c = λ file.
    record {
      outcome = Ok c.in-Ok.text.items;
      simulated = record { diagrams = diagrams_in c.args.checked.now; has = diagrams_there _ c.args.checked.now file; comes = c.in-Ok.ensures.ok; there = λ e. cc };
      answer = refl;
    }

pub returns-in-Err-clause-says : goal.returns-in-Err-clause-says
returns-in-Err-clause-says g c =
    both_ok c.no_trace.result _ _ _ (λ reply there e file.
    record {
      outcome = Err c.in-Err.error;
      simulated = record { diagrams = diagrams_in c.args.checked.now; has = diagrams_there _ c.args.checked.now file; comes = c.in-Err.ensures.err; there = λ is. there (cc) };
      answer = e;
    }) c.no_trace.ensures.there c.no_trace.ensures.answer

pub returns-in-Err-clause-heard : goal.returns-in-Err-clause-heard
returns-in-Err-clause-heard g c = λ file.
    error_heard _ _ (said_by_run c.args.run.now) c.args.checked.now file c.in-Err.error c.in-Err.ensures.heard c.no_trace.result c.no_trace.ensures.answer
