use Rattle.std.proofs.Common.{refl}
use Rattle.std.specs.Prelude.{Ok, Err}
use Rattle.plcx_xml.specs.declared.tree.Node.{out-Node}
use Rattle.plcx_words.specs.Says.{said_by_task_run}
use Rattle.plcx_command.proofs.Takes.{both_ok, cycled_there}
use Rattle.plcx_command.proofs.cycling.cycled.Goals as goal

pub returns-in-Ok : goal.returns-in-Ok
returns-in-Ok g c = λ bytes tree.
    record {
      outcome = Ok c.in-Ok.text.items;
      cycled = cycled_there _ _ (said_by_task_run c.args.run.now) bytes (out-Node c.args.root.now) c.args.checked.now tree (Ok c.in-Ok.text.items) c.in-Ok.ensures.ok (λ e. cc);
      answer = refl;
    }

pub returns-in-Err : goal.returns-in-Err
returns-in-Err g c =
    both_ok c.no_cycle.result _ _ _ (λ reply there e bytes tree.
    record {
      outcome = Err c.in-Err.error;
      cycled = cycled_there _ _ (said_by_task_run c.args.run.now) bytes (out-Node c.args.root.now) c.args.checked.now tree (Err c.in-Err.error) c.in-Err.ensures.err (λ is. there (cc));
      answer = e;
    }) c.no_cycle.ensures.there c.no_cycle.ensures.answer
