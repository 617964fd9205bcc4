use Rattle.std.proofs.Common.{Ok, Err, refl}
use Rattle.std.proofs.lemmas.Result.{IfOk-weaker}
use Rattle.plcx_words.specs.Says.{said_by_migration}
use Rattle.plcx_command.specs.Migrated.{Line, RetainedRead}
use Rattle.plcx_command.proofs.Carried.{versions_there}
use Rattle.plcx_command.proofs.migrating.migrated.Goals as goal

pub returns-in-Ok : goal.returns-in-Ok
returns-in-Ok g c = λ old new has loaded more.
    record {
      outcome = Ok c.in-Ok.text.items;
      comes = (versions_there (g.D.Desk.file c.args.desk.now) (said_by_migration c.args.migration.now) old new c.args.before.now c.args.after.now has loaded more, c.in-Ok.ensures.ok);
      answer = refl;
    }

pub returns-in-Err-RetainedRead : goal.returns-in-Err-RetainedRead
returns-in-Err-RetainedRead g c =
    IfOk-weaker c.read_fault.result _ _ (λ reply e old new has loaded more.
    record {
      outcome = Err RetainedRead;
      comes = (versions_there (g.D.Desk.file c.args.desk.now) (said_by_migration c.args.migration.now) old new c.args.before.now c.args.after.now has loaded more, (rw c.in-Err-RetainedRead.field-0-is at c.in-Err-RetainedRead.ensures.err));
      answer = e;
    }) c.read_fault.ensures

pub returns-in-Err-Line : goal.returns-in-Err-Line
returns-in-Err-Line g c =
    IfOk-weaker c.wrong_line.result _ _ (λ reply e old new has loaded more.
    record {
      outcome = Err (Line c.in-Err-Line.line);
      comes = (versions_there (g.D.Desk.file c.args.desk.now) (said_by_migration c.args.migration.now) old new c.args.before.now c.args.after.now has loaded more, (rw c.in-Err-Line.field-0-is at c.in-Err-Line.ensures.err));
      answer = e;
    }) c.wrong_line.ensures
