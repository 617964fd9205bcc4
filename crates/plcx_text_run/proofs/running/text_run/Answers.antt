use Rattle.std.proofs.lemmas.Result.{IfOk-weaker, IfErr-weaker}
use Rattle.plcx_words.specs.Says.{said_by_run}
use Rattle.plcx_text_run.proofs.Carried.{traced, refused}
use Rattle.plcx_text_run.proofs.running.text_run.Goals as goal

pub returns-in-Ok-clause-ok : goal.returns-in-Ok-clause-ok
returns-in-Ok-clause-ok g c =
    let before = g.D.Desk.file c.args.desk.now in
    let after = g.D.Desk.file c.load_text.new.desk in
    IfOk-weaker c.executed.result _ _ (λ text h. traced before after c.load_text.ensures.files (said_by_run c.args.run.now) c.in-Ok.ready c.in-Ok.ensures.ready text.items h) c.executed.ensures.ok

pub returns-in-Ok-clause-err : goal.returns-in-Ok-clause-err
returns-in-Ok-clause-err g c =
    let before = g.D.Desk.file c.args.desk.now in
    let after = g.D.Desk.file c.load_text.new.desk in
    IfErr-weaker c.executed.result _ _ (λ e h. refused before after c.load_text.ensures.files (said_by_run c.args.run.now) c.in-Ok.ready c.in-Ok.ensures.ready
    (g.D.Desk.faults c.args.desk.now) (g.D.Desk.faults c.load_text.new.desk) (g.D.Desk.faults c.executed.new.desk) c.load_text.ensures.later e h) c.executed.ensures.err
