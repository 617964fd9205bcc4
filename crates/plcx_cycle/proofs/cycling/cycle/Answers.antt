use Rattle.std.proofs.lemmas.Result.{IfErr-weaker}
use Rattle.plcx_xml.specs.declared.tree.Node.{out-Node}
use Rattle.plcx_simulate.specs.Programs.{diagrams_in}
use Rattle.plcx_words.specs.Says.{said_by_task_run}
use Rattle.plcx_cycle.proofs.Named.{all_named}
use Rattle.plcx_cycle.proofs.Planned.{why_cycled}
use Rattle.plcx_cycle.proofs.cycling.cycle.Goals as goal

pub cycled-requires-clause-programs : goal.cycled-requires-clause-programs
cycled-requires-clause-programs g c =
    let k = c.args.checked.now in
    all_named k.project k.links k.types k.plan c.in-Ok.plan.instances (rw c.project.ensures at c.in-Ok.ensures.programs)

pub returns-in-Ok-clause-err : goal.returns-in-Ok-clause-err
returns-in-Ok-clause-err g c =
    let k = c.args.checked.now in
    let is = rw c.project.ensures at c.in-Ok.ensures.tasks in
    IfErr-weaker c.cycled.result _ _ (λ e h.
    why_cycled (g.D.Desk.file c.args.desk.now) _ (out-Node c.args.root.now) k.project (diagrams_in k) (said_by_task_run c.args.run.now) c.in-Ok.plan is e h) c.cycled.ensures.err
