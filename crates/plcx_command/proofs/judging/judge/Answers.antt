use Rattle.std.proofs.lemmas.Result.{IfOk-weaker}
use Rattle.plcx_command.proofs.Judged.{judged, faulted}
use Rattle.plcx_command.proofs.judging.judge.Goals as goal

pub returns-in-Ok : goal.returns-in-Ok
returns-in-Ok c =
    let t = c.in-Ok.ensures.tree in
    IfOk-weaker c.of_root.result _ _ (λ j h. judged c.args.bytes.now c.in-Ok.root t.0 j t.1 t.2 h) c.of_root.ensures

pub returns-in-Err : goal.returns-in-Err
returns-in-Err c = IfOk-weaker c.of_tree.result _ _ (λ j h. faulted c.args.bytes.now c.in-Err.fault j c.in-Err.ensures.fails h) c.of_tree.ensures
