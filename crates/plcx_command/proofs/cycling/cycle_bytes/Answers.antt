use Rattle.std.proofs.lemmas.Result.{IfOk-weaker}
use Rattle.plcx_command.specs.Verdict.{Accepted, Broken, InTree, Passed, Refused}
use Rattle.plcx_command.proofs.Judged.{has_tree, judged}
use Rattle.plcx_command.proofs.cycling.cycle_bytes.Goals as goal

pub returns-in-Err : goal.returns-in-Err
returns-in-Err g c =
    IfOk-weaker c.broken_tree.result _ _ (λ reply h.
    record { verdict = Broken h.0; judged = Refused (InTree c.in-Err.fault c.in-Err.ensures.fails h.1); answers = h.2 }) c.broken_tree.ensures

pub returns-in-Accepted : goal.returns-in-Accepted
returns-in-Accepted g c =
    let t = c.in-Ok.ensures.tree in
    let checked = c.in-Accepted.checked in
    let tree = has_tree c.args.bytes.now c.in-Ok.root t.0 checked t.1 t.2 (rw c.in-Accepted.is at c.in_ok-checked.ensures) in
    IfOk-weaker c.cycled.result _ _ (λ reply h. record { verdict = Accepted; judged = Passed checked.project tree.keeps; answers = h c.args.bytes.now tree }) c.cycled.ensures

pub returns : goal.returns
returns g c =
    let t = c.in-Ok.ensures.tree in
    let found = c.in-Broken.found in
    let broken = judged c.args.bytes.now c.in-Ok.root t.0 _ t.1 t.2 (rw c.in-Broken.is at c.in_ok-checked.ensures) in
    IfOk-weaker c.broken.result _ _ (λ reply e. record { verdict = Broken found; judged = Refused broken; answers = e }) c.broken.ensures
