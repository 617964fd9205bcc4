use Rattle.std.proofs.Common.{subst}
use Rattle.plcx_link.specs.Linked.{Refuses}
use Rattle.plcx_check.proofs.Verdicts.{in_links}
use Rattle.plcx_check.proofs.verdict.linked.Goals as goal

pub returns-in-Err-Broken : goal.returns-in-Err-Broken
returns-in-Err-Broken c =
    let e = subst (Refuses c.args.project.now) c.in-Err-Broken.field-0-is c.in-Err-Broken.ensures in
    in_links c.args.project.now c.in-Err-Broken.broken e.0 e.1 e.3 e.2
