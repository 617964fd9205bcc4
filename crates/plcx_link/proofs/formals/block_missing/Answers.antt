use Rattle.std.proofs.Common.{◌∙◌}
use Rattle.plcx_link.proofs.SideNames.{missing_is, none_missing}
use Rattle.plcx_link.proofs.formals.block_missing.Goals as goal

pub returns-in-None : goal.returns-in-None
returns-in-None c = none_missing c.args.scope.now c.args.place c.args.in_outs.now c.in-None.ensures

pub returns-in-Some : goal.returns-in-Some
returns-in-Some c = c.any_missing.ensures ∙ missing_is c.args.scope.now c.args.place c.args.in_outs.now c.in-Some.owner.now c.in_outs.result.now c.in-Some.ensures c.in_outs.ensures
