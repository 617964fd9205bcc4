use Rattle.std.proofs.Common.{sym, ◌∙◌}
use Rattle.plcx_leaves.proofs.Standing.{stands_alone, stands_within}
use Rattle.plcx_leaves.proofs.laying.is_outside.Goals as goal

pub returns : goal.returns
returns c name is = c.is_declared.ensures ∙ stands_alone c.args.within.now c.args.path.now name (sym c.is_empty.ensures ∙ c.if-not-is_empty.false) is

pub returns-then-not-is_empty : goal.returns-then-not-is_empty
returns-then-not-is_empty c name is = stands_within c.args.within.now name (sym c.is_empty.ensures ∙ c.if-not-is_empty.true)
