use Rattle.plcx_link.specs.Bodies.{shown_standing}
use Rattle.plcx_link.proofs.Judgings.{none_broken, one_broken, one_kept}
use Rattle.plcx_link.proofs.rules.broken_at.Goals as goal

pub returns-in-None : goal.returns-in-None
returns-in-None c = none_broken c.args.body.now c.args.rule c.args.place c.in-None.ensures

pub returns-then-branch : goal.returns-then-branch
returns-then-branch c = one_broken c.args.body.now c.args.rule c.args.place (shown_standing c.in-Some.one) c.in_ok-breaks-in-Some.field-0 c.in-Some.ensures c.in_ok-breaks-in-Some.ensures c.if-branch.true

pub returns-else-branch : goal.returns-else-branch
returns-else-branch c = one_kept c.args.body.now c.args.rule c.args.place (shown_standing c.in-Some.one) c.in_ok-breaks-in-Some.field-0 c.in-Some.ensures c.in_ok-breaks-in-Some.ensures c.if-branch.false
