use Rattle.std.proofs.Common.{◌∙◌}
use Rattle.plcx_link.specs.Bodies.{shown_standing}
use Rattle.plcx_link.proofs.Standings.{output_there, none_there}
use Rattle.plcx_link.proofs.sources.output_at.Goals as goal

pub returns-in-None : goal.returns-in-None
returns-in-None c = none_there c.args.body.now.pous c.args.body.now.owner c.args.body.now.owner.body.elements c.args.place c.args.name.now c.in-None.ensures

pub returns-in-Some : goal.returns-in-Some
returns-in-Some c =
    rw c.calls_function.ensures at c.output_place.ensures
    ∙ output_there c.args.body.now.pous c.args.body.now.owner c.args.body.now.owner.body.elements c.args.place c.args.name.now (shown_standing c.in-Some.one) c.in-Some.ensures
