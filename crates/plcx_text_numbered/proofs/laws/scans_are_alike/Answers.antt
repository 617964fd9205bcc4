use Rattle.plcx_text_numbered.proofs.Bodies.{lies_whole, program_alike}
use Rattle.plcx_text_numbered.proofs.laws.scans_are_alike.Goals as goal

pub returns : goal.returns
returns c = λ unit plans program text prepared own k there low none apart time g n a.
    program_alike own.plan.paths apart unit plans program text prepared time own k there low none (lies_whole own.plan.paths) g n a
