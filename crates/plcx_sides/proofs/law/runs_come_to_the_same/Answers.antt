use Rattle.plcx_meaning.specs.Templates.{unit_of}
use Rattle.plcx_simulate.specs.Programs as diagrams
use Rattle.plcx_execute.specs.Programs as texts
use Rattle.plcx_sides.proofs.Corresponds.{correspond, comes_over}
use Rattle.plcx_sides.proofs.SameRuns.{runs_same}
use Rattle.plcx_sides.proofs.law.runs_come_to_the_same.Goals as goal

pub returns : goal.returns
returns c = λ project fits told r file all x y nx ny h k.
    let both = correspond c.outside_leaves.ensures project (c.same_behavior.ensures.behaves project fits) (λ name p named. c.same_behavior.ensures.traces project fits name p named) r.program in
    runs_same told r all (diagrams.programs_of project) (texts.programs_of (unit_of project)) both x y nx ny h (comes_over (texts.programs_of (unit_of project)) told r file y k)
