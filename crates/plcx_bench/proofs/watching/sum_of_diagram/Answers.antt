use Rattle.std.proofs.Common.{◌≡◌, ◌∙◌, arith, rules, subst, to_z, of_z}
use Rattle.std.specs.Int.{w128}
use Rattle.std.proofs.lemmas.Int.{ints}
use Rattle.plcx_meaning.specs.Watch.{heard_over}
use Rattle.plcx_eval.specs.declared.side.DiagramSide.{DiagramSide}
use Rattle.plcx_eval.specs.Sides.{diagrams, program, machine_of, StandsFor}
use Rattle.plcx_simulate.proofs.Lent.{lent}
use Rattle.plcx_bench.specs.Summary.{turns, ten_scans, sum_after}
use Rattle.plcx_bench.proofs.watching.sum_of_diagram.Goals as goal

pub returns-clause-sum : goal.returns-clause-sum
returns-clause-sum g c = λ d stands.
    let same : to_z w128 (of_z w128 c.sum_listened.result) ≡ c.sum_listened.result = omega (arith, ints) in
    same
    ∙ subst (λ (s : DiagramSide). StandsFor s d → c.sum_listened.result ≡ sum_after (machine_of s) ten_scans d) c.new-watched.ensures.side (c.sum_listened.ensures.sum d) stands

pub returns-clause-heard : goal.returns-clause-heard
returns-clause-heard g c = λ d stands.
    lent g.W.Watch.told (λ s Became. StandsFor s d → Became (heard_over (diagrams s) (program s) turns ten_scans d)) _ _ _ _ _ _
    c.new-watched.ensures.side c.new-watched.ensures.watch (search rules) (c.sum_listened.ensures.heard d) stands
