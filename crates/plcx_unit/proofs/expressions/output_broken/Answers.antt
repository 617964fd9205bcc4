use Rattle.std.proofs.Common.{Bool, not, ap, ◌∙◌}
use Rattle.plcx_conditions.specs.declared.broken.Condition.TheVariants.{Name, Types}
use Rattle.plcx_conditions.specs.Broken.{broken_if}
use Rattle.plcx_conditions.specs.First.{first_of}
use Rattle.plcx_unit.proofs.Folding.{first_two}
use Rattle.plcx_unit.proofs.expressions.output_broken.Goals as goal

pub returns-in-Some : goal.returns-in-Some
returns-in-Some c = λ unit. rw c.in-Some.is (c.sooner.ensures ∙ first_two _ _ _ _
    (c.broken_if.ensures ∙ ap (λ (b : Bool). first_of (broken_if (not b) Name c.args.output.now.span.start)) (c.is_output.ensures unit))
    (c.broken_if-in-Some.ensures ∙ ap (λ (b : Bool). first_of (broken_if b Types c.args.instance.now.span.start)) (c.is_instance.ensures unit)))
