use Rattle.std.proofs.Common.{Bool, ap, ◌∙◌}
use Rattle.plcx_conditions.specs.declared.broken.Condition.TheVariants.{Name}
use Rattle.plcx_conditions.specs.Broken.{broken_if}
use Rattle.plcx_conditions.specs.First.{first_of, sooner}
use Rattle.plcx_unit.proofs.Folding.{first_three}
use Rattle.plcx_unit.proofs.here.Here.argument.Goals as goal

pub returns : goal.returns
returns c =
    let again = rw c.text.ensures.text at c.in_ok-again.ensures in
    c.sooner-2.ensures ∙ ap (sooner c.broken_if-named.result) c.sooner.ensures
    ∙ first_three _ _ _ _ _ _ (c.broken_if-named.ensures ∙ ap (λ (b : Bool). first_of (broken_if b Name c.args.arg.now.formal.span.start)) again) c.in_ok-one.ensures.broken c.in_ok-formal.ensures
