use Rattle.std.proofs.Common.{List, ap, ◌∙◌}
use Rattle.std.specs.List.{filter, filter_map}
use Rattle.plcx_model.specs.declared.project.ListClass.{ListClass}
use Rattle.plcx_model.specs.declared.project.ListClass.TheVariants.{Input, Output, InOut}
use Rattle.plcx_rules.specs.Declarations.{Declaration, same_class}
use Rattle.plcx_rules.specs.Callees.{pin_of}
use Rattle.plcx_names.proofs.owner.Owner.of.Goals as goal

pub invariant_of-result : goal.invariant_of-result
invariant_of-result c =
    let of_class = λ (class : ListClass) (ds : List Declaration). filter_map pin_of (filter (λ (d : Declaration). same_class d.class class) ds) in
    let all = c.in_ok-all.ensures in (
      c.in_ok-variables.ensures ∙ all,
      rw c.deref.ensures.value at c.in_ok-inputs.ensures ∙ ap (of_class Input) all,
      rw c.deref-2.ensures.value at c.in_ok-in_outs.ensures ∙ ap (of_class InOut) all,
      rw c.deref-3.ensures.value at c.in_ok-outputs.ensures ∙ ap (of_class Output) all,
    )
