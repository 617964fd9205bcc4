use Rattle.std.proofs.Common.{ap, ◌∙◌}
use Rattle.std.specs.List.{list_any, position_from}
use Rattle.plcx_targets.specs.Labels.{is_labelled}
use Rattle.plcx_targets.proofs.targets.Targets.labelled.Goals as goal

pub returns : goal.returns
returns c = c.copied.ensures ∙ c.get.ensures.value ∙ c.self.invariant c.args.key.now ∙ ap (position_from (list_any (is_labelled c.args.key.now)) 0) c.self.view_is
