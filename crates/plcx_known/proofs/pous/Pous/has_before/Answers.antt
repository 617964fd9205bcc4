use Rattle.std.proofs.Common.{◌∙◌}
use Rattle.plcx_known.proofs.Units.{before_by}
use Rattle.plcx_known.proofs.pous.Pous.has_before.Goals as goal

pub returns : goal.returns
returns c = c.in_ok-has_before.ensures ∙ before_by c.args.name.now c.self.inside.names c.self.inside.pous.now c.args.self.now c.args.place c.self.invariant c.self.view_is
