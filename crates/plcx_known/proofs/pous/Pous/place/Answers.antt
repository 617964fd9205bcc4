use Rattle.std.proofs.Common.{◌∙◌}
use Rattle.plcx_known.proofs.Units.{place_by}
use Rattle.plcx_known.proofs.pous.Pous.place.Goals as goal

pub returns : goal.returns
returns c = c.in_ok-place.ensures ∙ place_by c.args.name.now c.self.inside.names c.self.inside.pous.now c.args.self.now c.self.invariant c.self.view_is
