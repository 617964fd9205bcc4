use Rattle.std.proofs.Common.{ap, ◌∙◌}
use Rattle.plcx_conditions.specs.First.{sooner}
use Rattle.plcx_conditions.specs.Places.{placed_expression}
use Rattle.plcx_unit.specs.Pieces.{setting_of}
use Rattle.plcx_unit.proofs.Acting.{where_is}
use Rattle.plcx_unit.proofs.here.Here.condition.Goals as goal

pub returns : goal.returns
returns c =
    let s = setting_of c.args.self.now in
    c.sooner.ensures ∙ ap (sooner c.in_ok-one.one.broken) (c.value_broken-value.ensures s.unit) ∙ where_is s c.args.ty (placed_expression c.args.x.now) c.in_ok-one.one c.in_ok-one.ensures
