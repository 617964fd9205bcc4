use Rattle.std.proofs.Common.{◌∙◌}
use Rattle.plcx_types.proofs.Conversions.{listed}
use Rattle.plcx_types.proofs.reserved.is_conversion.Goals as goal

pub returns : goal.returns
returns c = c.is_some.ensures ∙ listed c.args.word.now c.conversion_named.result c.conversion_named.ensures.some c.conversion_named.ensures.none
