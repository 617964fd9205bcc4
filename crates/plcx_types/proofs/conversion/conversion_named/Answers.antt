use Rattle.plcx_types.proofs.Conversions.{no_conversion}
use Rattle.plcx_types.proofs.conversion.conversion_named.Goals as goal

pub returns-clause-none : goal.returns-clause-none
returns-clause-none c = no_conversion c.args.word.now c.conversion_of.result c.conversion_of.ensures
