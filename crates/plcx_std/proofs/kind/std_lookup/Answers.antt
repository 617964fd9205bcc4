use Rattle.plcx_std.proofs.KindNames.{no_kind}
use Rattle.plcx_std.proofs.kind.std_lookup.Goals as goal

pub returns-clause-none : goal.returns-clause-none
returns-clause-none c = no_kind c.args.name.now c.kind_named.result c.kind_named.ensures
