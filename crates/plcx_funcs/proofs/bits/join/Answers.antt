use Rattle.plcx_funcs.proofs.Kept.{same_behind}
use Rattle.plcx_funcs.proofs.bits.join.Goals as goal

pub joined_from-requires-clause-same : goal.joined_from-requires-clause-same
joined_from-requires-clause-same c = same_behind c.args.ty c.args.args.now c.requires.same
