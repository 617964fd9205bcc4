use Rattle.plcx_funcs.proofs.Found.{no_function}
use Rattle.plcx_funcs.proofs.name.lookup.Goals as goal

pub returns-clause-none : goal.returns-clause-none
returns-clause-none c = no_function c.args.name.now c.function_named.result c.function_named.ensures
