use Rattle.plcx_tables.proofs.Drawn.{drawn_named}
use Rattle.plcx_tables.proofs.variables.pous_by_name.Goals as goal

pub returns : goal.returns
returns c = λ pous. drawn_named pous c.args.drawings.now (record { all = c.in_ok-all.all; blocks = c.in_ok-blocks.blocks }) c.in_ok-all.ensures c.in_ok-blocks.ensures
