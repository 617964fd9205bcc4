use Rattle.plcx_state.proofs.Storing.{store_long}
use Rattle.plcx_state.proofs.lines.print_retained.Goals as goal

pub all_lines-requires : goal.all_lines-requires
all_lines-requires c = rw (c.leaves.ensures.leaves, c.values.ensures.values) (store_long c.args.layout.now c.args.store.now c.values.ensures.stored c.requires)
