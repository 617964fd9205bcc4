use Rattle.plcx_state.proofs.Storing.{opened_stored, kept_long}
use Rattle.plcx_state.proofs.Meaning.{opens_as}
use Rattle.std.proofs.Common.{refl}
use Rattle.plcx_state.proofs.store.Store.open.Goals as goal

pub begun-requires : goal.begun-requires
begun-requires c = rw (c.leaves.ensures.leaves, c.kept.ensures) (kept_long c.args.layout.now.leaves c.args.retained.now c.requires)

pub invariant_of-result : goal.invariant_of-result
invariant_of-result c =
    rw (c.in_ok-values.ensures, c.in_ok-memories.ensures, c.in_ok-starts.ensures, c.in_ok-memory_starts.ensures, c.leaves.ensures.leaves, c.leaves-2.ensures.leaves, c.kept.ensures, c.memories.ensures, c.memories-2.ensures)
    (opened_stored c.args.layout.now c.args.retained.now c.leaves.ensures.laid c.requires)

pub returns-clause-meaning : goal.returns-clause-meaning
returns-clause-meaning c = opens_as c.args.layout.now c.leaves.ensures.laid c.args.retained.now c.requires _ (rw (c.in_ok-values.ensures, c.leaves.ensures.leaves, c.kept.ensures) refl)
