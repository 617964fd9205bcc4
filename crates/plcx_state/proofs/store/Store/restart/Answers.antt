use Rattle.plcx_state.specs.Stores.{StaysTyped, stored}
use Rattle.plcx_state.proofs.Pairing.{long}
use Rattle.plcx_state.proofs.Storing.{restarted_stored}
use Rattle.plcx_state.proofs.store.Store.restart.Goals as goal

pub all_again-requires : goal.all_again-requires
all_again-requires c = rw c.deref.ensures.value (long StaysTyped c.self.inside.starts.items c.self.inside.values.items c.self.invariant.values)

pub all_again-requires-2 : goal.all_again-requires-2
all_again-requires-2 c = rw c.deref-2.ensures.value (long StaysTyped c.self.inside.memory_starts.items c.self.inside.memories.items c.self.invariant.memories)

pub invariant_of-self : goal.invariant_of-self
invariant_of-self c =
    let s = stored c.self.inside.values.items c.self.inside.memories.items c.self.inside.starts.items c.self.inside.memory_starts.items in
    rw (c.all_again.ensures, c.all_again-2.ensures, c.deref.ensures.value, c.deref-2.ensures.value) (restarted_stored c.args.keeps s c.self.invariant)
