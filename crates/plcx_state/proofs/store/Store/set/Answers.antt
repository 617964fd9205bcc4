use Rattle.std.proofs.Common.{sym, subst}
use Rattle.plcx_state.specs.Stores.{Stored, stored, HasValue}
use Rattle.plcx_state.proofs.Storing.{value_set}
use Rattle.plcx_state.proofs.store.Store.set.Goals as goal

pub invariant_of-self : goal.invariant_of-self
invariant_of-self c =
    let s = stored c.self.inside.values.items c.self.inside.memories.items c.self.inside.starts.items c.self.inside.memory_starts.items in
    value_set s c.args.leaf c.args.v c.self.invariant (subst (λ (x : Stored). HasValue x.values c.args.leaf c.args.v.ty) (sym c.self.view_is) c.requires)
