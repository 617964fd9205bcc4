use Rattle.std.proofs.Common.{arith}
use Rattle.plcx_state.proofs.Storing.{store_long}
use Rattle.plcx_stored.proofs.Types.{values_typed, memories_typed, memories_long}
use Rattle.plcx_stored.proofs.laws.store_is_typed.Goals as goal

pub returns : goal.returns
returns c = λ project p l laid is s stored of.
    let values = store_long l s stored of in
    let memories = memories_long l s stored of in
    let few_values = is.few_leaves in
    let few_memories = is.few_memories in
    (values_typed project p l laid s stored of is, memories_typed project p l laid s stored of, values, memories, omega arith, omega arith)
