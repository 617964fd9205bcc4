use Rattle.std.proofs.Common.{arith}
use Rattle.plcx_state.proofs.Storing.{store_long}
use Rattle.plcx_text_stored.proofs.Types.{values_typed, nothing_else}
use Rattle.plcx_text_stored.proofs.laws.store_is_typed.Goals as goal

pub returns : goal.returns
returns c = λ unit p l laid is s stored of.
    let values = store_long l s stored of in
    let few_values = is.few_leaves in
    (values_typed unit p l laid s stored of is, nothing_else unit p l laid s stored of, values, omega arith)
