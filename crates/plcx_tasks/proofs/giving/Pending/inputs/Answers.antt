use Rattle.std.proofs.Common.{◌<◌, ◌++◌, ◌∙◌, List, length, sym, ap, ap₂, arith}
use Rattle.plcx_scan.specs.declared.event.Input.{Input}
use Rattle.plcx_tasks.specs.Steps.{entry_inputs}
use Rattle.plcx_tasks.proofs.Putting.{entry_more}
use Rattle.plcx_tasks.proofs.giving.Pending.inputs.Goals as goal

pub loop-place-preserved : goal.loop-place-preserved
loop-place-preserved c =
    let test = c.loop-place-test.true in
    let long = c.len-place-end.ensures in
    let lt : c.loop-place.place < length c.as_slice-entries.result = omega (arith, test, long) in
    c.in_ok-push_entry.ensures ∙ ap₂ (λ (a b : List Input). a ++ b) c.loop-place.invariant (ap entry_inputs c.get_index.ensures.entry) ∙ sym (entry_more c.as_slice-entries.result c.loop-place.place lt)
