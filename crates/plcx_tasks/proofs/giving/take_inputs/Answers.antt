use Rattle.std.proofs.Common.{◌∙◌, ◌<◌, length, arith}
use Rattle.plcx_tasks.specs.Steps.{IsGivenWithin}
use Rattle.plcx_tasks.proofs.Advancing.{set_length}
use Rattle.plcx_tasks.proofs.Putting.{input_taken}
use Rattle.plcx_tasks.proofs.Stepping.{item_of}
use Rattle.plcx_tasks.proofs.giving.take_inputs.Goals as goal

pub loop-input-preserved : goal.loop-input-preserved
loop-input-preserved c =
    let inv = c.loop-input.invariant in
    let long = inv.long in
    let low : c.input-item.result.instance < length c.args.pending.now.items = item_of (IsGivenWithin (length c.args.pending.now.items)) c.args.inputs.now c.loop-input.input-index c.input-item.result c.loop-input-test.true c.input-item.is c.requires in
    record {
      long = set_length c.loop-input.pending.items c.input-item.result.instance c.put.new.self ∙ inv.long;
      given = input_taken c.args.pending.now.items c.loop-input.pending.items c.args.inputs.now c.loop-input.input-index c.input-item.result c.index_mut.result.now c.put.new.self
          (omega (arith, low, long)) c.loop-input-test.true c.input-item.is c.index_mut.ensures.value c.in_ok-put.ensures inv.given;
    }
