use Rattle.std.proofs.Common.{◌≡◌, take}
use Rattle.plcx_steps.specs.Typed.{SameTypes}
use Rattle.plcx_stored.specs.Between.{with_inputs}
use Rattle.plcx_frames.proofs.preparing.put_inputs.Given as goal

-- the inputs so far are set, and each value has the type that it had
abbrev pub invariant-loop-input : goal.invariant-loop-input
invariant-loop-input l = record {
  set : l.store ≡ record l.fn.store { values = with_inputs (take l.input-index l.inputs) l.fn.store.values };
  same : SameTypes l.fn.store.values l.store.values;
}
