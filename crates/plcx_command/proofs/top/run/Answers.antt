use Rattle.std.proofs.Common.{inl, inr, refl}
use Rattle.plcx_command.specs.Answer.{output, refusal, memory_answer}
use Rattle.plcx_command.proofs.top.run.Goals as goal

pub returns-in-Ok-Output : goal.returns-in-Ok-Output
returns-in-Ok-Output g c = record {
  ends = record {
    answer = output c.in-Ok-Output.bytes.items;
    said = inl (rw c.in-Ok-Output.field-0-is at c.in-Ok-Output.ensures.says);
    written = rw c.deref.ensures.value at c.put.ensures;
    heard = rw c.in-Ok-Output.field-0-is at c.in-Ok-Output.ensures.heard;
  };
  untouched = c.in-Ok-Output.ensures.untouched;
}

pub returns-in-Ok-Refusal : goal.returns-in-Ok-Refusal
returns-in-Ok-Refusal g c = record {
  ends = record {
    answer = refusal c.in-Ok-Refusal.why c.in-Ok-Refusal.line.items;
    said = inl (rw c.in-Ok-Refusal.field-0-is at c.in-Ok-Refusal.ensures.says);
    written = rw c.deref-in-Ok-Refusal.ensures.value at c.refuse.ensures;
    heard = rw c.in-Ok-Refusal.field-0-is at c.in-Ok-Refusal.ensures.heard;
  };
  untouched = c.in-Ok-Refusal.ensures.untouched;
}

pub returns-in-Err : goal.returns-in-Err
returns-in-Err g c = record {
  ends = record {
    answer = memory_answer;
    said = inr refl;
    written = c.refuse-in-Err.ensures;
    heard = c.in-Err.ensures.heard;
  };
  untouched = c.in-Err.ensures.untouched;
}
