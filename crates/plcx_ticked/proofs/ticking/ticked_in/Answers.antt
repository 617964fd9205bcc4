use Rattle.std.proofs.Common.{sym, subst}
use Rattle.plcx_ticked.specs.Files.{IsWrongRow, wrong}
use Rattle.plcx_ticked.proofs.ticking.ticked_in.Goals as goal

pub returns-in_ok-text_of-in-Ok-clause-ok : goal.returns-in_ok-text_of-in-Ok-clause-ok
returns-in_ok-text_of-in-Ok-clause-ok g c = λ told loaded. record {
  events = c.in-Ok.events.items;
  tells = record { bytes = c.args.bytes.now; loaded = loaded; stands = c.in-Ok.ensures.ok };
  has = rw c.deref.ensures.value at c.in_ok-text_of-in-Ok.ensures;
}

pub returns-in-Err-Row-clause-err : goal.returns-in-Err-Row-clause-err
returns-in-Err-Row-clause-err g c = λ told loaded.
    let why = rw c.in-Err-Row.field-0-is at c.in-Err-Row.ensures.err in
    subst (IsWrongRow told c.args.plan.now c.args.layouts.now) (sym c.in-Err-Row.row-is) (wrong c.args.bytes.now loaded why)
