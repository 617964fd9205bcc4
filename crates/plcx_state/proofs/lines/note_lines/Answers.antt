use Rattle.std.proofs.Common.{refl, ◌∙◌, arith}
use Rattle.plcx_state.proofs.Reading.{item_more, item_wrong}
use Rattle.plcx_state.proofs.lines.note_lines.Goals as goal

pub loop-place-preserved : goal.loop-place-preserved
loop-place-preserved c = record {
  goes = item_more c.args.table.now c.requires c.args.lines.now c.loop-place.place _ _ _ (omega arith) c.loop-place.invariant.goes (rw c.if-not-went.false at c.in_ok-went.ensures.noted);
  long = c.in_ok-went.ensures.long ∙ c.loop-place.invariant.long;
}

pub returns-then-not-went-clause-err : goal.returns-then-not-went-clause-err
returns-then-not-went-clause-err c =
    (c.loop-place.place, refl, item_wrong c.args.table.now c.requires c.args.lines.now c.loop-place.place _ _ (omega arith) c.loop-place.invariant.goes (rw c.if-not-went.true at c.in_ok-went.ensures.noted))
