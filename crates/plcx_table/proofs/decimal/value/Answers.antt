use Rattle.plcx_table.proofs.Digits.{behind-step, behind-end, stays-large, next-is, next-small, fits-all}
use Rattle.plcx_table.proofs.decimal.value.Goals as goal

pub returns-in-None : goal.returns-in-None
returns-in-None c = stays-large c.loop-byte.value c.loop-byte.byte-index c.args.digits.now c.loop-byte-test.true c.loop-byte.invariant.0 (rw c.in-None.is at c.with_digit.ensures)

pub loop-byte-preserved : goal.loop-byte-preserved
loop-byte-preserved c =
    let given = rw c.in-Some.is at c.with_digit.ensures in
    let next = next-is _ _ _ given in
    (rw next (behind-step c.loop-byte.value c.loop-byte.byte-index c.args.digits.now _ c.loop-byte-test.true c.loop-byte.invariant.0), next-small _ _ given)

pub returns : goal.returns
returns c =
    let same = behind-end c.loop-byte.value c.loop-byte.byte-index c.args.digits.now _ c.loop-byte-test.false c.loop-byte.invariant.0 in
    rw (← same) (fits-all c.loop-byte.value c.loop-byte.invariant.1)
