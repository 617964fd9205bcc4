use Rattle.std.proofs.Common.{◌≡◌, length, true, arith, rules}
use Rattle.plcx_table.specs.Number.{is_decimal}
use Rattle.plcx_table.proofs.Digits.{decimal-parts, whole-bound}
use Rattle.plcx_table.proofs.decimal.magnitude.Goals as goal

pub small-requires-clause-few : goal.small-requires-clause-few
small-requires-clause-few c =
    let decimal : is_decimal c.args.text.now ≡ true = search rules in
    rw c.whole.ensures.value (decimal-parts c.args.text.now decimal).0

pub overflow_mul-result : goal.overflow_mul-result
overflow_mul-result c =
    let decimal : is_decimal c.args.text.now ≡ true = search rules in
    omega (arith, whole-bound c.small.result (length c.whole.result.now) c.small.ensures.bound (rw c.whole.ensures.value (decimal-parts c.args.text.now decimal).0))

pub millionths-requires : goal.millionths-requires
millionths-requires c =
    let decimal : is_decimal c.args.text.now ≡ true = search rules in
    rw c.fraction.ensures (decimal-parts c.args.text.now decimal).1

pub overflow_add-result : goal.overflow_add-result
overflow_add-result c =
    let decimal : is_decimal c.args.text.now ≡ true = search rules in
    omega (arith, whole-bound c.small.result (length c.whole.result.now) c.small.ensures.bound (rw c.whole.ensures.value (decimal-parts c.args.text.now decimal).0))

pub returns-clause-bound : goal.returns-clause-bound
returns-clause-bound c =
    let decimal : is_decimal c.args.text.now ≡ true = search rules in
    omega (arith, whole-bound c.small.result (length c.whole.result.now) c.small.ensures.bound (rw c.whole.ensures.value (decimal-parts c.args.text.now decimal).0))
