use Rattle.std.proofs.Common.{◌≤◌, length, take, arith, rules}
use Rattle.plcx_table.proofs.Digits.{six-bound}
use Rattle.plcx_table.proofs.decimal.millionths.Goals as goal

pub returns-clause-bound : goal.returns-clause-bound
returns-clause-bound c =
    let few : length (take c.min.result c.args.fraction.now) ≤ 6 = search (rules, arith) in
    rw c.pow.ensures (six-bound c.small.result _ c.small.ensures.bound few)
