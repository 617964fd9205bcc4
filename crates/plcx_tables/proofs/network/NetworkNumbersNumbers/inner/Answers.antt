use Rattle.std.proofs.Common.{arith, sym}
use Rattle.plcx_tables.proofs.Found.{found_at}
use Rattle.plcx_tables.proofs.network.NetworkNumbersNumbers.inner.Goals as goal

pub overflow_add-result : goal.overflow_add-result
overflow_add-result c =
    let at = found_at c.args.self.now.own.now c.args.instance.now c.in-Some.placed (sym c.in-Some.ensures) in
    let low = c.within-offset.ensures.low in
    let fits = c.args.self.now.fits at.0 c.in-Some.placed at.1 in
    omega arith

pub overflow_cast-result-in-Some : goal.overflow_cast-result-in-Some
overflow_cast-result-in-Some c =
    let at = found_at c.args.self.now.own.now c.args.instance.now c.in-Some.placed (sym c.in-Some.ensures) in
    let low = c.within-offset.ensures.low in
    let fits = c.args.self.now.fits at.0 c.in-Some.placed at.1 in
    omega arith
