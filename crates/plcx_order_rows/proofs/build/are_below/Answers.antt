use Rattle.std.proofs.Common.{◌≡◌, ◌<◌, ◌≤◌, ◌-◌, length, get_or, sym, subst, arith}
use Rattle.std.proofs.lemmas.List.{get_or_default}
use Rattle.plcx_types.specs.Lists.{Each}
use Rattle.plcx_model.specs.declared.source.Source.{Source}
use Rattle.std.proofs.Common.{drop, ◌+◌}
use Rattle.plcx_order_rows.proofs.Steps.{each_more}
use Rattle.plcx_order_rows.proofs.build.are_below.Goals as goal

pub loop-k-preserved : goal.loop-k-preserved
loop-k-preserved c =
    let P = λ (s : Source). s.element < c.args.count in
    let xs = c.args.sources.now in
    let k = c.loop-k.k - 1 in
    let none : Source = record { element = 0; pin = 0 } in
    let x : Source = get_or xs k none in
    let low : k < length xs = omega (arith, c.loop-k-test.true, c.loop-k.invariant.bound) in
    let next : k + 1 ≡ c.loop-k.k = omega (arith, c.loop-k-test.true) in
    record {
      bound = omega (arith, c.loop-k.invariant.bound);
      each = each_more P xs k x low (get_or_default xs k none x low) (omega (arith, c.if-sources-k.false)) (subst (λ j. Each P (drop j xs)) (sym next) c.loop-k.invariant.each);
    }
