use Rattle.std.proofs.Common.{◌≡◌, ◌≤◌, ◌+◌, ◌*◌, ℕ, Option, Some, None, length, arith, sym}
use Rattle.std.specs.Option.{IfSome, unwrap_or}
use Rattle.plcx_types.proofs.duration.+parts.Goals as goal

sum_bounded : (sum others : Option ℕ) (most n m : ℕ) → m ≡ n + 1 → IfSome sum (λ s. s ≤ most + unwrap_or others 0) → IfSome others (λ ms. ms ≤ n * most) → most + n * most ≡ m * most → IfSome sum (λ s. s ≤ m * most)
sum_bounded None others most n m is bounded rest more = tt
sum_bounded (Some s) None most n m is bounded rest more = omega arith
sum_bounded (Some s) (Some ms) most n m is bounded rest more = omega arith

pub returns-else-is_empty-clause-bounded : goal.returns-else-is_empty-clause-bounded
returns-else-is_empty-clause-bounded t c =
    let longer : length c.args.units.now ≡ length c.in_ok-unit.others.now + 1 = sym c.in_ok-unit.ensures.cases.1 in
    sum_bounded c.with_others.result c.parts-others.result 17280000000000000000000000000000000000 (length c.in_ok-unit.others.now) (length c.args.units.now) longer c.with_others.ensures.bounded c.parts-others.ensures.bounded (omega arith)
