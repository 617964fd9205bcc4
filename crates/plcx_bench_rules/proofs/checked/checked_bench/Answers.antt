use Rattle.std.proofs.Common.{◌≡◌, Some, None, subst}
use Rattle.plcx_check.specs.Checks.{Refuses}
use Rattle.plcx_bench_rules.proofs.checked.checked_bench.Goals as goal

pub unreachable-requires : goal.unreachable-requires
unreachable-requires c =
    let project = c.args.project in
    let bench = c.requires.bench in
    let refused = subst (Refuses project) c.in-Err-Broken.field-0-is (c.in-Err-Broken.ensures) in
    let same : Some c.in-Err-Broken.field-0-1 ≡ None = c.one_check_verdict.ensures project _ _ refused.1 (c.bench_breaks_no_rule.ensures bench.0 project bench.1 bench.2) in
    cc
