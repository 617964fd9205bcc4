use Rattle.std.proofs.Common.{◌≡◌, ◌∙◌, ◌++◌, ◌*◌, ℤ, ap, arith, to_z, of_z}
use Rattle.std.specs.Prelude.{codes}
use Rattle.std.specs.Int.{w128}
use Rattle.std.proofs.lemmas.Int.{ints}
use Rattle.std.specs.Fmt.{decimal, signed_decimal}
use Rattle.plcx_bench.specs.Summary.{line}
use Rattle.plcx_bench.proofs.Made.{joined}
use Rattle.plcx_bench.proofs.summary.summary.Goals as goal

pub returns : goal.returns
returns c =
    let fits = c.ranges.diagram.sfits in
    let fits_too = c.ranges.text.sfits in
    let d : to_z w128 (of_z w128 c.args.diagram) ≡ c.args.diagram = omega (arith, ints) in
    let t : to_z w128 (of_z w128 c.args.text) ≡ c.args.text = omega (arith, ints) in
    joined c.new-bytes.result.items c.push_count.new.text.items c.push_count-2.new.text.items c.push_count-3.new.text.items c.push_sum.new.text.items c.push_sum-2.new.text.items
    (line (codes "networks") (decimal c.args.networks)) (line (codes "elements") (decimal (4 * c.args.networks))) (line (codes "scans") (decimal 10))
    (line (codes "diagram") (signed_decimal c.args.diagram)) (line (codes "text") (signed_decimal c.args.text))
    c.new-bytes.ensures.items c.in_ok-push_count.ensures c.in_ok-push_count-2.ensures
    (c.in_ok-push_count-3.ensures ∙ ap (λ i. c.push_count-2.new.text.items ++ line (codes "scans") (decimal i)) c.from.ensures)
    (c.in_ok-push_sum.ensures ∙ ap (λ (z : ℤ). c.push_count-3.new.text.items ++ line (codes "diagram") (signed_decimal z)) d)
    (c.in_ok-push_sum-2.ensures ∙ ap (λ (z : ℤ). c.push_sum.new.text.items ++ line (codes "text") (signed_decimal z)) t)
