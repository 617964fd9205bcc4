use Rattle.std.proofs.Common.{◌≡◌, ◌∙◌, length, arith, ap, to_z, of_z}
use Rattle.std.specs.Int.{w128}
use Rattle.std.proofs.lemmas.Int.{ints}
use Rattle.plcx_state.specs.Layouts.{Laid}
use Rattle.plcx_state.proofs.Pairing.{long}
use Rattle.plcx_scan.specs.Sides.{HasTypeOf}
use Rattle.plcx_bench.proofs.Sums.{shown_behind}
use Rattle.plcx_bench.proofs.scanning.sum_shown.Goals as goal

pub sum_in-requires-clause-long : goal.sum_in-requires-clause-long
sum_in-requires-clause-long g c =
    ap length (c.leaves.ensures.leaves ∙ ap (λ (l : Laid). l.leaves) c.layout.ensures.laid) ∙ long HasTypeOf _ _ c.values.ensures.typed

pub returns : goal.returns
returns g c = λ h stands.
    let same : to_z w128 (of_z w128 c.sum_in.result) ≡ c.sum_in.result = omega (arith, ints) in
    same ∙ c.sum_in.ensures
    ∙ shown_behind (g.S.Side.machine c.args.side.now) h c.leaves.result.now (g.S.Side.laid c.args.side.now).leaves c.values.result.now
    (c.leaves.ensures.leaves ∙ ap (λ (l : Laid). l.leaves) c.layout.ensures.laid) c.layout.ensures.meaning (c.values.ensures.meaning h stands)
