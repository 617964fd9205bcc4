use Rattle.std.proofs.Common.{◌≡◌, ◌∙◌, ap, nat_abs, arith, subst, pos, to_z, of_z, w64}
use Rattle.std.proofs.lemmas.Int.{ints}
use Rattle.plcx_scan.specs.Sides.{BringsAll}
use Rattle.plcx_bench.specs.Summary.{turns}
use Rattle.plcx_bench.proofs.Scans.{scans, brings_next}
use Rattle.plcx_bench.proofs.scanning.scan_ten.Goals as goal

pub loop-time-preserved : goal.loop-time-preserved
loop-time-preserved g c =
    let inv = c.loop-time.invariant in
    let after = c.scan.ensures in
    let is = c.from.ensures in
    let time : to_z w64 (of_z w64 c.from.result) ≡ pos c.loop-time.time = omega (arith, ints) in
    let last : g.S.Side.last c.scan.new.self ≡ c.loop-time.time = after.time ∙ ap nat_abs time in
    record {
      last = omega arith;
      machine = after.machine ∙ inv.machine;
      meaning = brings_next (g.S.Side.machine c.args.side.now) (g.S.Side.machine c.loop-time.side) inv.machine c.loop-time.time (g.S.Side.laid c.loop-time.side).leaves
          (to_z w64 (of_z w64 c.from.result)) time
          (g.S.Side.stands_for c.args.side.now) (g.S.Side.stands_for c.loop-time.side) (g.S.Side.stands_for c.scan.new.self) inv.meaning after.meaning;
    }

pub returns-clause-meaning : goal.returns-clause-meaning
returns-clause-meaning g c =
    let upper = c.loop-time.auto.time-end in
    let over = c.loop-time-test.false in
    let ten : c.loop-time.time ≡ 10 = omega arith in
    subst (λ i. BringsAll (g.S.Side.machine c.args.side.now) turns (scans i) (g.S.Side.stands_for c.args.side.now) (g.S.Side.stands_for c.loop-time.side)) ten c.loop-time.invariant.meaning
