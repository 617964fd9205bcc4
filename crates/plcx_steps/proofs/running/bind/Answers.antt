use Rattle.std.proofs.Common.{ℕ, ◌<◌, length, arith}
use Rattle.plcx_steps.specs.declared.program.Operand.TheVariants.{Leaf}
use Rattle.plcx_steps.specs.Numbered.{leaf_at}
use Rattle.plcx_steps.proofs.Places.{map_by}
use Rattle.plcx_steps.proofs.running.bind.Goals as goal

below_end : (c : goal.After-loop-j) (k : ℕ) → k < length c.loop-j.bound → k < c.loop-j.j
below_end c k h = let b = c.loop-j.auto.bound in let same = c.requires.same in let past = c.loop-j-test.false in omega arith

pub returns-clause-binds : goal.returns-clause-binds
returns-clause-binds c =
    let b = c.loop-j.auto.bound in
    let same = c.requires.same in
    map_by (leaf_at c.args.spot.now.at c.args.spot.now.in_outs.now) c.loop-j.bound c.args.bindings.now 0 (Leaf 0) (omega arith) (λ k h. (c.loop-j.invariant k (below_end c k h)).0)

pub returns-clause-within : goal.returns-clause-within
returns-clause-within c = λ k h. (c.loop-j.invariant k (below_end c k h)).1
