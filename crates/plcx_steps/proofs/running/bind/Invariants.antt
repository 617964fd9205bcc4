use Rattle.std.proofs.Common.{◌≡◌, ℕ, ◌<◌, length, get_or}
use Rattle.plcx_steps.specs.declared.program.Operand.TheVariants.{Leaf}
use Rattle.plcx_steps.specs.Numbered.{leaf_at}
use Rattle.plcx_steps.proofs.running.bind.Given as goal

abbrev pub invariant-loop-j : goal.invariant-loop-j
invariant-loop-j l = (k : ℕ) → k < l.j → (get_or l.bound k 0 ≡ leaf_at l.spot.at l.spot.in_outs.now (get_or l.bindings k (Leaf 0))) × (get_or l.bound k 0 < length l.store.values)
