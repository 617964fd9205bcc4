use Rattle.std.proofs.Common.{◌≡◌, ◌++◌, ℕ, List, Bor, map, drop}
use Rattle.plcx_leaves.proofs.laying.path_to.Given as goal

-- behind what is copied come the names that are left
abbrev pub invariant-loop-outer : goal.invariant-loop-outer
invariant-loop-outer l = l.names.items ++ map (λ (n : Bor (List ℕ)). n.now) (drop l.outer-index l.within) ≡ map (λ (n : Bor (List ℕ)). n.now) l.within
