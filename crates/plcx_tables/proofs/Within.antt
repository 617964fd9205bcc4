-- Variables by their numbers.
use Rattle.std.proofs.Common.{◌≡◌, ℕ, zero, suc, ◌+◌, ◌≤◌, true, List, [], ◌∷◌, Some, map, subst, arith}
use Rattle.std.specs.Prelude.{slice_get, if◌then◌else◌}
use Rattle.std.specs.List.{sum_by}
use Rattle.std.proofs.lemmas.List.Sums.{sum_by-cons}
use Rattle.plcx_tables.specs.declared.placed.Placed.{Placed}
use Rattle.plcx_tables.specs.declared.variables.Declared.{Declared}
use Rattle.plcx_tables.specs.Telling.{shown}
use Rattle.plcx_tables.specs.Levels.{leaf_weight, memory_weight}
use Rattle.plcx_tables.specs.Placing.{placed_from}

-- a first leaf is no further than all leaves
pub placed_within : (leaves memories : List ℕ) (l m j : ℕ) (ds : List Declared) (i : ℕ) (p : Placed) → slice_get (placed_from leaves memories l m j ds) i ≡ Some p → p.leaf ≤ l + sum_by (leaf_weight true leaves) (map shown ds)
placed_within leaves memories l m j [] i p h = absurd (let no : ⊥ = cc in no)
placed_within leaves memories l m j (d ∷ ds) zero p h =
    let same : record { variable = d; leaf = l; memory = m; in_out = j } ≡ p = cc in
    subst (λ (q : Placed). q.leaf ≤ l + sum_by (leaf_weight true leaves) (map shown (d ∷ ds))) same (omega arith)
placed_within leaves memories l m j (d ∷ ds) (suc i) p h =
    let low = placed_within leaves memories (l + leaf_weight true leaves (shown d)) (m + memory_weight memories (shown d)) (j + (if d.in_out then 1 else 0)) ds i p h in
    let whole = sum_by-cons (leaf_weight true leaves) (shown d) (map shown ds) in
    omega arith
