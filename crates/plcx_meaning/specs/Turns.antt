-- How many turns are left of a budget.
use Rattle.std.specs.Prelude.{◌≤◌, ℕ}
use Rattle.plcx_meaning.specs.Base.{Outcome, Ended, Stopped, Stuck}

-- so many turns are left at most, however a piece of a scan comes out
abbrev pub LeavesAtMost : {G L : Type 0} → (G → ℕ) → ℕ → Outcome G L → Type 0
LeavesAtMost left n (Ended g l) = left g ≤ n
LeavesAtMost left n (Stopped s g) = left g ≤ n
LeavesAtMost left n Stuck = Unit {0}
