use Rattle.std.proofs.Common.{◌≡◌, ◌≤◌, ◌+◌, length, ◌-◌}
use Rattle.plcx_read.specs.Reading as spec
use Rattle.plcx_read.proofs.statement.arguments.Given as goal

abbrev pub invariant-loop-turn : goal.invariant-loop-turn
invariant-loop-turn l =
    (spec.parted (spec.argument l.allowance) (length l.tokens + 1 - l._turn) l.found.items l.depth l.rest ≡ spec.list_of (spec.argument l.allowance) l.tokens)
    × (l.depth ≤ l.allowance)
