use Rattle.std.proofs.Common.{◌≡◌, ◌≤◌, ◌+◌, length, ◌-◌, ◌*◌}
use Rattle.plcx_read.specs.Reading as spec
use Rattle.plcx_read.proofs.statement.+statement.Given as goal

abbrev pub decreases-arm : goal.decreases-arm
decreases-arm l = 6 * l.allowance + 2

abbrev pub decreases-arms : goal.decreases-arms
decreases-arms l = 6 * l.allowance + 3

abbrev pub decreases-conditional : goal.decreases-conditional
decreases-conditional l = 6 * l.allowance + 4

abbrev pub decreases-repeated : goal.decreases-repeated
decreases-repeated l = 6 * l.allowance + 4

abbrev pub decreases-selected : goal.decreases-selected
decreases-selected l = 6 * l.allowance + 4

abbrev pub decreases-statement : goal.decreases-statement
decreases-statement l = 6 * l.allowance

abbrev pub decreases-statement_of : goal.decreases-statement_of
decreases-statement_of l = 6 * l.allowance + 5

abbrev pub decreases-statements : goal.decreases-statements
decreases-statements l = 6 * l.allowance + 1

abbrev pub invariant-arms-loop-turn : goal.invariant-arms-loop-turn
invariant-arms-loop-turn l =
    (spec.several spec.is_digits (spec.arm (spec.statements l.allowance)) (length l.tokens + 1 - l._turn) l.found.items l.depth l.rest ≡ spec.all_of spec.is_digits (spec.arm (spec.statements l.allowance)) l.tokens)
    × (l.depth ≤ l.allowance)

abbrev pub invariant-statements-loop-turn : goal.invariant-statements-loop-turn
invariant-statements-loop-turn l =
    (spec.several spec.begins_stmt (spec.statement l.allowance) (length l.tokens + 1 - l._turn) l.found.items l.depth l.rest ≡ spec.statements l.allowance l.tokens)
    × (l.depth ≤ l.allowance)
