use Rattle.std.proofs.Common.{◌≡◌, ◌≤◌, ◌+◌, length, ◌-◌, ◌*◌}
use Rattle.plcx_read.specs.Reading as spec
use Rattle.plcx_read.proofs.expression.+expr.Given as goal

abbrev pub decreases-arguments : goal.decreases-arguments
decreases-arguments l = 6 * l.allowance + 1

abbrev pub decreases-bracketed : goal.decreases-bracketed
decreases-bracketed l = 6 * l.allowance + 1

abbrev pub decreases-call : goal.decreases-call
decreases-call l = 6 * l.allowance + 2

abbrev pub decreases-climb : goal.decreases-climb
decreases-climb l = 6 * l.allowance + 1

abbrev pub decreases-expr : goal.decreases-expr
decreases-expr l = 6 * l.allowance

abbrev pub decreases-named : goal.decreases-named
decreases-named l = 6 * l.allowance + 3

abbrev pub decreases-negated : goal.decreases-negated
decreases-negated l = 6 * l.allowance + 1

abbrev pub decreases-operand : goal.decreases-operand
decreases-operand l = 6 * l.allowance + 5

abbrev pub invariant-arguments-loop-turn : goal.invariant-arguments-loop-turn
invariant-arguments-loop-turn l =
    (spec.parted (spec.expr l.allowance 0) (length l.tokens + 1 - l._turn) l.found.items l.depth l.rest ≡ spec.list_of (spec.expr l.allowance 0) l.tokens)
    × (l.depth ≤ l.allowance)

abbrev pub invariant-climb-loop-turn : goal.invariant-climb-loop-turn
invariant-climb-loop-turn l =
    (spec.climb l.allowance (spec.expr l.allowance) (l.allowance + 1 - l._turn) l.least l.left l.depth l.rest
    ≡ spec.climb l.allowance (spec.expr l.allowance) (l.allowance + 1) l.least l.fn.first l.height l.tokens)
    × (l.depth ≤ l.allowance + 1)
