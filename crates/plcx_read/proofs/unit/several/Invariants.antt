use Rattle.std.proofs.Common.{◌≡◌, ◌≤◌, ◌+◌, length, ◌-◌}
use Rattle.plcx_read.specs.Reading as spec
use Rattle.plcx_read.proofs.unit.several.Given as goal

abbrev pub invariant-loop-turn : goal.invariant-loop-turn
invariant-loop-turn l =
    (spec.several spec.begins_pou (spec.pou l.allowance) (length l.tokens + 1 - l._turn) l.found.items l.depth l.rest ≡ spec.all_of spec.begins_pou (spec.pou l.allowance) l.tokens)
    × (l.depth ≤ l.allowance)
