use Rattle.std.proofs.Common.{◌≡◌, ◌+◌, length, ◌-◌}
use Rattle.plcx_read.specs.Reading as spec
use Rattle.plcx_read.proofs.declaration.decls.Given as goal

abbrev pub invariant-loop-turn : goal.invariant-loop-turn
invariant-loop-turn l = spec.several spec.begins_decl spec.decl (length l.tokens + 1 - l._turn) l.found.items 0 l.rest ≡ spec.all_of spec.begins_decl spec.decl l.tokens
