use Rattle.std.proofs.Common.{◌≡◌, ◌<◌, ◌^◌, drop}
use Rattle.plcx_table.specs.Number.{digits_behind, digits_value}
use Rattle.plcx_table.proofs.decimal.value.Given as goal

-- the digits that are left, behind the number so far
abbrev pub invariant-loop-byte : goal.invariant-loop-byte
invariant-loop-byte l = (digits_behind l.value (drop l.byte-index l.digits) ≡ digits_value l.digits) × (l.value < 2 ^ 64)
