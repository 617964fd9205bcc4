use Rattle.std.proofs.Common.{◌≡◌, ◌<◌, ◌^◌, drop, true}
use Rattle.std.specs.List.{list_all}
use Rattle.plcx_table.specs.Number.{is_digit, digits_behind, digits_value}
use Rattle.plcx_table.proofs.decimal.small.Given as goal

-- the digits that are left, behind the number so far
abbrev pub invariant-loop-byte : goal.invariant-loop-byte
invariant-loop-byte l = record {
  value : digits_behind l.value (drop l.byte-index l.digits) ≡ digits_value l.digits;
  rest : list_all is_digit (drop l.byte-index l.digits) ≡ true;
  bound : l.value < 10 ^ l.byte-index;
}
