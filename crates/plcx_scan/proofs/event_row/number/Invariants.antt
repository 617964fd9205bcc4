use Rattle.std.proofs.Common.{◌≡◌, ◌<◌, ◌^◌, true, drop}
use Rattle.std.specs.List.{list_all}
use Rattle.plcx_types.specs.Duration.{number}
use Rattle.plcx_types.specs.Numeral.{is_digit, number_from}
use Rattle.plcx_scan.proofs.event_row.number.Given as goal

-- what is left of the text completes the number
abbrev pub invariant-loop-byte : goal.invariant-loop-byte
invariant-loop-byte l = record {
  value : number_from 10 l.n (drop l.byte-index l.text) ≡ number l.text;
  below : l.n < 10 ^ l.byte-index;
  digits : list_all (is_digit 10) (drop l.byte-index l.text) ≡ true;
}
