use Rattle.std.proofs.Common.{◌≡◌, ◌≤◌, drop}
use Rattle.plcx_types.specs.Name.{in_lower_case}
use Rattle.plcx_types.specs.Numeral.{greatest}
use Rattle.plcx_types.specs.Reading.{numeral_from, numeral}
use Rattle.plcx_types.proofs.numeral.numeral.Given as goal

-- what is left of the text completes the number
abbrev pub invariant-loop-byte : goal.invariant-loop-byte
invariant-loop-byte l = record {
  value : numeral_from l.base l.n l.seen (in_lower_case (drop l.byte-index l.text)) ≡ numeral l.base (in_lower_case l.text);
  bounded : l.n ≤ greatest;
}
