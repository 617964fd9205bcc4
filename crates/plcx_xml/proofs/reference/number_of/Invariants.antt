use Rattle.std.proofs.Common.{◌≡◌, take, true, nat_lt}
use Rattle.std.specs.List.{list_all}
use Rattle.std.specs.Char.{digit_value}
use Rattle.plcx_xml.specs.Reference.{number}
use Rattle.plcx_xml.proofs.reference.number_of.Given as goal

abbrev pub invariant-loop-byte : goal.invariant-loop-byte
invariant-loop-byte l = record {
  digits : list_all (λ d. nat_lt (digit_value d) l.base) (take l.byte-index l.digits) ≡ true;
  number : l.number ≡ number l.base (take l.byte-index l.digits);
}
