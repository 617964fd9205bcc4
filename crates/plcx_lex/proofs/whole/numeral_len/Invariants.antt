use Rattle.plcx_types.specs.Name.{in_lower_case}
use Rattle.plcx_lex.proofs.NumeralScan.{Scanned}
use Rattle.plcx_lex.proofs.whole.numeral_len.Given as goal

abbrev pub invariant-loop-i : goal.invariant-loop-i
invariant-loop-i l = Scanned l.base (in_lower_case l.text) l.i l.n l.seen l.best
