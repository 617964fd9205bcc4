use Rattle.std.proofs.Common.{◌+◌, ℕ, Some, None, subst}
use Rattle.plcx_types.specs.Name.{in_lower_case}
use Rattle.plcx_lex.specs.Scan.{LongestOf, After, Numeral}
use Rattle.plcx_lex.proofs.Finding.{after_behind, not_behind}
use Rattle.plcx_lex.proofs.NumeralScan.{folded_length}
use Rattle.plcx_lex.proofs.whole.based_len.Goals as goal

pub returns-in-None : goal.returns-in-None
returns-in-None c = not_behind (Numeral c.args.base) (in_lower_case c.args.word.now) (in_lower_case c.args.text.now) c.in-None.ensures

pub returns-in-None-numeral_len : goal.returns-in-None-numeral_len
returns-in-None-numeral_len c = after_behind (Numeral c.args.base) (in_lower_case c.args.word.now) (in_lower_case c.args.text.now) (in_lower_case c.in-Some.rest.now) None c.in-Some.ensures c.in-None-numeral_len.ensures

pub returns-in-Some-numeral_len : goal.returns-in-Some-numeral_len
returns-in-Some-numeral_len c =
    subst (λ (n : ℕ). LongestOf (After (in_lower_case c.args.word.now) (Numeral c.args.base)) (in_lower_case c.args.text.now) (n + c.in-Some-numeral_len.n)) (folded_length c.args.word.now)
    (after_behind (Numeral c.args.base) (in_lower_case c.args.word.now) (in_lower_case c.args.text.now) (in_lower_case c.in-Some.rest.now) (Some c.in-Some-numeral_len.n) c.in-Some.ensures c.in-Some-numeral_len.ensures)
