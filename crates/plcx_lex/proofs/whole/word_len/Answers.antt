use Rattle.std.proofs.Common.{◌≡◌, ℕ, List, subst}
use Rattle.plcx_types.specs.Name.{in_lower_case}
use Rattle.plcx_lex.specs.Scan.{LongestOf}
use Rattle.plcx_lex.proofs.Finding.{word_here, not_word}
use Rattle.plcx_lex.proofs.NumeralScan.{folded_length}
use Rattle.plcx_lex.proofs.whole.word_len.Goals as goal

pub returns-in-None : goal.returns-in-None
returns-in-None c = not_word (in_lower_case c.args.word.now) (in_lower_case c.args.text.now) c.in-None.ensures

pub returns-in-Some : goal.returns-in-Some
returns-in-Some c =
    subst (λ (n : ℕ). LongestOf (λ (front : List ℕ). front ≡ in_lower_case c.args.word.now) (in_lower_case c.args.text.now) n) (folded_length c.args.word.now)
    (word_here (in_lower_case c.args.word.now) (in_lower_case c.args.text.now) (in_lower_case c.in-Some.field-0.now) c.in-Some.ensures)
