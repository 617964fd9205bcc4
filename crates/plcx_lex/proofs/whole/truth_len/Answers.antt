use Rattle.std.proofs.Common.{sym, subst, ℕ, Option}
use Rattle.plcx_types.specs.Name.{in_lower_case}
use Rattle.plcx_lex.specs.Scan.{Finds, Truth}
use Rattle.plcx_lex.proofs.WholeForms.{truth_finds}
use Rattle.plcx_lex.proofs.whole.truth_len.Goals as goal

pub returns : goal.returns
returns c = subst (λ (found : Option ℕ). Finds Truth (in_lower_case c.args.text.now) found) (sym c.longer.ensures) (truth_finds (in_lower_case c.args.text.now) c.word_len.result c.word_len-2.result c.word_len.ensures c.word_len-2.ensures)
