use Rattle.std.proofs.Common.{sym, ◌∙◌}
use Rattle.plcx_lex.proofs.WordTable.{told_word, untold_word}
use Rattle.plcx_lex.proofs.terminal.word_terminal.Goals as goal

pub returns-in-Some : goal.returns-in-Some
returns-in-Some c = told_word c.args.word.now c.in-Some.terminal (sym c.keyword.ensures ∙ c.in-Some.is)

pub returns-in-None : goal.returns-in-None
returns-in-None c = untold_word c.args.word.now c.requires (sym c.keyword.ensures ∙ c.in-None.is)
