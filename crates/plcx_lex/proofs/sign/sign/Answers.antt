use Rattle.plcx_lex.proofs.SignScan.{first_at}
use Rattle.plcx_lex.proofs.sign.sign.Goals as goal

pub returns-in_ok-terminal-in-len2-up : goal.returns-in_ok-terminal-in-len2-up
returns-in_ok-terminal-in-len2-up c = first_at c.args.text.now c.in_ok-terminal-in-len2-up.terminal c.in-len2-up.len_at_least c.in_default.ensures c.in_ok-terminal-in-len2-up.ensures.0 c.in_ok-terminal-in-len2-up.ensures.1
