use Rattle.plcx_lex.proofs.MadeLaws.{one_tokens}
use Rattle.plcx_lex.proofs.law.one_list.Goals as goal

pub returns-clause-tokens : goal.returns-clause-tokens
returns-clause-tokens c = one_tokens
