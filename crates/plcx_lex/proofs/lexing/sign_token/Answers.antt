use Rattle.plcx_lex.proofs.TokenScan.{sign_told}
use Rattle.plcx_lex.proofs.lexing.sign_token.Goals as goal

pub returns : goal.returns
returns c = sign_told c.args.text.now c.sign.result c.requires.letter c.requires.digit c.requires.percent c.sign.ensures
