use Rattle.std.proofs.Common.{refl}
use Rattle.plcx_lex.proofs.TokenScan.{digits_found}
use Rattle.plcx_lex.proofs.lexing.digits_token.Goals as goal

pub returns : goal.returns
returns c = record { token = digits_found c.args.text.now c.run_len.result c.requires.some c.requires.first c.run_len.ensures; terminal = refl }
