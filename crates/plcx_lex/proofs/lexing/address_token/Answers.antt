use Rattle.std.proofs.Common.{refl}
use Rattle.plcx_lex.proofs.TokenScan.{address_found, address_unfound}
use Rattle.plcx_lex.proofs.lexing.address_token.Goals as goal

pub returns-in-None : goal.returns-in-None
returns-in-None c = address_unfound c.args.text.now c.requires.first c.in-None.ensures

pub returns-in-Some : goal.returns-in-Some
returns-in-Some c = record { token = address_found c.args.text.now c.in-Some.n c.requires.first c.in-Some.ensures; terminal = refl }
