use Rattle.std.proofs.Common.{◌∙◌, ap}
use Rattle.plcx_lex.specs.Token.{Token}
use Rattle.plcx_lex.specs.Terminal.{terminal, terminal_of}
use Rattle.plcx_read.proofs.lexeme.Lexeme.terminal.Goals as goal

pub returns : goal.returns
unfolding terminal
returns c = c.self.invariant ∙ ap (λ (x : Token). terminal_of x.kind x.text) c.self.view_is
