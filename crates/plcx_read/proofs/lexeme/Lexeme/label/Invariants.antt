use Rattle.std.proofs.Common.{◌≡◌, ◌≤◌, drop, min}
use Rattle.plcx_types.specs.Numeral.{number_from}
use Rattle.plcx_read.proofs.lexeme.Lexeme.label.Given as goal

-- what is left of the text completes the number
abbrev pub invariant-loop-byte : goal.invariant-loop-byte
invariant-loop-byte l = (min (number_from 10 l.n (drop l.byte-index l.self.text)) 2147483648 ≡ min (number_from 10 0 l.self.text) 2147483648) × (l.n ≤ 2147483648)
