use Rattle.std.proofs.Common.{◌≡◌, ◌++◌, drop, map}
use Rattle.std.specs.Char.{to_ascii_uppercase}
use Rattle.plcx_read.proofs.lexeme.Lexeme.address.Given as goal

-- the front in upper case, and the rest
abbrev pub invariant-loop-byte : goal.invariant-loop-byte
invariant-loop-byte l = l.raised ++ map to_ascii_uppercase (drop l.byte-index l.self.text) ≡ map to_ascii_uppercase l.self.text
