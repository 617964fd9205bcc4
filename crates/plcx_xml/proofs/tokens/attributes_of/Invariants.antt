use Rattle.std.proofs.Common.{◌≡◌, ◌-◌, length}
use Rattle.plcx_xml.specs.Reads.{attribute_at, many, after_front}
use Rattle.plcx_xml.proofs.tokens.attributes_of.Given as goal

abbrev pub invariant-loop-turn : goal.invariant-loop-turn
invariant-loop-turn l = after_front l.found.items (many (attribute_at l.last) (length l.bytes - l.turn) l.rest) ≡ many (attribute_at l.last) (length l.bytes) l.bytes
