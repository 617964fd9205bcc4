-- What a value or a text holds. This serves proofs alone.
use Rattle.std.specs.Prelude.{ℕ, List}
use Rattle.plcx_xml.specs.declared.content.Held.{Held}
use Rattle.plcx_xml.specs.declared.content.Held.TheVariants as held

-- its bytes, wherever they stand
abbrev pub held_bytes : Held → List ℕ
held_bytes (held.Spelled bytes) = bytes.now
held_bytes (held.Made bytes) = bytes.items
