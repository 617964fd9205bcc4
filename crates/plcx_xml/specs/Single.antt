-- Bytes that are a character by themselves.
use Rattle.std.specs.Prelude.{ℕ, Bool, ◌&&◌, nat_lt}
use Rattle.plcx_xml.specs.Character.{is_character}

-- a byte that is a character by itself, which a file may hold
abbrev pub is_single : ℕ → Bool
is_single b = nat_lt b 128 && is_character b
