-- Kinds of characters, and of the bytes that they are written in.
use Rattle.std.specs.Prelude.{ℕ, Bool, List, not, ◌||◌, ◌&&◌, nat_le, nat_eq, take}
use Rattle.std.specs.List.{prefix_len}
use Rattle.std.specs.Str.{chars, encode_utf8_all}

abbrev pub is_between : ℕ → ℕ → ℕ → Bool
is_between low high n = nat_le low n && nat_le n high

-- a character that a file may hold, by its number in Unicode
abbrev pub is_character : ℕ → Bool
is_character c =
    nat_eq c 9 || nat_eq c 10 || nat_eq c 13 || is_between 0x20 0xD7FF c || is_between 0xE000 0xFFFD c || is_between 0x1_0000 0x10_FFFF c

-- the bytes of a file up to its first character that it may not hold; no token reaches further
abbrev pub front_of : List ℕ → List ℕ
front_of bytes = encode_utf8_all (take (prefix_len is_character (chars bytes)) (chars bytes))

-- space, tab, carriage return or line feed
abbrev pub is_space : ℕ → Bool
is_space b = nat_eq b 32 || nat_eq b 9 || nat_eq b 13 || nat_eq b 10

-- a name begins with a letter, `_`, `:` or a character whose bytes are 128 or more
abbrev pub is_first : ℕ → Bool
is_first b = is_between 65 90 b || is_between 97 122 b || nat_eq b 95 || nat_eq b 58 || nat_le 128 b

-- and goes on with these, digits, `-` and `.`
abbrev pub is_next : ℕ → Bool
is_next b = is_first b || is_between 48 57 b || nat_eq b 45 || nat_eq b 46

-- a text has neither `<` nor `&`
abbrev pub is_text : ℕ → Bool
is_text b = not (nat_eq b 60) && not (nat_eq b 38)

-- what is written between two quotes has neither `<` nor that quote
abbrev pub is_value : ℕ → ℕ → Bool
is_value quote b = not (nat_eq b 60) && not (nat_eq b quote)

-- apart from references it has no `&`
abbrev pub is_plain : ℕ → Bool
is_plain b = not (nat_eq b 38)

-- a reference goes up to its `;`
abbrev pub is_named : ℕ → Bool
is_named b = not (nat_eq b 59)

abbrev pub is_quote : ℕ → Bool
is_quote b = nat_eq b 34 || nat_eq b 39
