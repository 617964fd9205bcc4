-- The character that a reference names between its `&` and its `;`.
use Rattle.std.specs.Prelude.{ℕ, ◌+◌, ◌*◌, Bool, List, length, drop, fold, slice_index, nat_eq, nat_lt, ◌&&◌, None, Some, if◌then◌else◌, codes}
use Rattle.std.specs.declared.option.Option.{Option}
use Rattle.std.specs.Char.{digit_value}
use Rattle.std.specs.List.{list_all}
use Rattle.std.specs.Str.{bytes_eq}
use Rattle.plcx_xml.specs.Character.{is_character}

-- digits of that base, at least one
abbrev pub are_digits : ℕ → List ℕ → Bool
are_digits base digits = nat_lt 0 (length digits) && list_all (λ d. nat_lt (digit_value d) base) digits

abbrev pub number : ℕ → List ℕ → ℕ
number base digits = fold (λ n d. n * base + digit_value d) 0 digits

-- the character of that number
abbrev pub numbered : ℕ → List ℕ → Option ℕ
numbered base digits = if are_digits base digits && is_character (number base digits) then Some (number base digits) else None

-- the five characters that have names
abbrev pub entity : List ℕ → Option ℕ
entity name =
    if bytes_eq name (codes "lt") then Some 60
    else (if bytes_eq name (codes "gt") then Some 62
    else (if bytes_eq name (codes "amp") then Some 38
    else (if bytes_eq name (codes "quot") then Some 34
    else (if bytes_eq name (codes "apos") then Some 39 else None))))

-- `#x` and hexadecimal digits, `#` and decimal ones, or a name
abbrev pub character_named : List ℕ → Option ℕ
character_named name =
    if nat_lt 1 (length name) && nat_eq (slice_index name 0) 35 && nat_eq (slice_index name 1) 120 then numbered 16 (drop 2 name)
    else (if nat_lt 0 (length name) && nat_eq (slice_index name 0) 35 then numbered 10 (drop 1 name) else entity name)
