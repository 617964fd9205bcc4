-- Texts in a diagram: how names are compared, and which white space doesn't count.
use Rattle.std.specs.Prelude.{ℕ, ◌||◌, ◌-◌, Bool, List, nat_eq, take, drop, reverse, length}
use Rattle.std.specs.List.{prefix_len}
use Rattle.std.specs.Str.{bytes_eq}
use Rattle.plcx_types.specs.Name.{in_lower_case}

-- two texts are one name, whatever the case of their letters
abbrev pub same_name : List ℕ → List ℕ → Bool
same_name x y = bytes_eq (in_lower_case x) (in_lower_case y)

-- nothing stands there
abbrev pub is_empty : {A : Type 0} → List A → Bool
is_empty xs = nat_eq (length xs) 0

-- space, tab, carriage return or line feed
abbrev pub is_space : ℕ → Bool
is_space b = nat_eq b 32 || nat_eq b 9 || nat_eq b 13 || nat_eq b 10

-- without the white space at the front
abbrev pub behind_space : List ℕ → List ℕ
behind_space text = drop (prefix_len is_space text) text

-- without the white space at the end
abbrev pub before_space : List ℕ → List ℕ
before_space text = take (length text - prefix_len is_space (reverse text)) text

-- without the white space at both ends
unfoldable pub trimmed : List ℕ → List ℕ
trimmed text = before_space (behind_space text)
