-- Names in lower case, byte by byte.
use Rattle.std.proofs.Common.{◌≡◌, ℕ, ◌<◌, List, length, get_or, ap, sym, ◌∙◌}
use Rattle.std.specs.Char.{to_ascii_lowercase}
use Rattle.std.proofs.lemmas.List.{get_or-map}
use Rattle.plcx_types.specs.Name.{in_lower_case}

-- two spellings of one name have the same letters at each place
pub lower-at : (left right : List ℕ) (i : ℕ) → i < length left → i < length right → in_lower_case left ≡ in_lower_case right → to_ascii_lowercase (get_or left i 0) ≡ to_ascii_lowercase (get_or right i 0)
lower-at left right i in_left in_right same =
    sym (get_or-map to_ascii_lowercase left i 0 0 in_left) ∙ ap (λ (text : List ℕ). get_or text i 0) same ∙ get_or-map to_ascii_lowercase right i 0 0 in_right
