-- For proofs alone: what is read of attributes, step by step.
use Rattle.std.specs.Prelude.{◌≡◌, ◌+◌, ◌*◌, ◌/◌, ◌%◌, ◌^◌, ℕ, ◌&&◌, nat_eq, nat_le, nat_lt, List, length, drop, take, codes, Option, Some, None, Vec, option_map, if◌then◌else◌}
use Rattle.std.specs.List.{list_any}
use Rattle.std.specs.Option.{option_and_then}
use Rattle.std.specs.Str.{bytes_eq}
use Rattle.std.specs.declared.alloc.Global.{Global}
use Rattle.plcx_types.specs.Limits.{max_event_time}
use Rattle.plcx_table.specs.Number.{number_of, begins_with, whole_of, behind_whole}
use Rattle.plcx_xml.specs.declared.tree.Element.{Element}
use Rattle.plcx_plan.specs.Attributes.{is_called}
use Rattle.plcx_plan.specs.Intervals.{max_decimals}

-- so many milliseconds, where their number is whole
unfoldable pub exact : (scaled scale : ℕ) → Option ℕ
exact scaled scale = if nat_eq (scaled % scale) 0 then Some (scaled / scale) else None

-- whole seconds in milliseconds
unfoldable pub whole_seconds : List ℕ → Option ℕ
whole_seconds digits = option_map (λ n. n * 1000) (number_of digits)

-- seconds with a point in milliseconds
unfoldable pub pointed_seconds : List ℕ → List ℕ → Option ℕ
pointed_seconds digits decimals = if nat_le (length decimals) max_decimals
    then option_and_then (λ n. option_and_then (λ m. exact ((n * 10 ^ length decimals + m) * 1000) (10 ^ length decimals)) (number_of decimals)) (number_of digits)
    else None

-- the seconds of digits, and what stands behind them
unfoldable pub seconds_with : List ℕ → List ℕ → Option ℕ
seconds_with digits rest = if bytes_eq rest (codes "S") then whole_seconds digits
    else (if begins_with 46 rest && bytes_eq (behind_whole (drop 1 rest)) (codes "S") then pointed_seconds digits (whole_of (drop 1 rest)) else None)

-- the seconds of a text behind its first two characters
unfoldable pub seconds_behind : List ℕ → Option ℕ
seconds_behind text = seconds_with (whole_of text) (behind_whole text)

-- seconds as attributes spell them
unfoldable pub seconds_of : List ℕ → Option ℕ
seconds_of text = if bytes_eq (take 2 text) (codes "PT") then seconds_behind (drop 2 text) else None

-- above 0 and within the limit of times
abbrev pub within_limit : ℕ → Option ℕ
within_limit ms = if nat_lt 0 ms && nat_le ms max_event_time then Some ms else None

-- noted texts are the names of these elements in lower case
abbrev pub Notes : List Element → List (Vec ℕ Global) → Type 0
Notes es keys = (q : List ℕ) → list_any (λ k. bytes_eq q k.items) keys ≡ list_any (is_called q) es
