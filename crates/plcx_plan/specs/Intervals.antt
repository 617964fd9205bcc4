-- Intervals: lengths of time as attributes spell them, and their milliseconds.
use Rattle.std.specs.Prelude.{◌≡◌, ◌≤◌, ◌<◌, ◌+◌, ◌*◌, ◌^◌, ◌++◌, ℕ, pos, true, List, length, codes}
use Rattle.std.specs.List.{list_all}
use Rattle.plcx_types.specs.declared.ty.Ty.TheVariants as ty
use Rattle.plcx_types.specs.Limits.{max_event_time}
use Rattle.plcx_types.specs.Literal.{StandsForValue, value}
use Rattle.plcx_table.specs.Number.{is_digit, digits_value}

-- one or more decimal digits, with leading zeros or without
pub record AreDigits (digits : List ℕ) : Type 0 where
  pub some : 0 < length digits
  pub all : list_all is_digit digits ≡ true

-- the most digits behind the point
abbrev pub max_decimals : ℕ
max_decimals = 9

-- `PT`, a number of seconds and `S`, in upper case
pub data AreSeconds : List ℕ → ℕ → Type 0 where
  whole : {digits : List ℕ} → AreDigits digits → AreSeconds (codes "PT" ++ (digits ++ codes "S")) (digits_value digits * 1000)
  -- with a point: the whole is a whole number of milliseconds
  point : {digits decimals : List ℕ} {ms : ℕ} → AreDigits digits → AreDigits decimals → length decimals ≤ max_decimals
      → ms * 10 ^ length decimals ≡ (digits_value digits * 10 ^ length decimals + digits_value decimals) * 1000
      → AreSeconds (codes "PT" ++ (digits ++ (codes "." ++ (decimals ++ codes "S")))) ms

-- a text is a length of time: seconds, or a literal of TIME in any case
pub data IsLength : List ℕ → ℕ → Type 0 where
  seconds : {text : List ℕ} {ms : ℕ} → AreSeconds text ms → IsLength text ms
  literal : {text : List ℕ} {ms : ℕ} → StandsForValue ty.Time text (value ty.Time (pos ms)) → IsLength text ms

-- an interval is above 0 and within the limit of times
pub record IsInterval (text : List ℕ) (ms : ℕ) : Type 0 where
  pub is : IsLength text ms
  pub some : 0 < ms
  pub within : ms ≤ max_event_time
