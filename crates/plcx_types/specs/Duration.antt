-- Lengths of time, in lower case: parts of a number and a unit.
use Rattle.std.specs.Prelude.{◌≡◌, ◌≤◌, ◌+◌, ◌*◌, ◌^◌, ◌++◌, ℕ, ℤ, pos, neg_ℤ, true, List, [], ◌∷◌, codes, length}
use Rattle.std.specs.List.{list_all}
use Rattle.plcx_types.specs.Numeral.{is_digit, number_from}
use Rattle.plcx_types.specs.declared.duration.TimeUnit.{TimeUnit}
use Rattle.plcx_types.specs.declared.duration.TimeUnit.TheVariants as unit

-- how a unit is written
abbrev pub letters_of : TimeUnit → List ℕ
letters_of unit.Day = codes "d"
letters_of unit.Hour = codes "h"
letters_of unit.Minute = codes "m"
letters_of unit.Second = codes "s"
letters_of unit.Millisecond = codes "ms"

-- how long a unit is
abbrev pub milliseconds_of : TimeUnit → ℕ
milliseconds_of unit.Day = 86400000
milliseconds_of unit.Hour = 3600000
milliseconds_of unit.Minute = 60000
milliseconds_of unit.Second = 1000
milliseconds_of unit.Millisecond = 1

-- the units in the order of parts
abbrev pub units : List TimeUnit
units = unit.Day ∷ unit.Hour ∷ unit.Minute ∷ unit.Second ∷ unit.Millisecond ∷ []

-- 1 to so many decimal digits
pub record AreDigits (most : ℕ) (digits : List ℕ) : Type 0 where
  pub all : list_all (is_digit 10) digits ≡ true
  pub some : 1 ≤ length digits
  pub few : length digits ≤ most

-- the number of decimal digits
abbrev pub number : List ℕ → ℕ
number digits = number_from 10 0 digits

-- parts of these units at most, each once at most and in this order, and their milliseconds
pub data AreParts : List TimeUnit → List ℕ → ℕ → Type 0 where
  -- there is no part of the first unit
  skip : {u : TimeUnit} {us : List TimeUnit} {text : List ℕ} {ms : ℕ} → AreParts us text ms → AreParts (u ∷ us) text ms
  last : {u : TimeUnit} {us : List TimeUnit} {digits : List ℕ} → AreDigits 20 digits → AreParts (u ∷ us) (digits ++ letters_of u) (number digits * milliseconds_of u)
  -- the last part has a point, and the whole is a whole number of milliseconds
  point : {u : TimeUnit} {us : List TimeUnit} {digits decimals : List ℕ} {ms : ℕ} → AreDigits 20 digits → AreDigits 9 decimals
      → ms * 10 ^ length decimals ≡ (number digits * 10 ^ length decimals + number decimals) * milliseconds_of u
      → AreParts (u ∷ us) (digits ++ (codes "." ++ (decimals ++ letters_of u))) ms
  more : {u : TimeUnit} {us : List TimeUnit} {digits rest : List ℕ} {ms : ℕ} → AreDigits 20 digits → AreParts us rest ms
      → AreParts (u ∷ us) (digits ++ (letters_of u ++ rest)) (number digits * milliseconds_of u + ms)
  apart : {u : TimeUnit} {us : List TimeUnit} {digits rest : List ℕ} {ms : ℕ} → AreDigits 20 digits → AreParts us rest ms
      → AreParts (u ∷ us) (digits ++ (letters_of u ++ (codes "_" ++ rest))) (number digits * milliseconds_of u + ms)

-- a length of time, and its milliseconds
pub data IsTime : List ℕ → ℤ → Type 0 where
  ahead : {text : List ℕ} {ms : ℕ} → AreParts units text ms → IsTime text (pos ms)
  back : {text : List ℕ} {ms : ℕ} → AreParts units text ms → IsTime (codes "-" ++ text) (neg_ℤ (pos ms))
