-- The form of an address: `%`, where it lies, perhaps how wide it is, and its numbers, as `%IX0.1`.
use Rattle.std.specs.Prelude.{◌≡◌, ℕ, suc, Bool, true, nat_eq, List, ◌∷◌, ◌++◌, Option, Some, None, codes}
use Rattle.std.specs.List.{list_any}
use Rattle.plcx_types.specs.Duration.{AreDigits}
use Rattle.plcx_types.specs.Name.{in_lower_case, in_upper_case}

-- 1 to so many numbers of 1 to 9 digits, with points between them
pub data ArePlaces : ℕ → List ℕ → Type 0 where
  last : {most : ℕ} {digits : List ℕ} → AreDigits 9 digits → ArePlaces (suc most) digits
  more : {most : ℕ} {digits rest : List ℕ} → AreDigits 9 digits → ArePlaces most rest → ArePlaces (suc most) (digits ++ (codes "." ++ rest))

-- the byte is one of these letters
abbrev pub is_one_of : List ℕ → ℕ → Bool
is_one_of letters b = list_any (nat_eq b) letters

-- an address in lower case
pub data IsAddressForm : List ℕ → Type 0 where
  plain : {area : ℕ} {places : List ℕ} → is_one_of (codes "iqm") area ≡ true → ArePlaces 8 places → IsAddressForm (codes "%" ++ area ∷ places)
  sized : {area size : ℕ} {places : List ℕ} → is_one_of (codes "iqm") area ≡ true → is_one_of (codes "xbwdl") size ≡ true → ArePlaces 8 places
      → IsAddressForm (codes "%" ++ area ∷ size ∷ places)

-- an address, whatever the case of its letters
abbrev pub IsAddress : List ℕ → Type 0
IsAddress text = IsAddressForm (in_lower_case text)

-- an address in upper case
abbrev pub IsUpperAddress : List ℕ → Type 0
IsUpperAddress text = IsAddress text × (in_upper_case text ≡ text)

-- where there is an address, it is one in upper case
abbrev pub AddressFits : Option (List ℕ) → Type 0
AddressFits None = Unit {0}
AddressFits (Some address) = IsUpperAddress address
