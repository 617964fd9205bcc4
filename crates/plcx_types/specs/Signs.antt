-- The sign and the amount of a value are told back from its number; it serves the proof of `Val` alone.
use Rattle.std.specs.Prelude.{◌≡◌, ℕ, Bool, false, true}
use Rattle.std.proofs.Common.{refl}
use Rattle.plcx_types.specs.Value.{signed, is_negative, amount_of}

pub same_sign : (negative : Bool) (amount : ℕ) → is_negative (signed negative amount) ≡ negative
same_sign false amount = refl
same_sign true amount = refl

pub same_amount : (negative : Bool) (amount : ℕ) → amount_of (signed negative amount) ≡ amount
same_amount false amount = refl
same_amount true amount = refl
