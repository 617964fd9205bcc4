-- What the functions give, over whole numbers without a width.
use Rattle.std.specs.Prelude.{ℕ, Bool, true, false, not, ◌&&◌, ◌-◌, ◌+◌, ◌*◌, ◌/◌, ◌%◌, ◌^◌, ◌≡◌, List, [], ◌∷◌, length, drop, slice_index_or, EachIndex, nat_lt, nat_le, if◌then◌else◌, ℤ, pos, negsuc, ◌+ℤ◌, ◌-ℤ◌, ◌*ℤ◌, unsigned_abs, int_lt, int_le, int_div, int_rem, bit_and, bit_or, bit_xor}
use Rattle.std.specs.List.{fold, list_all, zip}
use Rattle.std.specs.declared.result.Result.{Result}
use Rattle.std.specs.declared.result.Result.TheVariants.{Ok, Err}
use Rattle.plcx_types.specs.declared.ty.Ty.{Ty}
use Rattle.plcx_types.specs.declared.ty.Ty.TheVariants as ty
use Rattle.plcx_types.specs.declared.fault.Fault.{Fault}
use Rattle.plcx_types.specs.declared.fault.Fault.TheVariants as fault
use Rattle.plcx_types.specs.ElementaryTypes.{row_of}
use Rattle.plcx_types.specs.Range.{bounds_of, fits}
use Rattle.plcx_types.specs.TypeName.{same_ty}
use Rattle.plcx_types.specs.Value.{Value}
pub use Rattle.plcx_types.specs.Literal.{value}
use Rattle.plcx_funcs.specs.declared.func.Func.{Func}
use Rattle.plcx_funcs.specs.declared.func.Func.TheVariants as f
use Rattle.plcx_funcs.specs.declared.pins.Class.{Class}
use Rattle.plcx_funcs.specs.declared.pins.Class.TheVariants as class
use Rattle.plcx_funcs.specs.Types.{is_allowed, is_bool, is_word, is_whole}
use Rattle.plcx_funcs.specs.Pins.{can_have, group_types, input_class}

-- the argument at a place
abbrev pub value_at : List Value → ℕ → Value
value_at args i = slice_index_or args i (value ty.Bool (pos 0))

-- its number
abbrev pub number_at : List Value → ℕ → ℤ
number_at args i = (value_at args i).n

-- the number as a value of the type, or Range
abbrev pub checked : Ty → ℤ → Result Value Fault
checked t n = if fits t n then Ok (value t n) else Err fault.Range

-- the number 0
abbrev pub is_zero : ℤ → Bool
is_zero n = int_le n (pos 0) && int_le (pos 0) n

-- one step of a fold: the range is tested after it, and a fault stays
abbrev pub after : (ℤ → ℤ → ℤ) → Ty → Result Value Fault → Value → Result Value Fault
after op t (Ok so_far) v = checked t (op so_far.n v.n)
after op t (Err e) v = Err e

-- the arguments folded from the left
abbrev pub folded : (ℤ → ℤ → ℤ) → Ty → List Value → Result Value Fault
folded op t [] = Err fault.Range
folded op t (v ∷ rest) = fold (after op t) (Ok v) rest

-- the quotient toward zero
abbrev pub quotient : Ty → ℤ → ℤ → Result Value Fault
quotient t a b = if is_zero b then Err fault.DivByZero else checked t (int_div a b)

-- the remainder with the sign of the first, and 0 where the second is 0
abbrev pub remainder : ℤ → ℤ → ℤ
remainder a b = if is_zero b then pos 0 else int_rem a b

-- how two neighbours compare
abbrev pub agree : Func → ℤ → ℤ → Bool
agree f.Gt a b = int_lt b a
agree f.Ge a b = int_le b a
agree f.Eq a b = int_le a b && int_le b a
agree f.Le a b = int_le a b
agree f.Lt a b = int_lt a b
agree f.Ne a b = not (int_le a b && int_le b a)
agree _ a b = false

-- all neighbours do
abbrev pub all_agree : Func → List Value → Bool
all_agree g args = list_all (λ (a, b). agree g a.n b.n) (zip args (drop 1 args))

-- TRUE or FALSE
abbrev pub truth : Bool → Value
truth b = value ty.Bool (if b then pos 1 else pos 0)

-- the greater and the lesser of two
abbrev pub greater : Value → Value → Value
greater a b = if int_lt a.n b.n then b else a

-- the lesser of two
abbrev pub lesser : Value → Value → Value
lesser a b = if int_lt b.n a.n then b else a

-- the arguments chosen from, from the left
abbrev pub best : (Value → Value → Value) → List Value → Value
best choose args = fold choose (value_at args 0) (drop 1 args)

-- the argument of that number, counted from 0 behind the first
abbrev pub chosen : List Value → ℤ → Result Value Fault
chosen args (pos k) = if nat_lt (k + 1) (length args) then Ok (value_at args (k + 1)) else Err fault.Range
chosen args (negsuc k) = Err fault.Range

-- how many bits a type has
abbrev pub width : Ty → ℕ
width t = (row_of t).bits

-- a bit string to a narrower one
abbrev pub narrows : Ty → Ty → Bool
narrows from to = is_word from && is_word to && nat_lt (width to) (width from)

-- what a conversion gives: only one that keeps the number has its range tested
abbrev pub converted : Ty → Ty → ℤ → Result Value Fault
converted from to n =
    if is_bool to then Ok (value to (if is_zero n then pos 0 else pos 1))
    else if narrows from to then Ok (value to (pos (unsigned_abs n % 2 ^ width to)))
    else checked to n

-- two numbers, bit by bit
abbrev pub bit_by_bit : Func → ℕ → ℕ → ℕ
bit_by_bit f.And a b = bit_and a b
bit_by_bit f.Or a b = bit_or a b
bit_by_bit f.Xor a b = bit_xor a b
bit_by_bit _ a b = 0

-- the same of two bit strings
abbrev pub both_bits : (ℕ → ℕ → ℕ) → ℤ → ℤ → ℤ
both_bits op a b = pos (op (unsigned_abs a) (unsigned_abs b))

-- the numbers of the arguments joined from the left
abbrev pub joined : (ℤ → ℤ → ℤ) → List Value → ℤ
joined op [] = pos 0
joined op (v ∷ rest) = fold (λ n w. op n w.n) v.n rest

-- the complement, bit by bit
abbrev pub turned : Ty → ℤ → ℤ
turned t n = (bounds_of t).high -ℤ n

-- so many bits moved by so many places to the left, and to the right, with zeros coming in
abbrev pub shifted_left : ℕ → ℕ → ℕ → ℕ
shifted_left bits n by = if nat_le bits by then 0 else (n * 2 ^ by) % 2 ^ bits

-- the same to the right
abbrev pub shifted_right : ℕ → ℕ → ℕ → ℕ
shifted_right bits n by = if nat_le bits by then 0 else n / 2 ^ by

-- the same, with what leaves coming in
abbrev pub rotated_left : ℕ → ℕ → ℕ → ℕ
rotated_left bits n by = (n * 2 ^ (by % bits)) % 2 ^ bits + n / 2 ^ (bits - by % bits)

-- the same to the right
abbrev pub rotated_right : ℕ → ℕ → ℕ → ℕ
rotated_right bits n by = n / 2 ^ (by % bits) + (n % 2 ^ (by % bits)) * 2 ^ (bits - by % bits)

-- moved by a number of places, Range below 0
abbrev pub moved : (ℕ → ℕ → ℕ → ℕ) → Ty → ℤ → ℤ → Result Value Fault
moved move t n (pos by) = Ok (value t (pos (move (width t) (unsigned_abs n) by)))
moved move t n (negsuc by) = Err fault.Range

-- what a function gives, at the type of its group
abbrev pub applied : Func → Ty → List Value → Result Value Fault
applied f.Add t args = folded ◌+ℤ◌ t args
applied f.Mul t args = folded ◌*ℤ◌ t args
applied f.Sub t args = checked t (number_at args 0 -ℤ number_at args 1)
applied f.Div t args = quotient t (number_at args 0) (number_at args 1)
applied f.Mod t args = Ok (value t (remainder (number_at args 0) (number_at args 1)))
applied f.Abs t args = checked t (pos (unsigned_abs (number_at args 0)))
applied f.Move t args = Ok (value_at args 0)
applied f.And t args = Ok (value t (joined (both_bits bit_and) args))
applied f.Or t args = Ok (value t (joined (both_bits bit_or) args))
applied f.Xor t args = Ok (value t (joined (both_bits bit_xor) args))
applied f.Not t args = Ok (value t (turned t (number_at args 0)))
applied f.Shl t args = moved shifted_left t (number_at args 0) (number_at args 1)
applied f.Shr t args = moved shifted_right t (number_at args 0) (number_at args 1)
applied f.Rol t args = moved rotated_left t (number_at args 0) (number_at args 1)
applied f.Ror t args = moved rotated_right t (number_at args 0) (number_at args 1)
applied f.Sel t args = Ok (if is_zero (number_at args 0) then value_at args 1 else value_at args 2)
applied f.Max t args = Ok (best greater args)
applied f.Min t args = Ok (best lesser args)
applied f.Limit t args = Ok (lesser (greater (value_at args 1) (value_at args 0)) (value_at args 2))
applied f.Mux t args = chosen args (number_at args 0)
applied f.Gt t args = Ok (truth (all_agree f.Gt args))
applied f.Ge t args = Ok (truth (all_agree f.Ge args))
applied f.Eq t args = Ok (truth (all_agree f.Eq args))
applied f.Le t args = Ok (truth (all_agree f.Le args))
applied f.Lt t args = Ok (truth (all_agree f.Lt args))
applied f.Ne t args = Ok (truth (all_agree f.Ne args))
applied (f.Conv from to) t args = converted from to (number_at args 0)

-- the group's type is one that the function takes; a conversion has no group
abbrev pub takes : Func → Ty → Bool
takes (f.Conv from to) t = not (same_ty from to)
takes g t = is_allowed (group_types g) t

-- a value's type suits the class of its pin
abbrev pub suits : Class → Ty → Ty → Bool
suits class.Group t u = same_ty t u
suits class.Lone t u = is_whole u
suits (class.Fixed fixed) t u = same_ty fixed u

-- the arguments fit the signature
pub record FitsSignature (g : Func) (t : Ty) (args : List Value) : Type 0 where
  pub count : can_have g (length args) ≡ true
  pub group : takes g t ≡ true
  pub types : EachIndex args (λ i. suits (input_class g i) t (value_at args i).ty ≡ true)
