-- Arguments whose type is known, and numbers that stay in their type.
use Rattle.std.proofs.Common.{◌≡◌, ℕ, ◌≤◌, ◌<◌, ◌^◌, ◌-◌, Bool, true, false, ℤ, pos, negsuc, refl, sym, ap, subst, ◌∙◌, length, List, [], ◌∷◌, take, drop, get_or, suc, ◌+◌, Ok, arith}
use Rattle.std.proofs.Math.Nat.{mod-le}
use Rattle.std.proofs.lemmas.Int.{ints}
use Rattle.std.proofs.lemmas.List.{take_all, length-drop}
use Rattle.std.proofs.lemmas.List.Sums.{fold_more}
use Rattle.std.proofs.lemmas.Nat.{pow_pos}
use Rattle.std.specs.List.{fold}
use Rattle.std.specs.Prelude.{unsigned_abs, EachIndex, ◌≤ℤ◌, if◌then◌else◌}
use Rattle.plcx_types.specs.declared.ty.Ty.{Ty}
use Rattle.plcx_types.specs.declared.ty.Ty.TheVariants as ty
use Rattle.plcx_types.specs.Range.{InRange, bounds_of}
use Rattle.plcx_types.specs.declared.ty.Bounds.{Bounds}
use Rattle.plcx_types.specs.ElementaryTypes.{unsigned_bounds}
use Rattle.plcx_types.specs.TypeName.{same_ty}
use Rattle.plcx_types.proofs.TypeTable.{same_is}
use Rattle.plcx_types.specs.Value.{Value}
use Rattle.plcx_funcs.specs.declared.func.Func.{Func}
use Rattle.plcx_funcs.specs.declared.func.Func.TheVariants as f
use Rattle.plcx_funcs.specs.declared.allowed.Allowed.TheVariants as set
use Rattle.plcx_funcs.specs.declared.pins.Class.{Class}
use Rattle.plcx_funcs.specs.declared.pins.Class.TheVariants as class
use Rattle.plcx_funcs.specs.Types.{is_allowed}
use Rattle.plcx_funcs.specs.Pins.{least_inputs, input_class}
use Rattle.plcx_funcs.specs.Applied.{FitsSignature, suits, value, value_at, width, bit_by_bit, both_bits, joined, remainder, turned, applied}
use Rattle.plcx_funcs.proofs.Counts.{has_least}

-- types of one position are one type
pub one_type : (t u : Ty) → same_ty t u ≡ true → u ≡ t
one_type t u same = sym (same_is t u same)

-- the first argument of MOD has the type of the group
pub first_of_mod : (t : Ty) (args : List Value) → FitsSignature f.Mod t args → (value_at args 0).ty ≡ t
first_of_mod t args fit =
    let least : 2 ≤ length args = has_least f.Mod (length args) fit.count in
    one_type t (value_at args 0).ty (fit.types 0 (omega (arith, least)))

-- the functions that join bits
abbrev pub joins : Func → Bool
joins f.And = true
joins f.Or = true
joins f.Xor = true
joins _ = false

-- the functions whose first argument is bits
abbrev pub has_bits : Func → Bool
has_bits f.Not = true
has_bits f.Shl = true
has_bits f.Shr = true
has_bits f.Rol = true
has_bits f.Ror = true
has_bits g = joins g

-- the type of their group is BOOL or a bit string
pub bits_of_group : (g : Func) (t : Ty) (args : List Value) → FitsSignature g t args → has_bits g ≡ true → is_allowed set.Bits t ≡ true
bits_of_group f.And t args fit h = fit.group
bits_of_group f.Or t args fit h = fit.group
bits_of_group f.Xor t args fit h = fit.group
bits_of_group f.Not t args fit h = fit.group
bits_of_group f.Shl t args fit h = grind (arith, fit.group)
bits_of_group f.Shr t args fit h = grind (arith, fit.group)
bits_of_group f.Rol t args fit h = grind (arith, fit.group)
bits_of_group f.Ror t args fit h = grind (arith, fit.group)
bits_of_group _ t args fit h = grind (arith, h)

-- the first of their arguments has the type of the group
first_of : (g : Func) (t : Ty) (args : List Value) → FitsSignature g t args → 1 ≤ least_inputs g → input_class g 0 ≡ class.Group → (value_at args 0).ty ≡ t
first_of g t args fit some group =
    let least : least_inputs g ≤ length args = has_least g (length args) fit.count in
    let P : Class → Type 0 = λ k. suits k t (value_at args 0).ty ≡ true in
    one_type t (value_at args 0).ty (subst P group (fit.types 0 (omega (arith, least, some))))

pub first_of_bits : (g : Func) (t : Ty) (args : List Value) → FitsSignature g t args → has_bits g ≡ true → (value_at args 0).ty ≡ t
first_of_bits f.And t args fit h = first_of f.And t args fit (omega arith) refl
first_of_bits f.Or t args fit h = first_of f.Or t args fit (omega arith) refl
first_of_bits f.Xor t args fit h = first_of f.Xor t args fit (omega arith) refl
first_of_bits f.Not t args fit h = first_of f.Not t args fit (omega arith) refl
first_of_bits f.Shl t args fit h = first_of f.Shl t args fit (omega arith) refl
first_of_bits f.Shr t args fit h = first_of f.Shr t args fit (omega arith) refl
first_of_bits f.Rol t args fit h = first_of f.Rol t args fit (omega arith) refl
first_of_bits f.Ror t args fit h = first_of f.Ror t args fit (omega arith) refl
first_of_bits _ t args fit h = grind (arith, h)

-- and so have all where bits are joined
pub all_of_bits : (g : Func) (t : Ty) (args : List Value) → FitsSignature g t args → joins g ≡ true → EachIndex args (λ i. (value_at args i).ty ≡ t)
all_of_bits f.And t args fit h i within = one_type t (value_at args i).ty (fit.types i within)
all_of_bits f.Or t args fit h i within = one_type t (value_at args i).ty (fit.types i within)
all_of_bits f.Xor t args fit h i within = one_type t (value_at args i).ty (fit.types i within)
all_of_bits _ t args fit h i within = grind (arith, h)

-- a remainder lies between the first number and 0
pub remainder_in_range : (t : Ty) (a b : ℤ) → InRange t a → InRange t (remainder a b)
remainder_in_range ty.Bool (pos n) b h = let less = mod-le n (unsigned_abs b) in (grind (arith, ints, less), grind (arith, ints, less))
remainder_in_range ty.Bool (negsuc n) b h = let less = mod-le (suc n) (unsigned_abs b) in (grind (arith, ints, less), grind (arith, ints, less))
remainder_in_range ty.Byte (pos n) b h = let less = mod-le n (unsigned_abs b) in (grind (arith, ints, less), grind (arith, ints, less))
remainder_in_range ty.Byte (negsuc n) b h = let less = mod-le (suc n) (unsigned_abs b) in (grind (arith, ints, less), grind (arith, ints, less))
remainder_in_range ty.Word (pos n) b h = let less = mod-le n (unsigned_abs b) in (grind (arith, ints, less), grind (arith, ints, less))
remainder_in_range ty.Word (negsuc n) b h = let less = mod-le (suc n) (unsigned_abs b) in (grind (arith, ints, less), grind (arith, ints, less))
remainder_in_range ty.Dword (pos n) b h = let less = mod-le n (unsigned_abs b) in (grind (arith, ints, less), grind (arith, ints, less))
remainder_in_range ty.Dword (negsuc n) b h = let less = mod-le (suc n) (unsigned_abs b) in (grind (arith, ints, less), grind (arith, ints, less))
remainder_in_range ty.Lword (pos n) b h = let less = mod-le n (unsigned_abs b) in (grind (arith, ints, less), grind (arith, ints, less))
remainder_in_range ty.Lword (negsuc n) b h = let less = mod-le (suc n) (unsigned_abs b) in (grind (arith, ints, less), grind (arith, ints, less))
remainder_in_range ty.Sint (pos n) b h = let less = mod-le n (unsigned_abs b) in (grind (arith, ints, less), grind (arith, ints, less))
remainder_in_range ty.Sint (negsuc n) b h = let less = mod-le (suc n) (unsigned_abs b) in (grind (arith, ints, less), grind (arith, ints, less))
remainder_in_range ty.Int (pos n) b h = let less = mod-le n (unsigned_abs b) in (grind (arith, ints, less), grind (arith, ints, less))
remainder_in_range ty.Int (negsuc n) b h = let less = mod-le (suc n) (unsigned_abs b) in (grind (arith, ints, less), grind (arith, ints, less))
remainder_in_range ty.Dint (pos n) b h = let less = mod-le n (unsigned_abs b) in (grind (arith, ints, less), grind (arith, ints, less))
remainder_in_range ty.Dint (negsuc n) b h = let less = mod-le (suc n) (unsigned_abs b) in (grind (arith, ints, less), grind (arith, ints, less))
remainder_in_range ty.Lint (pos n) b h = let less = mod-le n (unsigned_abs b) in (grind (arith, ints, less), grind (arith, ints, less))
remainder_in_range ty.Lint (negsuc n) b h = let less = mod-le (suc n) (unsigned_abs b) in (grind (arith, ints, less), grind (arith, ints, less))
remainder_in_range ty.Usint (pos n) b h = let less = mod-le n (unsigned_abs b) in (grind (arith, ints, less), grind (arith, ints, less))
remainder_in_range ty.Usint (negsuc n) b h = let less = mod-le (suc n) (unsigned_abs b) in (grind (arith, ints, less), grind (arith, ints, less))
remainder_in_range ty.Uint (pos n) b h = let less = mod-le n (unsigned_abs b) in (grind (arith, ints, less), grind (arith, ints, less))
remainder_in_range ty.Uint (negsuc n) b h = let less = mod-le (suc n) (unsigned_abs b) in (grind (arith, ints, less), grind (arith, ints, less))
remainder_in_range ty.Udint (pos n) b h = let less = mod-le n (unsigned_abs b) in (grind (arith, ints, less), grind (arith, ints, less))
remainder_in_range ty.Udint (negsuc n) b h = let less = mod-le (suc n) (unsigned_abs b) in (grind (arith, ints, less), grind (arith, ints, less))
remainder_in_range ty.Ulint (pos n) b h = let less = mod-le n (unsigned_abs b) in (grind (arith, ints, less), grind (arith, ints, less))
remainder_in_range ty.Ulint (negsuc n) b h = let less = mod-le (suc n) (unsigned_abs b) in (grind (arith, ints, less), grind (arith, ints, less))
remainder_in_range ty.Time (pos n) b h = let less = mod-le n (unsigned_abs b) in (grind (arith, ints, less), grind (arith, ints, less))
remainder_in_range ty.Time (negsuc n) b h = let less = mod-le (suc n) (unsigned_abs b) in (grind (arith, ints, less), grind (arith, ints, less))

-- the same of a value of the type
pub remainder_of_type : (t : Ty) (a : Value) (b : ℤ) → a.ty ≡ t → InRange a.ty a.n → InRange t (remainder a.n b)
remainder_of_type t a b same h = remainder_in_range t a.n b (let P : Ty → Type 0 = λ u. InRange u a.n in subst P same h)

-- bits that are turned are bits
pub turned_in_range : (t : Ty) (n : ℤ) → is_allowed set.Bits t ≡ true → InRange t n → InRange t (turned t n)
turned_in_range ty.Bool n bits h = (grind (arith, ints), grind (arith, ints))
turned_in_range ty.Byte n bits h = (grind (arith, ints), grind (arith, ints))
turned_in_range ty.Word n bits h = (grind (arith, ints), grind (arith, ints))
turned_in_range ty.Dword n bits h = (grind (arith, ints), grind (arith, ints))
turned_in_range ty.Lword n bits h = (grind (arith, ints), grind (arith, ints))
turned_in_range ty.Sint n bits h = (grind (arith, ints), grind (arith, ints))
turned_in_range ty.Int n bits h = (grind (arith, ints), grind (arith, ints))
turned_in_range ty.Dint n bits h = (grind (arith, ints), grind (arith, ints))
turned_in_range ty.Lint n bits h = (grind (arith, ints), grind (arith, ints))
turned_in_range ty.Usint n bits h = (grind (arith, ints), grind (arith, ints))
turned_in_range ty.Uint n bits h = (grind (arith, ints), grind (arith, ints))
turned_in_range ty.Udint n bits h = (grind (arith, ints), grind (arith, ints))
turned_in_range ty.Ulint n bits h = (grind (arith, ints), grind (arith, ints))
turned_in_range ty.Time n bits h = (grind (arith, ints), grind (arith, ints))

-- the numbers of BOOL and of a bit string are those of its width
bounds_of_bits : (t : Ty) → is_allowed set.Bits t ≡ true → bounds_of t ≡ unsigned_bounds (width t)
bounds_of_bits ty.Bool bits = refl
bounds_of_bits ty.Byte bits = refl
bounds_of_bits ty.Word bits = refl
bounds_of_bits ty.Dword bits = refl
bounds_of_bits ty.Lword bits = refl
bounds_of_bits _ bits = grind (arith, bits)

pub bits_in_range : (t : Ty) (n : ℕ) → is_allowed set.Bits t ≡ true → n < 2 ^ width t → InRange t (pos n)
bits_in_range t n bits below =
    let P : Bounds → Type 0 = λ b. (b.low ≤ℤ pos n) × (pos n ≤ℤ b.high) in
    subst P (sym (bounds_of_bits t bits)) (grind (arith, ints, below), grind (arith, ints, below))

of_unsigned : (bits : ℕ) (n : ℤ) → pos 0 ≤ℤ n → n ≤ℤ pos (2 ^ bits - 1) → (unsigned_abs n < 2 ^ bits) × (pos (unsigned_abs n) ≡ n)
of_unsigned bits (pos n) low high = let some = pow_pos bits in (grind (arith, ints, some), refl)
of_unsigned bits (negsuc n) low high = grind (arith, ints, low)

pub below_width : (t : Ty) (n : ℤ) → is_allowed set.Bits t ≡ true → InRange t n → (unsigned_abs n < 2 ^ width t) × (pos (unsigned_abs n) ≡ n)
below_width t n bits range =
    let P : Bounds → Type 0 = λ b. (b.low ≤ℤ n) × (n ≤ℤ b.high) in
    let same : P (unsigned_bounds (width t)) = subst P (bounds_of_bits t bits) range in
    of_unsigned (width t) n same.0 same.1

-- what a conversion makes anew
pub bit_in_range : (b : Bool) → InRange ty.Bool (if b then pos 1 else pos 0)
bit_in_range true = (grind (arith, ints), grind (arith, ints))
bit_in_range false = (grind (arith, ints), grind (arith, ints))

-- the arguments behind the first have the type of all
behind : (t : Ty) (args : List Value) → EachIndex args (λ i. (value_at args i).ty ≡ t) → EachIndex (drop 1 args) (λ i. (value_at (drop 1 args) i).ty ≡ t)
behind t [] same i within = same i within
behind t (v ∷ rest) same i within = same (suc i) (omega (arith, within))

pub same_behind : (t : Ty) (args : List Value) → EachIndex args (λ i. (value_at args i).ty ≡ t) → EachIndex (take (length args - 1) (drop 1 args)) (λ i. (value_at (take (length args - 1) (drop 1 args)) i).ty ≡ t)
same_behind t args same =
    let whole = take_all (length args - 1) (drop 1 args) (omega (arith, length-drop 1 args)) in
    let P : List Value → Type 0 = λ xs. EachIndex xs (λ i. (value_at xs i).ty ≡ t) in
    subst P (sym whole) (behind t args same)

-- one number more is joined
pub one_joined : (g : Func) (first so_far bits : ℕ) (rest : List Value) (i : ℕ) (v : Value) → i < length rest → v ≡ get_or rest i v → pos bits ≡ v.n → pos so_far ≡ fold (λ n w. both_bits (bit_by_bit g) n w.n) (pos first) (take i rest) → pos (bit_by_bit g so_far bits) ≡ fold (λ n w. both_bits (bit_by_bit g) n w.n) (pos first) (take (i + 1) rest)
one_joined g first so_far bits rest i v within item number before =
    let step : ℤ → Value → ℤ = λ n w. both_bits (bit_by_bit g) n w.n in
    let here : pos (bit_by_bit g so_far bits) ≡ step (pos so_far) v = ap (λ n. both_bits (bit_by_bit g) (pos so_far) n) number in
    let more = fold_more step (pos first) rest i v within in
    here ∙ ap (λ n. step n v) before ∙ ap (λ w. step (fold step (pos first) (take i rest)) w) item ∙ sym more

-- AND, OR and XOR are one function of the operation on bits
pub joins_bits : (g : Func) (t : Ty) (args : List Value) → joins g ≡ true → applied g t args ≡ Ok (value t (joined (both_bits (bit_by_bit g)) args))
joins_bits f.And t args h = refl
joins_bits f.Or t args h = refl
joins_bits f.Xor t args h = refl
joins_bits _ t args h = grind (arith, h)
