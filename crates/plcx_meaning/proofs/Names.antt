-- Names without case: which of the compiler's own are equal, and that no declared name is one of them.
use Rattle.std.proofs.Common.{◌≡◌, ◌≢◌, ℕ, zero, suc, ◌+◌, ◌/◌, ◌%◌, ◌<◌, ◌≤◌, ◌^◌, ⊎_elim, Bool, true, false, cond, ◌&&◌, List, [], ◌∷◌, ◌++◌, length, take, drop, refl, sym, ap, ap₂, ◌∙◌, subst, arith, eqb-true, pow-suc}
use Rattle.std.specs.Prelude.{codes, decimal, nat_eq}
use Rattle.std.specs.Str.{bytes_eq}
use Rattle.std.specs.Char.{to_ascii_lowercase}
use Rattle.std.specs.Fmt.{digit_glyph, digits_onto, digits}
use Rattle.std.specs.Str.Parse.{digits_value}
use Rattle.std.proofs.lemmas.Bool.{or_parts, false_from_ne_true, both_ways, cases_lt}
use Rattle.std.proofs.lemmas.Bool.Decides.{nat_tests, same_from_decides, Decides-eqb, Decides-and}
use Rattle.std.proofs.lemmas.List.{take-map}
use Rattle.std.proofs.lemmas.Slice.Eq.{bytes_eq-Decides}
use Rattle.std.proofs.lemmas.Fmt.{decimal_is_IsNumeral_wide, length-decimal-le}
use Rattle.plcx_types.specs.Name.{in_lower_case}
use Rattle.plcx_types.specs.Reserved.{is_own, is_listed, is_reserved}
use Rattle.plcx_meaning.specs.Base.{Memory, AtEdge, AtOutput, same_memory}
use Rattle.plcx_meaning.specs.Templates.{suffix, wire_name, memory_name, counter_name}

-- equal bytes, and different ones
pub bytes_same : (x y : List ℕ) → bytes_eq x y ≡ true → x ≡ y
bytes_same x y h = (bytes_eq-Decides x y).0 h

pub same_bytes : (x y : List ℕ) → x ≡ y → bytes_eq x y ≡ true
same_bytes x y e = (bytes_eq-Decides x y).1 e

pub bytes_self : (x : List ℕ) → bytes_eq x x ≡ true
bytes_self x = same_bytes x x refl

pub bytes_apart : (x y : List ℕ) → x ≢ y → bytes_eq x y ≡ false
bytes_apart x y n = false_from_ne_true (bytes_eq x y) (λ h. n (bytes_same x y h))

pub bytes_swapped : (x y : List ℕ) → bytes_eq x y ≡ bytes_eq y x
bytes_swapped x y = same_from_decides {P = x ≡ y} _ _ (bytes_eq-Decides x y) ((λ h. sym ((bytes_eq-Decides y x).0 h)), (λ e. (bytes_eq-Decides y x).1 (sym e)))

pub numbers_swapped : (i j : ℕ) → nat_eq i j ≡ nat_eq j i
numbers_swapped i j = same_from_decides {P = i ≡ j} _ _ (Decides-eqb i j) ((λ h. sym ((Decides-eqb j i).0 h)), (λ e. (Decides-eqb j i).1 (sym e)))

-- a name has no case left
lower_twice : (c : ℕ) → to_ascii_lowercase (to_ascii_lowercase c) ≡ to_ascii_lowercase c
lower_twice c = grind (arith, nat_tests)

pub folded_twice : (x : List ℕ) → in_lower_case (in_lower_case x) ≡ in_lower_case x
folded_twice [] = refl
folded_twice (c ∷ x) = let here = lower_twice c in let rest = folded_twice x in cc

pub folded_append : (x y : List ℕ) → in_lower_case (x ++ y) ≡ in_lower_case x ++ in_lower_case y
folded_append [] y = refl
folded_append (c ∷ x) y = ap (λ rest. to_ascii_lowercase c ∷ rest) (folded_append x y)

-- what is own depends on the name without case alone
abbrev own_of : List ℕ → Bool
own_of x = bytes_eq (take 5 x) (codes "plcx_")

own_is : (x : List ℕ) → is_own x ≡ own_of (in_lower_case x)
own_is x = ap (λ front. bytes_eq front (codes "plcx_")) (sym (take-map to_ascii_lowercase 5 x))

pub own_folded : (x : List ℕ) → is_own (in_lower_case x) ≡ is_own x
own_folded x = own_is (in_lower_case x) ∙ ap own_of (folded_twice x) ∙ sym (own_is x)

pub own_same : (x y : List ℕ) → in_lower_case x ≡ in_lower_case y → is_own x ≡ is_own y
own_same x y e = own_is x ∙ ap own_of e ∙ sym (own_is y)

-- names that a diagram may give
pub not_own : (x : List ℕ) → is_reserved x ≡ false → is_own x ≡ false
not_own x h = (or_parts (is_listed x) (is_own x) h).1

-- no name that is not own is an own one
pub apart_from_own : (x y : List ℕ) → is_own x ≡ false → is_own y ≡ true → bytes_eq x y ≡ false
apart_from_own x y h k = bytes_apart x y (λ e. both_ways (is_own x) h (ap is_own e ∙ k))

pub declared_not_own : (x y : List ℕ) → is_own (in_lower_case x) ≡ false → is_own y ≡ true → bytes_eq (in_lower_case x) y ≡ false
declared_not_own x y h k = apart_from_own (in_lower_case x) y h k

pub own_not_declared : (x y : List ℕ) → is_own (in_lower_case x) ≡ false → is_own y ≡ true → bytes_eq y (in_lower_case x) ≡ false
own_not_declared x y h k = bytes_swapped y (in_lower_case x) ∙ declared_not_own x y h k

-- digits
abbrev pub Digits : List ℕ → Type 0
Digits [] = Unit {0}
Digits (c ∷ cs) = (48 ≤ c) × (c ≤ 57) × Digits cs

low_glyph : (n : ℕ) → 48 ≤ digit_glyph false (n % 10)
low_glyph n = grind (arith, nat_tests)

high_glyph : (n : ℕ) → digit_glyph false (n % 10) ≤ 57
high_glyph n = grind (arith, nat_tests)

onto_digits : (k n : ℕ) (rest : List ℕ) → Digits rest → Digits (digits_onto k 10 false n rest)
onto_digits zero n rest h = h
onto_digits (suc k) n rest h = either (nat_eq (n / 10) 0) _ _ (low_glyph n, high_glyph n, h) (onto_digits k (n / 10) _ (low_glyph n, high_glyph n, h))
  where
    either : (b : Bool) (xs ys : List ℕ) → Digits xs → Digits ys → Digits (cond b xs ys)
    either true xs ys p q = p
    either false xs ys p q = q

spelled : (n : ℕ) → digits_onto 64 10 false n [] ≡ decimal n
unfolding digits
spelled n = refl

pub of_decimal : (n : ℕ) → Digits (decimal n)
of_decimal n = subst Digits (spelled n) (onto_digits 64 n [] tt)

ten : (k : ℕ) → 0 < 10 ^ k
ten zero = omega arith
ten (suc k) = let p = pow-suc 10 k in let q = ten k in omega arith

-- the decimal of a number of more digits has as many as are written
onto_length : (k n : ℕ) (rest : List ℕ) → 10 ^ k ≤ n → length (digits_onto k 10 false n rest) ≡ k + length rest
onto_length zero n rest h = let same : length rest ≡ 0 + length rest = omega arith in same
onto_length (suc k) n rest h = either (nat_eq (n / 10) 0) refl (onto_length k (n / 10) (digit_glyph false (n % 10) ∷ rest) large)
  where
    large : 10 ^ k ≤ n / 10
    large = let p = pow-suc 10 k in omega arith

    either : (b : Bool) → nat_eq (n / 10) 0 ≡ b → length (digits_onto k 10 false (n / 10) (digit_glyph false (n % 10) ∷ rest)) ≡ k + suc (length rest)
        → length (cond b (digit_glyph false (n % 10) ∷ rest) (digits_onto k 10 false (n / 10) (digit_glyph false (n % 10) ∷ rest))) ≡ suc k + length rest
    either true e l = let z = eqb-true (n / 10) 0 e in let some = ten k in absurd (omega arith)
    either false e l = l ∙ omega arith

pub small_length : (n : ℕ) → n < 2 ^ 64 → length (decimal n) ≤ 20
small_length n small = length-decimal-le 20 n (omega arith) (omega arith) small

same_decimal : (m n : ℕ) → m < 2 ^ 64 → decimal m ≡ decimal n → m ≡ n
same_decimal m n small e = ⊎_elim within beyond (cases_lt n (10 ^ 64))
  where
    within : n < 10 ^ 64 → m ≡ n
    within low = sym (decimal_is_IsNumeral_wide m (omega arith)).1 ∙ ap (digits_value 10) e ∙ (decimal_is_IsNumeral_wide n low).1

    beyond : 10 ^ 64 ≤ n → m ≡ n
    beyond high =
        let long : length (decimal n) ≡ 64 = ap length (sym (spelled n)) ∙ onto_length 64 n [] high in
        let short : length (decimal m) ≤ 20 = small_length m small in
        absurd (omega (arith, ap length e))

-- what stands behind the digits is no digit
abbrev NoDigit : List ℕ → Type 0
NoDigit [] = Unit {0}
NoDigit (c ∷ cs) = 57 < c

behind_digits : (a b s t : List ℕ) → Digits a → Digits b → NoDigit s → NoDigit t → a ++ s ≡ b ++ t → (a ≡ b) × (s ≡ t)
behind_digits [] [] s t da db hs ht e = (refl, e)
behind_digits [] (y ∷ b) [] t da db hs ht e = absurd (cc)
behind_digits [] (y ∷ b) (x ∷ s) t da db hs ht e = let h : x ≡ y = cc in absurd (omega (arith, db.1))
behind_digits (x ∷ a) [] s [] da db hs ht e = absurd (cc)
behind_digits (x ∷ a) [] s (y ∷ t) da db hs ht e = let h : x ≡ y = cc in absurd (omega (arith, da.1))
behind_digits (x ∷ a) (y ∷ b) s t da db hs ht e =
    let h : x ≡ y = cc in
    let k : a ++ s ≡ b ++ t = cc in
    let r = behind_digits a b s t da.2 db.2 hs ht k in
    let p = r.0 in
    (cc, r.1)

suffix_apart : (p : List ℕ) → NoDigit (suffix p)
suffix_apart [] = tt
suffix_apart (c ∷ p) = omega arith

suffix_same : (p q : List ℕ) → suffix p ≡ suffix q → p ≡ q
suffix_same [] [] e = refl
suffix_same [] (y ∷ q) e = absurd (cc)
suffix_same (x ∷ p) [] e = absurd (cc)
suffix_same (x ∷ p) (y ∷ q) e = ap (drop 1) e

folded_suffix : (p : List ℕ) → in_lower_case (suffix p) ≡ suffix (in_lower_case p)
folded_suffix [] = refl
folded_suffix (c ∷ p) = refl

lower_digit : (c : ℕ) → c ≤ 57 → to_ascii_lowercase c ≡ c
lower_digit c h = grind (arith, nat_tests)

folded_digits : (cs : List ℕ) → Digits cs → in_lower_case cs ≡ cs
folded_digits [] h = refl
folded_digits (c ∷ cs) h = let here = lower_digit c h.1 in let rest = folded_digits cs h.2 in cc

-- a number and a pin without case
folded_tail : (n : ℕ) (p : List ℕ) → in_lower_case (decimal n ++ suffix p) ≡ decimal n ++ suffix (in_lower_case p)
folded_tail n p = folded_append (decimal n) (suffix p) ∙ ap₂ (λ a b. a ++ b) (folded_digits (decimal n) (of_decimal n)) (folded_suffix p)

same_tail : (i : ℕ) (p : List ℕ) (j : ℕ) (q : List ℕ) → i < 2 ^ 64 → in_lower_case (decimal i ++ suffix p) ≡ in_lower_case (decimal j ++ suffix q) → (i ≡ j) × (in_lower_case p ≡ in_lower_case q)
same_tail i p j q small e =
    let r = behind_digits (decimal i) (decimal j) (suffix (in_lower_case p)) (suffix (in_lower_case q)) (of_decimal i) (of_decimal j) (suffix_apart (in_lower_case p)) (suffix_apart (in_lower_case q)) (sym (folded_tail i p) ∙ e ∙ folded_tail j q) in
    (same_decimal i j small r.0, suffix_same (in_lower_case p) (in_lower_case q) r.1)

tail_of : (i : ℕ) (p : List ℕ) (j : ℕ) (q : List ℕ) → (i ≡ j) × (in_lower_case p ≡ in_lower_case q) → in_lower_case (decimal i ++ suffix p) ≡ in_lower_case (decimal j ++ suffix q)
tail_of i p j q h = folded_tail i p ∙ ap₂ (λ n r. decimal n ++ suffix r) h.0 h.1 ∙ sym (folded_tail j q)

tails : (i : ℕ) (p : List ℕ) (j : ℕ) (q : List ℕ) → i < 2 ^ 64 → bytes_eq (in_lower_case (decimal i ++ suffix p)) (in_lower_case (decimal j ++ suffix q)) ≡ (nat_eq i j && bytes_eq (in_lower_case p) (in_lower_case q))
tails i p j q small =
    same_from_decides {P = (i ≡ j) × (in_lower_case p ≡ in_lower_case q)} _ _
    ((λ h. same_tail i p j q small (bytes_same _ _ h)), (λ h. same_bytes _ _ (tail_of i p j q h)))
    (Decides-and (nat_eq i j) (bytes_eq (in_lower_case p) (in_lower_case q)) (Decides-eqb i j) (bytes_eq-Decides (in_lower_case p) (in_lower_case q)))

-- the compiler's own names
pub wire_own : (id : ℕ) (pin : List ℕ) → is_own (in_lower_case (wire_name id pin)) ≡ true
wire_own id pin = refl

pub memory_own : (k : Memory) → is_own (in_lower_case (memory_name k)) ≡ true
memory_own (AtEdge id) = refl
memory_own (AtOutput id pin) = refl

pub counter_own : is_own (in_lower_case counter_name) ≡ true
counter_own = refl

-- a wire's name, of which one has a small number
pub same_wires : (i : ℕ) (p : List ℕ) (j : ℕ) (q : List ℕ) → i < 2 ^ 64 → bytes_eq (in_lower_case (wire_name i p)) (in_lower_case (wire_name j q)) ≡ (nat_eq i j && bytes_eq (in_lower_case p) (in_lower_case q))
same_wires i p j q small = tails i p j q small

pub same_wires_to : (i : ℕ) (p : List ℕ) (j : ℕ) (q : List ℕ) → j < 2 ^ 64 → bytes_eq (in_lower_case (wire_name i p)) (in_lower_case (wire_name j q)) ≡ (nat_eq i j && bytes_eq (in_lower_case p) (in_lower_case q))
same_wires_to i p j q small =
    bytes_swapped (in_lower_case (wire_name i p)) (in_lower_case (wire_name j q)) ∙ same_wires j q i p small ∙ ap₂ (λ a b. a && b) (numbers_swapped j i) (bytes_swapped (in_lower_case q) (in_lower_case p))

-- a memory whose number is small
abbrev pub IsSmall : Memory → Type 0
IsSmall (AtEdge id) = id < 2 ^ 64
IsSmall (AtOutput id pin) = id < 2 ^ 64

decimals : (i j : ℕ) → i < 2 ^ 64 → bytes_eq (in_lower_case (decimal i)) (in_lower_case (decimal j)) ≡ nat_eq i j
decimals i j small =
    same_from_decides {P = i ≡ j} _ _
    ((λ h. same_decimal i j small (sym (folded_digits (decimal i) (of_decimal i)) ∙ bytes_same _ _ h ∙ folded_digits (decimal j) (of_decimal j))), (λ e. same_bytes _ _ (ap (λ n. in_lower_case (decimal n)) e)))
    (Decides-eqb i j)

pub same_memories : (j k : Memory) → IsSmall j → bytes_eq (in_lower_case (memory_name j)) (in_lower_case (memory_name k)) ≡ same_memory j k
same_memories (AtEdge i) (AtEdge j) small = decimals i j small
same_memories (AtEdge i) (AtOutput j q) small = refl
same_memories (AtOutput i p) (AtEdge j) small = refl
same_memories (AtOutput i p) (AtOutput j q) small = tails i p j q small

memories_swapped : (j k : Memory) → same_memory j k ≡ same_memory k j
memories_swapped (AtEdge i) (AtEdge j) = numbers_swapped i j
memories_swapped (AtEdge i) (AtOutput j q) = refl
memories_swapped (AtOutput i p) (AtEdge j) = refl
memories_swapped (AtOutput i p) (AtOutput j q) = ap₂ (λ a b. a && b) (numbers_swapped i j) (bytes_swapped (in_lower_case p) (in_lower_case q))

pub same_memories_to : (j k : Memory) → IsSmall k → bytes_eq (in_lower_case (memory_name j)) (in_lower_case (memory_name k)) ≡ same_memory j k
same_memories_to j k small = bytes_swapped (in_lower_case (memory_name j)) (in_lower_case (memory_name k)) ∙ same_memories k j small ∙ memories_swapped k j

-- names of different uses
pub wire_not_counter : (id : ℕ) (pin : List ℕ) → bytes_eq (in_lower_case (wire_name id pin)) (in_lower_case counter_name) ≡ false
wire_not_counter id pin = refl

pub counter_not_wire : (id : ℕ) (pin : List ℕ) → bytes_eq (in_lower_case counter_name) (in_lower_case (wire_name id pin)) ≡ false
counter_not_wire id pin = refl

pub wire_not_memory : (id : ℕ) (pin : List ℕ) (k : Memory) → bytes_eq (in_lower_case (wire_name id pin)) (in_lower_case (memory_name k)) ≡ false
wire_not_memory id pin (AtEdge j) = refl
wire_not_memory id pin (AtOutput j q) = refl

pub memory_not_wire : (k : Memory) (id : ℕ) (pin : List ℕ) → bytes_eq (in_lower_case (memory_name k)) (in_lower_case (wire_name id pin)) ≡ false
memory_not_wire (AtEdge j) id pin = refl
memory_not_wire (AtOutput j q) id pin = refl

pub memory_not_counter : (k : Memory) → bytes_eq (in_lower_case (memory_name k)) (in_lower_case counter_name) ≡ false
memory_not_counter (AtEdge j) = refl
memory_not_counter (AtOutput j q) = refl

pub counter_not_memory : (k : Memory) → bytes_eq (in_lower_case counter_name) (in_lower_case (memory_name k)) ≡ false
counter_not_memory (AtEdge j) = refl
counter_not_memory (AtOutput j q) = refl

-- a name that a declaration may have
pub declared_name : (x : List ℕ) → is_reserved x ≡ false → is_own (in_lower_case x) ≡ false
declared_name x h = own_folded x ∙ not_own x h
