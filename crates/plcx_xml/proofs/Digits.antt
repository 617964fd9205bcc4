-- Numbers of digits, and the characters of those numbers.
use Rattle.std.proofs.Common.{◌≡◌, ◌<◌, ◌≤◌, ℕ, zero, suc, ◌+◌, ◌*◌, Bool, true, false, ◌&&◌, List, [], ◌∷◌, length, take, drop, refl, ap, sym, subst, ◌∙◌, arith, get_or, None, Some, nat_lt}
use Rattle.std.specs.Prelude.{fold}
use Rattle.std.specs.declared.option.Option.{Option}
use Rattle.std.specs.Char.{digit_value, IsScalar}
use Rattle.std.specs.Option.{SomeIff}
use Rattle.std.specs.List.{list_all}
use Rattle.std.proofs.Math.Nat.{le-mul_of_pos_right}
use Rattle.std.proofs.lemmas.Bool.{lt-ltb}
use Rattle.std.proofs.lemmas.List.{take_all, take-append-drop}
use Rattle.std.proofs.lemmas.List.Sums.{fold-append}
use Rattle.plcx_xml.specs.Character.{is_character}
use Rattle.plcx_xml.specs.Reference.{are_digits, number, numbered}

abbrev with_digit : ℕ → ℕ → ℕ → ℕ
with_digit base n d = n * base + digit_value d

number-grows : (base : ℕ) (digits : List ℕ) (n : ℕ) → 0 < base → n ≤ fold (with_digit base) n digits
number-grows base [] n h = omega arith
number-grows base (d ∷ ds) n h =
    let once : n ≤ n * base = le-mul_of_pos_right n h in
    let more : n * base + digit_value d ≤ fold (with_digit base) (n * base + digit_value d) ds = number-grows base ds (n * base + digit_value d) h in
    omega arith

number-long : (base i : ℕ) (digits : List ℕ) → 0 < base → number base (take i digits) ≤ number base digits
number-long base i digits h =
    let whole : number base digits ≡ fold (with_digit base) (number base (take i digits)) (drop i digits) = ap (fold (with_digit base) 0) (sym (take-append-drop i digits)) ∙ fold-append (with_digit base) 0 (take i digits) (drop i digits) in
    let grows = number-grows base (drop i digits) (number base (take i digits)) h in
    omega arith

-- a number past the last character is none
no_character : (c : ℕ) → 0x10_FFFF < c → is_character c ≡ false
no_character c h =
    grind arith

and-false : (a b : Bool) → b ≡ false → (a && b) ≡ false
and-false true b h = h
and-false false b h = refl

not-passed : (p : ℕ → Bool) (digits : List ℕ) (i : ℕ) → i < length digits → p (get_or digits i 0) ≡ false → list_all p digits ≡ false
not-passed p [] i h k = absurd (omega arith)
not-passed p (x ∷ xs) zero h k = rw k refl
not-passed p (x ∷ xs) (suc i) h k = and-false (p x) (list_all p xs) (not-passed p xs i (omega arith) k)

pub past-last : (base i : ℕ) (digits : List ℕ) (n : ℕ) → 0 < base → n ≡ number base (take i digits) → 0x10_FFFF < n → None ≡ numbered base digits
past-last base i digits n h e k =
    let long = number-long base i digits h in
    let none : is_character (number base digits) ≡ false = no_character (number base digits) (omega arith) in
    rw none (rw (and-false (are_digits base digits) false refl) refl)

pub no-digit : (base i : ℕ) (digits : List ℕ) (d : ℕ) → i < length digits → d ≡ digit_value (get_or digits i 0) → base ≤ d → None ≡ numbered base digits
no-digit base i digits d h e k =
    let small : nat_lt (digit_value (get_or digits i 0)) base ≡ false = grind (arith, lt-ltb) in
    let none : list_all (λ d. nat_lt (digit_value d) base) digits ≡ false = not-passed (λ d. nat_lt (digit_value d) base) digits i h small in
    rw none (rw (and-false (nat_lt 0 (length digits)) false refl) refl)

pub character-scalar : (c : ℕ) → is_character c ≡ true → IsScalar c
character-scalar c h = grind arith

some-iff : (o : Option ℕ) (P : Type 0) (n : ℕ) → P → SomeIff o P n → o ≡ Some n
some-iff None P n h s = absurd (s h)
some-iff (Some x) P n h s = ap (λ (m : ℕ). Some m) s.1

pub all-digits : (base i n : ℕ) (digits : List ℕ) (o : Option ℕ) → 0 < length digits → length digits ≤ i → list_all (λ d. nat_lt (digit_value d) base) (take i digits) ≡ true → n ≡ number base (take i digits) → is_character n ≡ true → SomeIff o (IsScalar n) n → o ≡ numbered base digits
all-digits base i n digits o h l d e c s =
    let whole : take i digits ≡ digits = take_all i digits l in
    let d' : list_all (λ d. nat_lt (digit_value d) base) digits ≡ true = subst (λ (xs : List ℕ). list_all (λ d. nat_lt (digit_value d) base) xs ≡ true) whole d in
    let e' : n ≡ number base digits = subst (λ (xs : List ℕ). n ≡ number base xs) whole e in
    let c' : is_character (number base digits) ≡ true = subst (λ (m : ℕ). is_character m ≡ true) e' c in
    let all : Some (number base digits) ≡ numbered base digits = rw (lt-ltb 0 (length digits) h, d', c') refl in
    some-iff o (IsScalar n) n (character-scalar n c) s ∙ (ap (λ (m : ℕ). Some m) e' ∙ all)

pub not-character : (base i n : ℕ) (digits : List ℕ) → length digits ≤ i → n ≡ number base (take i digits) → is_character n ≡ false → None ≡ numbered base digits
not-character base i n digits l e c =
    let whole : take i digits ≡ digits = take_all i digits l in
    let e' : n ≡ number base digits = subst (λ (xs : List ℕ). n ≡ number base xs) whole e in
    let none : is_character (number base digits) ≡ false = subst (λ (m : ℕ). is_character m ≡ false) e' c in
    rw none (rw (and-false (are_digits base digits) false refl) refl)
