-- Which tokens begin with which bytes, and the longest token at the front of a text.
use Rattle.std.proofs.Common.{◌≡◌, ◌⊎◌, ◌<◌, ◌&&◌, not, nat_eq, nat_le, nat_lt, ℕ, ℤ, Bool, true, false, inl, inr, List, [], ◌∷◌, ◌++◌, length, get_or, Some, refl, ap, arith, sym, ◌∙◌}
use Rattle.std.specs.Prelude.{codes}
use Rattle.std.specs.Char.{to_ascii_lowercase}
use Rattle.std.specs.List.{list_all}
use Rattle.std.specs.Str.{str_eq_ignore_ascii_case}
use Rattle.std.proofs.lemmas.Bool.{cases_Bool, and_parts, eqb-true}
use Rattle.std.proofs.lemmas.Slice.Eq.{bytes_eq-Decides}
use Rattle.plcx_types.specs.declared.ty.Ty.{Ty}
use Rattle.plcx_types.specs.declared.ty.Ty.TheVariants as ty
use Rattle.plcx_types.specs.Name.{in_lower_case, is_first_byte, is_next_byte, is_identifier}
use Rattle.plcx_types.specs.Reserved.{is_keyword, is_in, keywords}
use Rattle.plcx_types.specs.Literal.{type_word, IsTruth}
use Rattle.plcx_types.specs.Literal as form
use Rattle.plcx_lex.specs.Number as number
use Rattle.plcx_lex.specs.Number.{IsTyped, IsLiteral}
use Rattle.plcx_lex.specs.ReadNumber.{named}
use Rattle.plcx_types.specs.Address.{is_one_of, IsAddressForm}
use Rattle.plcx_lex.specs.Lexis.{is_decimal, sign_texts, IsToken}
use Rattle.plcx_lex.specs.declared.token.TokenKind.{TokenKind}
use Rattle.plcx_lex.specs.declared.token.TokenKind.TheVariants as kind
use Rattle.plcx_lex.specs.Scan.{Typed, Sign}
use Rattle.plcx_lex.proofs.Folds.{fold_first, fold_next, fold_all}
use Rattle.plcx_lex.proofs.NumeralScan.{folded_get, folded_length}
use Rattle.plcx_lex.proofs.AddressScan.{head}
use Rattle.plcx_lex.proofs.SignScan.{listed}

-- ---- words in any case

pub fold_identifier : (text : List ℕ) → is_identifier (in_lower_case text) ≡ is_identifier text
fold_identifier [] = refl
fold_identifier (b ∷ bs) = rw (folded_length bs, fold_all is_next_byte bs fold_next, fold_next b, fold_first b) refl

in_table : (table : List (List ℕ)) (word : List ℕ) → list_all is_identifier table ≡ true → is_in table word ≡ true → is_identifier word ≡ true
in_table [] word all any = absurd (cc)
in_table (entry ∷ table) word all any =
    let parts = and_parts (is_identifier entry) (list_all is_identifier table) all in
    elim (cases_Bool (str_eq_ignore_ascii_case word entry)) [
      | inl same ↦
          let is : in_lower_case word ≡ in_lower_case entry = (bytes_eq-Decides (in_lower_case word) (in_lower_case entry)).0 same in
          sym (fold_identifier word) ∙ ap is_identifier is ∙ fold_identifier entry ∙ parts.0
      | inr other ↦ in_table table word parts.1 (rw other at any)
    ]

pub keyword_word : (word : List ℕ) → is_keyword word ≡ true → is_identifier word ≡ true
keyword_word word is = in_table keywords word refl is

truth_word : (xs : List ℕ) (n : ℤ) → IsTruth xs n → is_identifier xs ≡ true
truth_word xs n form.IsTruth.truth = refl
truth_word xs n form.falsehood = refl

-- ---- numbers

named_again : (t : Ty) → named (type_word t) ≡ Some t
named_again ty.Bool = refl
named_again ty.Byte = refl
named_again ty.Word = refl
named_again ty.Dword = refl
named_again ty.Lword = refl
named_again ty.Sint = refl
named_again ty.Int = refl
named_again ty.Dint = refl
named_again ty.Lint = refl
named_again ty.Usint = refl
named_again ty.Uint = refl
named_again ty.Udint = refl
named_again ty.Ulint = refl
named_again ty.Time = refl

-- a number is a word, or stands behind the name of its type
pub number_way : (xs : List ℕ) (t : Ty) (n : ℤ) → IsTyped xs t n → (is_identifier xs ≡ true) ⊎ Typed xs
number_way xs t n (number.IsTyped.truth is) = inl (truth_word xs n is)
number_way xs t n (number.typed {t = u} {text = rest} is) = inr (u, type_word u, rest, refl, named_again u, (n, is))
number_way xs t n (number.short_time {text = rest} is) = inr (ty.Time, codes "t", rest, refl, refl, (n, form.time is))

-- its first byte
record Letter (xs : List ℕ) : Type 0 where
  some : 0 < length xs
  first : is_first_byte (get_or xs 0 0) ≡ true

identifier_letter : (xs : List ℕ) → is_identifier xs ≡ true → Letter xs
identifier_letter [] is = absurd (cc)
identifier_letter (b ∷ bs) is = record { some = omega arith; first = (and_parts (nat_lt 0 (length (b ∷ bs)) && nat_le (length (b ∷ bs)) 128) (is_first_byte b) (and_parts _ (list_all is_next_byte (b ∷ bs)) is).0).1 }

type_letter : (t : Ty) (rest : List ℕ) → Letter (type_word t ++ rest)
type_letter ty.Bool rest = record { some = omega arith; first = refl }
type_letter ty.Byte rest = record { some = omega arith; first = refl }
type_letter ty.Word rest = record { some = omega arith; first = refl }
type_letter ty.Dword rest = record { some = omega arith; first = refl }
type_letter ty.Lword rest = record { some = omega arith; first = refl }
type_letter ty.Sint rest = record { some = omega arith; first = refl }
type_letter ty.Int rest = record { some = omega arith; first = refl }
type_letter ty.Dint rest = record { some = omega arith; first = refl }
type_letter ty.Lint rest = record { some = omega arith; first = refl }
type_letter ty.Usint rest = record { some = omega arith; first = refl }
type_letter ty.Uint rest = record { some = omega arith; first = refl }
type_letter ty.Udint rest = record { some = omega arith; first = refl }
type_letter ty.Ulint rest = record { some = omega arith; first = refl }
type_letter ty.Time rest = record { some = omega arith; first = refl }

typed_letter : (xs : List ℕ) (t : Ty) (n : ℤ) → IsTyped xs t n → Letter xs
typed_letter xs t n (number.IsTyped.truth is) = identifier_letter xs (truth_word xs n is)
typed_letter xs t n (number.typed {t = u} {text = rest} is) = type_letter u (codes "#" ++ rest)
typed_letter xs t n (number.short_time is) = record { some = omega arith; first = refl }

letter_folded : (text : List ℕ) → Letter (in_lower_case text) → Letter text
letter_folded text is = let some : 0 < length text = omega (arith, is.some, folded_length text) in record { some = some; first = sym (fold_first (get_or text 0 0)) ∙ ap is_first_byte (sym (folded_get text 0 some)) ∙ is.first }

-- ---- first bytes

abbrev pub First : TokenKind → ℕ → Type 0
First kind.Keyword b = is_first_byte b ≡ true
First kind.Name b = is_first_byte b ≡ true
First kind.Number b = is_first_byte b ≡ true
First kind.Digits b = is_decimal b ≡ true
First kind.Address b = b ≡ 37
First kind.Sign b = is_one_of (codes ":;,.()+-*/=<>") b ≡ true

pub record Starts (k : TokenKind) (text : List ℕ) : Type 0 where
  pub some : 0 < length text
  pub first : First k (get_or text 0 0)

starts_word : (k : TokenKind) (text : List ℕ) → ((b : ℕ) → is_first_byte b ≡ true → First k b) → Letter text → Starts k text
starts_word k text to is = record { some = is.some; first = to (get_or text 0 0) is.first }

digits_start : (text : List ℕ) → list_all is_decimal text ≡ true → 0 < length text → is_decimal (get_or text 0 0) ≡ true
digits_start [] all some = absurd (omega arith)
digits_start (b ∷ bs) all some = (and_parts (is_decimal b) (list_all is_decimal bs) all).0

address_start : (text : List ℕ) → IsAddressForm (in_lower_case text) → Starts kind.Address text
address_start text is =
    let front = head (in_lower_case text) is in
    let some : 0 < length text = omega (arith, front.long, folded_length text) in
    record { some = some; first = percent (get_or text 0 0) (sym (folded_get text 0 some) ∙ front.mark) }
  where
    percent : (b : ℕ) → to_ascii_lowercase b ≡ 37 → b ≡ 37
    percent b h = grind arith

sign_start : (text : List ℕ) → Sign text → Starts kind.Sign text
sign_start [] is = absurd (cc)
sign_start (b ∷ bs) is = record { some = omega arith; first = listed (λ t. is_one_of (codes ":;,.()+-*/=<>") (get_or t 0 0)) sign_texts (b ∷ bs) refl is }

pub token_starts : (k : TokenKind) (text : List ℕ) → IsToken k text → Starts k text
token_starts kind.Keyword text is = starts_word kind.Keyword text (λ b h. h) (identifier_letter text (keyword_word text is.0))
token_starts kind.Name text is = starts_word kind.Name text (λ b h. h) (identifier_letter text is.0)
token_starts kind.Number text is = starts_word kind.Number text (λ b h. h) (letter_folded text (typed_letter (in_lower_case text) is.0 is.1 is.2))
token_starts kind.Digits text is = record { some = is.1; first = digits_start text is.0 is.1 }
token_starts kind.Address text is = address_start text is
token_starts kind.Sign text is = sign_start text is

-- what all of some bytes have, a byte among them has
pub one_of : (p : ℕ → Bool) (letters : List ℕ) (b : ℕ) → list_all p letters ≡ true → is_one_of letters b ≡ true → p b ≡ true
one_of p [] b all any = absurd (cc)
one_of p (letter ∷ letters) b all any =
    let parts = and_parts (p letter) (list_all p letters) all in
    elim (cases_Bool (nat_eq b letter)) [ inl same ↦ (let is : b ≡ letter = eqb-true b letter same in ap p is ∙ parts.0) | inr other ↦ one_of p letters b parts.1 (rw other at any) ]

pub letter_no_digit : (b : ℕ) → is_first_byte b ≡ true → is_decimal b ≡ true → ⊥
letter_no_digit b p q = grind arith

pub letter_no_percent : (b : ℕ) → is_first_byte b ≡ true → b ≡ 37 → ⊥
letter_no_percent b p q = grind arith

pub letter_no_sign : (b : ℕ) → is_first_byte b ≡ true → is_one_of (codes ":;,.()+-*/=<>") b ≡ true → ⊥
letter_no_sign b p q = let no : not (is_first_byte b) ≡ true = one_of (λ c. not (is_first_byte c)) (codes ":;,.()+-*/=<>") b refl q in let bad : not true ≡ true = rw p at no in cc

pub digit_no_percent : (b : ℕ) → is_decimal b ≡ true → b ≡ 37 → ⊥
digit_no_percent b p q = grind arith

pub digit_no_sign : (b : ℕ) → is_decimal b ≡ true → is_one_of (codes ":;,.()+-*/=<>") b ≡ true → ⊥
digit_no_sign b p q = let no : not (is_decimal b) ≡ true = one_of (λ c. not (is_decimal c)) (codes ":;,.()+-*/=<>") b refl q in let bad : not true ≡ true = rw p at no in cc

pub sign_no_percent : (b : ℕ) → is_one_of (codes ":;,.()+-*/=<>") b ≡ true → b ≡ 37 → ⊥
sign_no_percent b p q = grind arith

-- a token that begins with a letter is a word or a number with its type's name
pub word_way : (k : TokenKind) (text : List ℕ) → is_first_byte (get_or text 0 0) ≡ true → IsToken k text → (is_identifier text ≡ true) ⊎ Typed (in_lower_case text)
word_way kind.Keyword text first is = inl (keyword_word text is.0)
word_way kind.Name text first is = inl is.0
word_way kind.Number text first is = elim (number_way (in_lower_case text) is.0 is.1 is.2) [ inl word ↦ inl (sym (fold_identifier text) ∙ word) | inr typed ↦ inr typed ]
word_way kind.Digits text first is = absurd (letter_no_digit (get_or text 0 0) first (token_starts kind.Digits text is).first)
word_way kind.Address text first is = absurd (letter_no_percent (get_or text 0 0) first (token_starts kind.Address text is).first)
word_way kind.Sign text first is = absurd (letter_no_sign (get_or text 0 0) first (token_starts kind.Sign text is).first)

pub digits_way : (k : TokenKind) (text : List ℕ) → is_decimal (get_or text 0 0) ≡ true → IsToken k text → IsToken kind.Digits text
digits_way kind.Keyword text first is = absurd (letter_no_digit (get_or text 0 0) (token_starts kind.Keyword text is).first first)
digits_way kind.Name text first is = absurd (letter_no_digit (get_or text 0 0) (token_starts kind.Name text is).first first)
digits_way kind.Number text first is = absurd (letter_no_digit (get_or text 0 0) (token_starts kind.Number text is).first first)
digits_way kind.Digits text first is = is
digits_way kind.Address text first is = absurd (digit_no_percent (get_or text 0 0) first (token_starts kind.Address text is).first)
digits_way kind.Sign text first is = absurd (digit_no_sign (get_or text 0 0) first (token_starts kind.Sign text is).first)

pub address_way : (k : TokenKind) (text : List ℕ) → get_or text 0 0 ≡ 37 → IsToken k text → IsAddressForm (in_lower_case text)
address_way kind.Keyword text first is = absurd (letter_no_percent (get_or text 0 0) (token_starts kind.Keyword text is).first first)
address_way kind.Name text first is = absurd (letter_no_percent (get_or text 0 0) (token_starts kind.Name text is).first first)
address_way kind.Number text first is = absurd (letter_no_percent (get_or text 0 0) (token_starts kind.Number text is).first first)
address_way kind.Digits text first is = absurd (digit_no_percent (get_or text 0 0) (token_starts kind.Digits text is).first first)
address_way kind.Address text first is = is
address_way kind.Sign text first is = absurd (sign_no_percent (get_or text 0 0) (token_starts kind.Sign text is).first first)

pub sign_way : (k : TokenKind) (text : List ℕ) → is_first_byte (get_or text 0 0) ≡ false → is_decimal (get_or text 0 0) ≡ false → (get_or text 0 0 ≡ 37 → ⊥) → IsToken k text → Sign text
sign_way kind.Keyword text letter digit percent is = absurd (let bad = sym letter ∙ (token_starts kind.Keyword text is).first in cc)
sign_way kind.Name text letter digit percent is = absurd (let bad = sym letter ∙ (token_starts kind.Name text is).first in cc)
sign_way kind.Number text letter digit percent is = absurd (let bad = sym letter ∙ (token_starts kind.Number text is).first in cc)
sign_way kind.Digits text letter digit percent is = absurd (let bad = sym digit ∙ (token_starts kind.Digits text is).first in cc)
sign_way kind.Address text letter digit percent is = absurd (percent (token_starts kind.Address text is).first)
sign_way kind.Sign text letter digit percent is = is
