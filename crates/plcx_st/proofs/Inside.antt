-- Which bytes stand inside of a token, behind its first one.
use Rattle.std.proofs.Common.{◌≡◌, ◌&&◌, ◌||◌, ◌<◌, ℕ, ℤ, nat_lt, nat_le, get_or, Bool, true, false, inl, inr, List, [], ◌∷◌, ◌++◌, length, drop, refl, ap, sym, ◌∙◌, arith, nat_eq}
use Rattle.std.specs.Prelude.{codes, not, if◌then◌else◌}
use Rattle.std.specs.Char.{to_ascii_lowercase}
use Rattle.std.specs.List.{list_all, list_any}
use Rattle.std.specs.Str.{bytes_eq, str_eq_ignore_ascii_case}
use Rattle.std.proofs.lemmas.Bool.{cases_Bool, and_parts, and_from, eqb-true}
use Rattle.std.proofs.lemmas.Bool.Decides.{nat_tests}
use Rattle.std.proofs.lemmas.List.{map-append}
use Rattle.std.proofs.lemmas.Slice.Eq.{bytes_eq-Decides}
use Rattle.plcx_types.specs.declared.duration.TimeUnit.{TimeUnit}
use Rattle.plcx_types.specs.declared.duration.TimeUnit.TheVariants as unit
use Rattle.plcx_types.specs.declared.ty.Ty.{Ty}
use Rattle.plcx_types.specs.declared.ty.Ty.TheVariants as ty
use Rattle.plcx_types.specs.Name.{is_next_byte, is_identifier, is_first_byte, in_lower_case}
use Rattle.plcx_types.specs.Reserved.{keywords, is_keyword}
use Rattle.plcx_types.specs.Numeral as numeral
use Rattle.plcx_types.specs.Numeral.{is_digit, are_digits, IsWholeNumber}
use Rattle.plcx_types.specs.Duration as duration
use Rattle.plcx_types.specs.Duration.{letters_of, AreDigits, AreParts, IsTime}
use Rattle.plcx_types.specs.Literal as literal
use Rattle.plcx_types.specs.Literal.{type_word, IsTruth, IsNumber}
use Rattle.plcx_lex.specs.declared.token.TokenKind.{TokenKind}
use Rattle.plcx_lex.specs.declared.token.TokenKind.TheVariants as kind
use Rattle.plcx_lex.specs.Number as typed
use Rattle.plcx_lex.specs.Number.{IsTyped}
use Rattle.plcx_types.specs.Address as address
use Rattle.plcx_types.specs.Address.{is_one_of, ArePlaces, IsAddressForm}
use Rattle.plcx_lex.specs.Lexis.{is_decimal, sign_texts, IsToken}

-- ---- lists

pub all_append : {X : Type 0} (p : X → Bool) (xs ys : List X) → list_all p xs ≡ true → list_all p ys ≡ true → list_all p (xs ++ ys) ≡ true
all_append p [] ys a b = b
all_append p (x ∷ xs) ys a b = let parts = and_parts (p x) (list_all p xs) a in and_from (p x) (list_all p (xs ++ ys)) parts.0 (all_append p xs ys parts.1 b)

pub at_place : {X : Type 0} (p : X → Bool) (xs : List X) (b : X) (ys : List X) → list_all p (xs ++ b ∷ ys) ≡ true → p b ≡ true
at_place p [] b ys h = (and_parts (p b) (list_all p ys) h).0
at_place p (x ∷ xs) b ys h = at_place p xs b ys (and_parts (p x) (list_all p (xs ++ b ∷ ys)) h).1

pub all_weaken : {X : Type 0} (p q : X → Bool) (xs : List X) → ((x : X) → p x ≡ true → q x ≡ true) → list_all p xs ≡ true → list_all q xs ≡ true
all_weaken p q [] weak h = refl
all_weaken p q (x ∷ xs) weak h = let parts = and_parts (p x) (list_all p xs) h in and_from (q x) (list_all q xs) (weak x parts.0) (all_weaken p q xs weak parts.1)

-- what all of a table pass, a member passes
pub member_test : (q : ℕ → Bool) (bs : List ℕ) (b : ℕ) → list_all q bs ≡ true → list_any (nat_eq b) bs ≡ true → q b ≡ true
member_test q [] b all h = absurd (let no : false ≡ true = h in cc)
member_test q (c ∷ bs) b all h =
    let parts = and_parts (q c) (list_all q bs) all in
    elim (cases_Bool (nat_eq b c)) [
      | inl same ↦ ap q (eqb-true b c same) ∙ parts.0
      | inr other ↦ member_test q bs b parts.1 (rw other at h)
    ]

pub same_bytes : (xs ys : List ℕ) → bytes_eq xs ys ≡ true → xs ≡ ys
same_bytes xs ys h = (bytes_eq-Decides xs ys).0 h

pub table_test : (q : List ℕ → Bool) (table : List (List ℕ)) (w : List ℕ) → list_all q table ≡ true → list_any (bytes_eq w) table ≡ true → q w ≡ true
table_test q [] w all h = absurd (let no : false ≡ true = h in cc)
table_test q (e ∷ table) w all h =
    let parts = and_parts (q e) (list_all q table) all in
    elim (cases_Bool (bytes_eq w e)) [
      | inl same ↦ ap q (same_bytes w e same) ∙ parts.0
      | inr other ↦ table_test q table w parts.1 (rw other at h)
    ]

-- ---- the case of letters

pub lower_next : (b : ℕ) → is_next_byte (to_ascii_lowercase b) ≡ is_next_byte b
lower_next b = grind arith

pub folded_next : (xs : List ℕ) → list_all is_next_byte (in_lower_case xs) ≡ list_all is_next_byte xs
folded_next [] = refl
folded_next (x ∷ xs) = rw (lower_next x, folded_next xs)

-- ---- the bytes of each kind

keyword_in : (table : List (List ℕ)) (w : List ℕ) → list_all (list_all is_next_byte) table ≡ true → list_any (λ e. str_eq_ignore_ascii_case w e) table ≡ true → list_all is_next_byte w ≡ true
keyword_in [] w all h = absurd (let no : false ≡ true = h in cc)
keyword_in (e ∷ table) w all h =
    let parts = and_parts (list_all is_next_byte e) (list_all (list_all is_next_byte) table) all in
    elim (cases_Bool (str_eq_ignore_ascii_case w e)) [
      | inl same ↦ sym (folded_next w) ∙ ap (list_all is_next_byte) (same_bytes (in_lower_case w) (in_lower_case e) same) ∙ folded_next e ∙ parts.0
      | inr other ↦ keyword_in table w parts.1 (rw other at h)
    ]

pub keyword_bytes : (w : List ℕ) → is_keyword w ≡ true → list_all is_next_byte w ≡ true
keyword_bytes w h = keyword_in keywords w refl h

pub name_bytes : (w : List ℕ) → is_identifier w ≡ true → list_all is_next_byte w ≡ true
name_bytes w h = (and_parts (nat_lt 0 (length w) && nat_le (length w) 128 && is_first_byte (get_or w 0 0)) (list_all is_next_byte w) h).1

decimal_next : (b : ℕ) → is_decimal b ≡ true → is_next_byte b ≡ true
decimal_next b h = grind (arith, nat_tests)

pub digits_bytes : (w : List ℕ) → list_all is_decimal w ≡ true → list_all is_next_byte w ≡ true
digits_bytes w h = all_weaken is_decimal is_next_byte w decimal_next h

-- a byte of a number, in lower case
abbrev pub is_inner : ℕ → Bool
is_inner b = is_next_byte b || is_one_of (35 ∷ 43 ∷ 45 ∷ 46 ∷ []) b

digit_inner : (base b : ℕ) → is_digit base b ≡ true → is_inner b ≡ true
digit_inner base b h = grind (arith, nat_tests)

blank_inner : (b : ℕ) → nat_eq b 95 ≡ true → is_inner b ≡ true
blank_inner b h = ap is_inner (eqb-true b 95 h)

numeral_inner : (base : ℕ) (seen : Bool) (text : List ℕ) → are_digits base seen text ≡ true → list_all is_inner text ≡ true
numeral_inner base seen [] h = refl
numeral_inner base seen (b ∷ bs) h = elim (cases_Bool (is_digit base b)) [
  | inl digit ↦ and_from (is_inner b) (list_all is_inner bs) (digit_inner base b digit) (numeral_inner base true bs (rw digit at h))
  | inr other ↦
      let gap : (seen && nat_eq b 95 && are_digits base false bs) ≡ true = rw other at h in
      let parts = and_parts (seen && nat_eq b 95) (are_digits base false bs) gap in
      and_from (is_inner b) (list_all is_inner bs) (blank_inner b (and_parts seen (nat_eq b 95) parts.0).1) (numeral_inner base false bs parts.1)
]

whole_inner : {text : List ℕ} {n : ℤ} → IsWholeNumber text n → list_all is_inner text ≡ true
whole_inner (numeral.plain {text = text} h) = numeral_inner 10 false text h.digits
whole_inner (numeral.plus {text = text} h) = numeral_inner 10 false text h.digits
whole_inner (numeral.minus {text = text} h) = numeral_inner 10 false text h.digits
whole_inner (numeral.binary {text = text} h) = numeral_inner 2 false text h.digits
whole_inner (numeral.octal {text = text} h) = numeral_inner 8 false text h.digits
whole_inner (numeral.hexadecimal {text = text} h) = numeral_inner 16 false text h.digits

digits_inner : {most : ℕ} {digits : List ℕ} → AreDigits most digits → list_all is_inner digits ≡ true
digits_inner {digits = digits} h = all_weaken (is_digit 10) is_inner digits (digit_inner 10) h.all

letters_inner : (u : TimeUnit) → list_all is_inner (letters_of u) ≡ true
letters_inner unit.Day = refl
letters_inner unit.Hour = refl
letters_inner unit.Minute = refl
letters_inner unit.Second = refl
letters_inner unit.Millisecond = refl

parts_inner : {us : List TimeUnit} {text : List ℕ} {ms : ℕ} → AreParts us text ms → list_all is_inner text ≡ true
parts_inner (duration.skip h) = parts_inner h
parts_inner (duration.last {u = u} {digits = digits} d) = all_append is_inner digits (letters_of u) (digits_inner d) (letters_inner u)
parts_inner (duration.point {u = u} {digits = digits} {decimals = decimals} d e h) =
    all_append is_inner digits (codes "." ++ (decimals ++ letters_of u)) (digits_inner d) (all_append is_inner decimals (letters_of u) (digits_inner e) (letters_inner u))
parts_inner (duration.more {u = u} {digits = digits} {rest = rest} d h) =
    all_append is_inner digits (letters_of u ++ rest) (digits_inner d) (all_append is_inner (letters_of u) rest (letters_inner u) (parts_inner h))
parts_inner (duration.apart {u = u} {digits = digits} {rest = rest} d h) =
    all_append is_inner digits (letters_of u ++ (codes "_" ++ rest)) (digits_inner d) (all_append is_inner (letters_of u) (codes "_" ++ rest) (letters_inner u) (parts_inner h))

time_inner : {text : List ℕ} {n : ℤ} → IsTime text n → list_all is_inner text ≡ true
time_inner (duration.ahead h) = parts_inner h
time_inner (duration.back h) = parts_inner h

truth_inner : {text : List ℕ} {n : ℤ} → IsTruth text n → list_all is_inner text ≡ true
truth_inner (literal.IsTruth.truth) = refl
truth_inner (literal.IsTruth.falsehood) = refl

number_inner : {t : Ty} {text : List ℕ} {n : ℤ} → IsNumber t text n → list_all is_inner text ≡ true
number_inner (literal.IsNumber.truth h) = truth_inner h
number_inner (literal.IsNumber.whole other h) = whole_inner h
number_inner (literal.IsNumber.time h) = time_inner h

-- what stands before the number of a type
behind_word : (t : Ty) (text : List ℕ) → list_all is_inner (type_word t ++ (codes "#" ++ text)) ≡ list_all is_inner text
behind_word ty.Bool text = refl
behind_word ty.Byte text = refl
behind_word ty.Word text = refl
behind_word ty.Dword text = refl
behind_word ty.Lword text = refl
behind_word ty.Sint text = refl
behind_word ty.Int text = refl
behind_word ty.Dint text = refl
behind_word ty.Lint text = refl
behind_word ty.Usint text = refl
behind_word ty.Uint text = refl
behind_word ty.Udint text = refl
behind_word ty.Ulint text = refl
behind_word ty.Time text = refl

pub typed_inner : {text : List ℕ} {t : Ty} {n : ℤ} → IsTyped text t n → list_all is_inner text ≡ true
typed_inner (typed.truth h) = truth_inner h
typed_inner (typed.typed {t = t} {text = text} h) = behind_word t text ∙ number_inner h
typed_inner (typed.short_time h) = time_inner h

-- no point stands before the first #
abbrev pub hash_first : List ℕ → Bool
hash_first [] = true
hash_first (b ∷ bs) = if nat_eq b 35 then true else (if nat_eq b 46 then false else hash_first bs)

behind_hash : (t : Ty) (text : List ℕ) → hash_first (type_word t ++ (codes "#" ++ text)) ≡ true
behind_hash ty.Bool text = refl
behind_hash ty.Byte text = refl
behind_hash ty.Word text = refl
behind_hash ty.Dword text = refl
behind_hash ty.Lword text = refl
behind_hash ty.Sint text = refl
behind_hash ty.Int text = refl
behind_hash ty.Dint text = refl
behind_hash ty.Lint text = refl
behind_hash ty.Usint text = refl
behind_hash ty.Uint text = refl
behind_hash ty.Udint text = refl
behind_hash ty.Ulint text = refl
behind_hash ty.Time text = refl

pub typed_hash : {text : List ℕ} {t : Ty} {n : ℤ} → IsTyped text t n → hash_first text ≡ true
typed_hash (typed.truth (literal.IsTruth.truth)) = refl
typed_hash (typed.truth (literal.IsTruth.falsehood)) = refl
typed_hash (typed.typed {t = t} {text = text} h) = behind_hash t text
typed_hash (typed.short_time h) = refl

word_hash : (x : ℕ) → is_next_byte x ≡ true → nat_eq x 35 ≡ false
word_hash x h = grind (arith, nat_tests)

word_point : (x : ℕ) → is_next_byte x ≡ true → nat_eq x 46 ≡ false
word_point x h = grind (arith, nat_tests)

pub no_hash : (w more : List ℕ) → list_all is_next_byte w ≡ true → hash_first (w ++ 46 ∷ more) ≡ false
no_hash [] more h = refl
no_hash (x ∷ w) more h =
    let parts = and_parts (is_next_byte x) (list_all is_next_byte w) h in
    rw (word_hash x parts.0, word_point x parts.0) (no_hash w more parts.1)

-- ---- addresses

abbrev pub is_place : ℕ → Bool
is_place b = is_next_byte b || is_one_of (37 ∷ 46 ∷ []) b

digit_place : (b : ℕ) → is_digit 10 b ≡ true → is_place b ≡ true
digit_place b h = grind (arith, nat_tests)

places_bytes : {most : ℕ} {text : List ℕ} → ArePlaces most text → list_all is_place text ≡ true
places_bytes (address.last {digits = digits} d) = all_weaken (is_digit 10) is_place digits digit_place d.all
places_bytes (address.more {digits = digits} {rest = rest} d h) = all_append is_place digits (codes "." ++ rest) (all_weaken (is_digit 10) is_place digits digit_place d.all) (places_bytes h)

pub address_bytes : {text : List ℕ} → IsAddressForm text → list_all is_place text ≡ true
address_bytes (address.plain {area = area} {places = places} a h) = and_from (is_place area) (list_all is_place places) (member_test is_place (codes "iqm") area refl a) (places_bytes h)
address_bytes (address.sized {area = area} {size = size} {places = places} a s h) =
    and_from (is_place area) (is_place size && list_all is_place places) (member_test is_place (codes "iqm") area refl a)
    (and_from (is_place size) (list_all is_place places) (member_test is_place (codes "xbwdl") size refl s) (places_bytes h))

-- the first byte, which is 0 where there is none
abbrev pub head : List ℕ → ℕ
head [] = 0
head (b ∷ bs) = b

pub address_head : {text : List ℕ} → IsAddressForm text → head text ≡ 37
address_head (address.plain a h) = refl
address_head (address.sized a s h) = refl

behind_head : (t : Ty) (text : List ℕ) → is_next_byte (head (type_word t ++ (codes "#" ++ text))) ≡ true
behind_head ty.Bool text = refl
behind_head ty.Byte text = refl
behind_head ty.Word text = refl
behind_head ty.Dword text = refl
behind_head ty.Lword text = refl
behind_head ty.Sint text = refl
behind_head ty.Int text = refl
behind_head ty.Dint text = refl
behind_head ty.Lint text = refl
behind_head ty.Usint text = refl
behind_head ty.Uint text = refl
behind_head ty.Udint text = refl
behind_head ty.Ulint text = refl
behind_head ty.Time text = refl

pub typed_head : {text : List ℕ} {t : Ty} {n : ℤ} → IsTyped text t n → is_next_byte (head text) ≡ true
typed_head (typed.truth (literal.IsTruth.truth)) = refl
typed_head (typed.truth (literal.IsTruth.falsehood)) = refl
typed_head (typed.typed {t = t} {text = text} h) = behind_head t text
typed_head (typed.short_time h) = refl

-- ---- tokens

pub opposite : (c : Bool) → c ≡ true → not c ≡ true → ⊥
opposite true a b = (let no : false ≡ true = b in absurd cc)
opposite false a b = (let no : false ≡ true = a in absurd cc)

folded_all : (p : ℕ → Bool) (xs : List ℕ) → list_all p (in_lower_case xs) ≡ list_all (λ c. p (to_ascii_lowercase c)) xs
folded_all p [] = refl
folded_all p (x ∷ xs) = ap (λ z. p (to_ascii_lowercase x) && z) (folded_all p xs)

-- what ends a token, unless it is its first byte
abbrev pub stops : List ℕ
stops = 32 ∷ 10 ∷ 59 ∷ 44 ∷ 41 ∷ 40 ∷ 58 ∷ []

abbrev pub is_stop : ℕ → Bool
is_stop b = is_one_of stops b

-- all bytes of it pass a test that no stop passes
stopped : (p : ℕ → Bool) (w : List ℕ) (b : ℕ) (more : List ℕ) → list_all (λ c. not (p c)) stops ≡ true → list_all p (w ++ b ∷ more) ≡ true → is_stop b ≡ true → ⊥
stopped p w b more none all stop = opposite (p b) (at_place p w b more all) (member_test (λ c. not (p c)) stops b none stop)

pub stop_inside : (k : TokenKind) (x : ℕ) (w : List ℕ) (b : ℕ) (more : List ℕ) → IsToken k (x ∷ (w ++ b ∷ more)) → is_stop b ≡ true → ⊥
stop_inside kind.Keyword x w b more h stop = stopped is_next_byte (x ∷ w) b more refl (keyword_bytes (x ∷ (w ++ b ∷ more)) h.0) stop
stop_inside kind.Name x w b more h stop = stopped is_next_byte (x ∷ w) b more refl (name_bytes (x ∷ (w ++ b ∷ more)) h.0) stop
stop_inside kind.Number x w b more h stop = stopped (λ c. is_inner (to_ascii_lowercase c)) (x ∷ w) b more refl (sym (folded_all is_inner (x ∷ (w ++ b ∷ more))) ∙ typed_inner h.2) stop
stop_inside kind.Digits x w b more h stop = stopped is_next_byte (x ∷ w) b more refl (digits_bytes (x ∷ (w ++ b ∷ more)) h.0) stop
stop_inside kind.Address x w b more h stop = stopped (λ c. is_place (to_ascii_lowercase c)) (x ∷ w) b more refl (sym (folded_all is_place (x ∷ (w ++ b ∷ more))) ∙ address_bytes h) stop
stop_inside kind.Sign x w b more h stop = stopped (λ c. not (is_stop c)) w b more refl (table_test (λ s. list_all (λ c. not (is_stop c)) (drop 1 s)) sign_texts (x ∷ (w ++ b ∷ more)) refl h) stop

-- a word and a point
pub point_inside : (k : TokenKind) (x : ℕ) (w more : List ℕ) → list_all is_next_byte (x ∷ w) ≡ true → IsToken k (x ∷ (w ++ 46 ∷ more)) → ⊥
point_inside kind.Keyword x w more word h = (let no : false ≡ true = at_place is_next_byte (x ∷ w) 46 more (keyword_bytes (x ∷ (w ++ 46 ∷ more)) h.0) in absurd cc)
point_inside kind.Name x w more word h = (let no : false ≡ true = at_place is_next_byte (x ∷ w) 46 more (name_bytes (x ∷ (w ++ 46 ∷ more)) h.0) in absurd cc)
point_inside kind.Number x w more word h =
    let split : in_lower_case (x ∷ (w ++ 46 ∷ more)) ≡ in_lower_case (x ∷ w) ++ 46 ∷ in_lower_case more = map-append to_ascii_lowercase (x ∷ w) (46 ∷ more) in
    let no : false ≡ true = sym (no_hash (in_lower_case (x ∷ w)) (in_lower_case more) (folded_next (x ∷ w) ∙ word)) ∙ sym (ap hash_first split) ∙ typed_hash h.2 in
    absurd cc
point_inside kind.Digits x w more word h = (let no : false ≡ true = at_place is_next_byte (x ∷ w) 46 more (digits_bytes (x ∷ (w ++ 46 ∷ more)) h.0) in absurd cc)
point_inside kind.Address x w more word h =
    let no : true ≡ false = sym (lower_next x ∙ (and_parts (is_next_byte x) (list_all is_next_byte w) word).0) ∙ ap is_next_byte (address_head h) in
    absurd cc
point_inside kind.Sign x w more word h = opposite (is_next_byte x) (and_parts (is_next_byte x) (list_all is_next_byte w) word).0 (table_test (λ s. not (is_next_byte (head s))) sign_texts (x ∷ (w ++ 46 ∷ more)) refl h)

-- the sign_texts that begin no longer token
abbrev pub lone : List ℕ
lone = 40 ∷ 46 ∷ 47 ∷ []

abbrev begins_long : ℕ → Bool
begins_long x = is_one_of (58 ∷ 60 ∷ 62 ∷ []) x

abbrev may_be : List ℕ → Bool
may_be [] = true
may_be (x ∷ []) = true
may_be (x ∷ y ∷ zs) = begins_long x

first_word : (a : ℕ) (rest : List ℕ) → list_all is_next_byte (a ∷ rest) ≡ true → is_one_of lone a ≡ true → ⊥
first_word a rest all one = opposite (is_next_byte a) (and_parts (is_next_byte a) (list_all is_next_byte rest) all).0 (member_test (λ c. not (is_next_byte c)) lone a refl one)

pub alone : (k : TokenKind) (a b : ℕ) (more : List ℕ) → is_one_of lone a ≡ true → IsToken k (a ∷ b ∷ more) → ⊥
alone kind.Keyword a b more one h = first_word a (b ∷ more) (keyword_bytes (a ∷ b ∷ more) h.0) one
alone kind.Name a b more one h = first_word a (b ∷ more) (name_bytes (a ∷ b ∷ more) h.0) one
alone kind.Number a b more one h = opposite (is_next_byte (to_ascii_lowercase a)) (typed_head h.2) (member_test (λ c. not (is_next_byte (to_ascii_lowercase c))) lone a refl one)
alone kind.Digits a b more one h = first_word a (b ∷ more) (digits_bytes (a ∷ b ∷ more) h.0) one
alone kind.Address a b more one h = opposite (nat_eq (to_ascii_lowercase a) 37) (ap (λ c. nat_eq c 37) (address_head h)) (member_test (λ c. not (nat_eq (to_ascii_lowercase c) 37)) lone a refl one)
alone kind.Sign a b more one h = opposite (begins_long a) (table_test may_be sign_texts (a ∷ b ∷ more) refl h) (member_test (λ c. not (begins_long c)) lone a refl one)

typed_some : {text : List ℕ} {t : Ty} {n : ℤ} → IsTyped text t n → 0 < length text
typed_some {text = []} h = (let no : false ≡ true = typed_head h in absurd cc)
typed_some {text = x ∷ text} h = omega arith

-- no token is empty
pub token_some : (k : TokenKind) (text : List ℕ) → IsToken k text → 0 < length text
token_some k (x ∷ text) h = omega arith
token_some kind.Keyword [] h = (let no : false ≡ true = h.0 in absurd cc)
token_some kind.Name [] h = (let no : false ≡ true = h.0 in absurd cc)
token_some kind.Number [] h = typed_some h.2
token_some kind.Digits [] h = h.1
token_some kind.Address [] h = (let no : 0 ≡ 37 = address_head h in omega (arith, no))
token_some kind.Sign [] h = (let no : false ≡ true = h in absurd cc)
