-- A text is a token of one kind at most.
use Rattle.std.proofs.Common.{◌≡◌, ◌||◌, ℕ, ℤ, true, false, List, [], ◌∷◌, ◌++◌, get_or, refl, ap, sym, ◌∙◌}
use Rattle.std.specs.Prelude.{codes}
use Rattle.std.specs.List.{list_all}
use Rattle.std.specs.Str.{bytes_eq}
use Rattle.std.proofs.lemmas.Bool.{and_parts}
use Rattle.std.proofs.lemmas.List.Folds.{list_all-append}
use Rattle.plcx_types.specs.declared.ty.Ty.{Ty}
use Rattle.plcx_types.specs.Name.{in_lower_case, is_next_byte, is_identifier}
use Rattle.plcx_types.specs.Reserved.{is_keyword, is_in, keywords}
use Rattle.plcx_types.specs.Literal.{IsTruth, type_word}
use Rattle.plcx_types.specs.Literal as form
use Rattle.plcx_lex.specs.Number as number
use Rattle.plcx_lex.specs.Number.{IsTyped}
use Rattle.plcx_lex.specs.Lexis.{is_truth, IsToken}
use Rattle.plcx_lex.specs.declared.token.TokenKind.{TokenKind}
use Rattle.plcx_lex.specs.declared.token.TokenKind.TheVariants as kind
use Rattle.plcx_lex.proofs.TokenForms.{token_starts, fold_identifier, keyword_word, letter_no_digit, letter_no_percent, letter_no_sign, digit_no_percent, digit_no_sign, sign_no_percent}

-- keywords in any case
same_keyword : (word other : List ℕ) → in_lower_case word ≡ in_lower_case other → is_keyword word ≡ is_keyword other
same_keyword word other same = go keywords
  where
    go : (table : List (List ℕ)) → is_in table word ≡ is_in table other
    go [] = refl
    go (entry ∷ table) = ap (λ x. bytes_eq x (in_lower_case entry) || is_in table word) same ∙ ap (λ x. bytes_eq (in_lower_case other) (in_lower_case entry) || x) (go table)

record Truths (text : List ℕ) : Type 0 where
  truth : is_truth text ≡ true
  keyword : is_keyword text ≡ true

truths : (text xs : List ℕ) (n : ℤ) → in_lower_case text ≡ xs → IsTruth xs n → Truths text
truths text xs n same form.IsTruth.truth = record { truth = ap (λ x. bytes_eq x (codes "true") || bytes_eq x (codes "false")) same; keyword = same_keyword text (codes "true") same }
truths text xs n same form.falsehood = record { truth = ap (λ x. bytes_eq x (codes "true") || bytes_eq x (codes "false")) same; keyword = same_keyword text (codes "false") same }

-- a word has no `#`
no_mark : (word rest : List ℕ) → list_all is_next_byte (word ++ 35 ∷ rest) ≡ true → ⊥
no_mark word rest all =
    let parts = and_parts (list_all is_next_byte word) (list_all is_next_byte (35 ∷ rest)) (sym (list_all-append is_next_byte word (35 ∷ rest)) ∙ all) in
    let bad : false ≡ true = parts.1 in cc

word_no_mark : (xs word rest : List ℕ) → xs ≡ word ++ 35 ∷ rest → is_identifier xs ≡ true → ⊥
word_no_mark xs word rest same is = no_mark word rest (sym (ap (list_all is_next_byte) same) ∙ (and_parts _ (list_all is_next_byte xs) is).1)

-- a number that is a word
number_truth : (text xs : List ℕ) (t : Ty) (n : ℤ) → in_lower_case text ≡ xs → IsTyped xs t n → is_identifier text ≡ true → Truths text
number_truth text xs t n same (number.IsTyped.truth is) word = truths text xs n same is
number_truth text xs t n same (number.typed {t = u} {text = rest} is) word = absurd (word_no_mark (in_lower_case text) (type_word u) rest same (fold_identifier text ∙ word))
number_truth text xs t n same (number.short_time {text = rest} is) word = absurd (word_no_mark (in_lower_case text) (codes "t") rest same (fold_identifier text ∙ word))

keyword_number : (text : List ℕ) → IsToken kind.Keyword text → IsToken kind.Number text → ⊥
keyword_number text p q = let both = number_truth text (in_lower_case text) q.0 q.1 refl q.2 (keyword_word text p.0) in let bad = sym p.1 ∙ both.truth in cc

name_number : (text : List ℕ) → IsToken kind.Name text → IsToken kind.Number text → ⊥
name_number text p q = let both = number_truth text (in_lower_case text) q.0 q.1 refl q.2 p.0 in let bad = sym p.1 ∙ both.keyword in cc

keyword_name : (text : List ℕ) → IsToken kind.Keyword text → IsToken kind.Name text → ⊥
keyword_name text p q = let bad = sym q.1 ∙ p.0 in cc

pub one_kind : (a b : TokenKind) (text : List ℕ) → IsToken a text → IsToken b text → a ≡ b
one_kind kind.Keyword kind.Keyword text p q = refl
one_kind kind.Keyword kind.Name text p q = absurd (keyword_name text p q)
one_kind kind.Keyword kind.Number text p q = absurd (keyword_number text p q)
one_kind kind.Keyword kind.Digits text p q = absurd (letter_no_digit (get_or text 0 0) (token_starts kind.Keyword text p).first (token_starts kind.Digits text q).first)
one_kind kind.Keyword kind.Address text p q = absurd (letter_no_percent (get_or text 0 0) (token_starts kind.Keyword text p).first (token_starts kind.Address text q).first)
one_kind kind.Keyword kind.Sign text p q = absurd (letter_no_sign (get_or text 0 0) (token_starts kind.Keyword text p).first (token_starts kind.Sign text q).first)
one_kind kind.Name kind.Keyword text p q = absurd (keyword_name text q p)
one_kind kind.Name kind.Name text p q = refl
one_kind kind.Name kind.Number text p q = absurd (name_number text p q)
one_kind kind.Name kind.Digits text p q = absurd (letter_no_digit (get_or text 0 0) (token_starts kind.Name text p).first (token_starts kind.Digits text q).first)
one_kind kind.Name kind.Address text p q = absurd (letter_no_percent (get_or text 0 0) (token_starts kind.Name text p).first (token_starts kind.Address text q).first)
one_kind kind.Name kind.Sign text p q = absurd (letter_no_sign (get_or text 0 0) (token_starts kind.Name text p).first (token_starts kind.Sign text q).first)
one_kind kind.Number kind.Keyword text p q = absurd (keyword_number text q p)
one_kind kind.Number kind.Name text p q = absurd (name_number text q p)
one_kind kind.Number kind.Number text p q = refl
one_kind kind.Number kind.Digits text p q = absurd (letter_no_digit (get_or text 0 0) (token_starts kind.Number text p).first (token_starts kind.Digits text q).first)
one_kind kind.Number kind.Address text p q = absurd (letter_no_percent (get_or text 0 0) (token_starts kind.Number text p).first (token_starts kind.Address text q).first)
one_kind kind.Number kind.Sign text p q = absurd (letter_no_sign (get_or text 0 0) (token_starts kind.Number text p).first (token_starts kind.Sign text q).first)
one_kind kind.Digits kind.Keyword text p q = absurd (letter_no_digit (get_or text 0 0) (token_starts kind.Keyword text q).first (token_starts kind.Digits text p).first)
one_kind kind.Digits kind.Name text p q = absurd (letter_no_digit (get_or text 0 0) (token_starts kind.Name text q).first (token_starts kind.Digits text p).first)
one_kind kind.Digits kind.Number text p q = absurd (letter_no_digit (get_or text 0 0) (token_starts kind.Number text q).first (token_starts kind.Digits text p).first)
one_kind kind.Digits kind.Digits text p q = refl
one_kind kind.Digits kind.Address text p q = absurd (digit_no_percent (get_or text 0 0) (token_starts kind.Digits text p).first (token_starts kind.Address text q).first)
one_kind kind.Digits kind.Sign text p q = absurd (digit_no_sign (get_or text 0 0) (token_starts kind.Digits text p).first (token_starts kind.Sign text q).first)
one_kind kind.Address kind.Keyword text p q = absurd (letter_no_percent (get_or text 0 0) (token_starts kind.Keyword text q).first (token_starts kind.Address text p).first)
one_kind kind.Address kind.Name text p q = absurd (letter_no_percent (get_or text 0 0) (token_starts kind.Name text q).first (token_starts kind.Address text p).first)
one_kind kind.Address kind.Number text p q = absurd (letter_no_percent (get_or text 0 0) (token_starts kind.Number text q).first (token_starts kind.Address text p).first)
one_kind kind.Address kind.Digits text p q = absurd (digit_no_percent (get_or text 0 0) (token_starts kind.Digits text q).first (token_starts kind.Address text p).first)
one_kind kind.Address kind.Address text p q = refl
one_kind kind.Address kind.Sign text p q = absurd (sign_no_percent (get_or text 0 0) (token_starts kind.Sign text q).first (token_starts kind.Address text p).first)
one_kind kind.Sign kind.Keyword text p q = absurd (letter_no_sign (get_or text 0 0) (token_starts kind.Keyword text q).first (token_starts kind.Sign text p).first)
one_kind kind.Sign kind.Name text p q = absurd (letter_no_sign (get_or text 0 0) (token_starts kind.Name text q).first (token_starts kind.Sign text p).first)
one_kind kind.Sign kind.Number text p q = absurd (letter_no_sign (get_or text 0 0) (token_starts kind.Number text q).first (token_starts kind.Sign text p).first)
one_kind kind.Sign kind.Digits text p q = absurd (digit_no_sign (get_or text 0 0) (token_starts kind.Digits text q).first (token_starts kind.Sign text p).first)
one_kind kind.Sign kind.Address text p q = absurd (sign_no_percent (get_or text 0 0) (token_starts kind.Sign text p).first (token_starts kind.Address text q).first)
one_kind kind.Sign kind.Sign text p q = refl
