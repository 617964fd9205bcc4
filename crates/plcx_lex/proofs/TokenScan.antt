-- The longest token at the front of a text, by its first byte.
use Rattle.std.proofs.Common.{◌≡◌, ◌<◌, ◌≤◌, ◌&&◌, nat_le, nat_lt, ℕ, zero, suc, true, false, inl, inr, List, [], length, take, get_or, Option, Some, None, MatchOption, refl, ap, arith, sym, ◌∙◌, subst}
use Rattle.std.specs.List.{list_all}
use Rattle.std.proofs.lemmas.Bool.{and_parts, and_from, leb-true, le-leb, lt-ltb}
use Rattle.std.proofs.lemmas.List.{get_or-take, length-take, take-take}
use Rattle.std.proofs.lemmas.List.Folds.{list_all_at}
use Rattle.plcx_types.specs.Name.{in_lower_case, is_first_byte, is_next_byte, is_identifier}
use Rattle.plcx_lex.specs.Number.{IsTyped}
use Rattle.plcx_types.specs.Address.{IsAddressForm}
use Rattle.plcx_lex.specs.Lexis.{is_decimal, IsToken, Longest}
use Rattle.plcx_lex.specs.declared.token.TokenKind.{TokenKind}
use Rattle.plcx_lex.specs.declared.token.TokenKind.TheVariants as kind
use Rattle.plcx_lex.specs.Scan.{NoneOf, LongestOf, LongestTold, LongestSign, IsRun, Typed, Word, AnyToken, Sign}
use Rattle.plcx_lex.specs.Terminal.{terminal_of}
use Rattle.plcx_lex.specs.declared.terminal.Terminal.{Terminal}
use Rattle.plcx_lex.proofs.Numbers.{named_typed}
use Rattle.plcx_lex.proofs.NumeralScan.{folded_length}
use Rattle.plcx_lex.proofs.TimeScan.{fold_take}
use Rattle.plcx_lex.proofs.TypedScan.{run_folded, parts_of}
use Rattle.plcx_lex.proofs.TokenForms.{token_starts, word_way, digits_way, address_way, sign_way}

next_first : (b : ℕ) → is_first_byte b ≡ true → is_next_byte b ≡ true
next_first b h = grind arith

identifier_from : (text : List ℕ) → 0 < length text → length text ≤ 128 → is_first_byte (get_or text 0 0) ≡ true → list_all is_next_byte text ≡ true → is_identifier text ≡ true
identifier_from text some few first all = and_from _ _ (and_from _ _ (and_from _ _ (lt-ltb 0 (length text) some) (le-leb (length text) 128 few)) first) all

record Named (text : List ℕ) : Type 0 where
  few : length text ≤ 128
  all : list_all is_next_byte text ≡ true

named_parts : (text : List ℕ) → is_identifier text ≡ true → Named text
named_parts text is =
    let outer = and_parts _ (list_all is_next_byte text) is in
    let inner = and_parts (nat_lt 0 (length text) && nat_le (length text) 128) (is_first_byte (get_or text 0 0)) outer.0 in
    record { few = leb-true _ _ (and_parts (nat_lt 0 (length text)) (nat_le (length text) 128) inner.0).1; all = outer.1 }

-- the word at the front
pub word_found : (text : List ℕ) (n : ℕ) → 0 < length text → is_first_byte (get_or text 0 0) ≡ true → IsRun is_next_byte (take 128 text) n → LongestOf Word text n
word_found text n some first run =
    let size = length-take 128 text in
    let within : n ≤ length text = omega (arith, run.within) in
    let few : n ≤ 128 = omega (arith, run.within) in
    let cut : take n (take 128 text) ≡ take n text = take-take n 128 text few in
    let pos = positive n run in
    record {
      within = within;
      holds = identifier_from (take n text) (omega (arith, length-take n text)) (omega (arith, length-take n text)) (ap is_first_byte (get_or-take n text 0 0 pos) ∙ first) (ap (list_all is_next_byte) (sym cut) ∙ run.all);
      longest = λ m lt le h. (
          let parts = named_parts (take m text) h in
          let short : m ≤ 128 = omega (arith, parts.few, length-take m text) in
          let near : n < 128 = omega arith in
          let stop : is_next_byte (get_or text n 0) ≡ false = ap is_next_byte (sym (get_or-take 128 text n 0 near)) ∙ run.ends (omega arith) in
          let bad = sym parts.all ∙ list_all_at is_next_byte (take m text) n 0 (omega (arith, length-take m text)) (ap is_next_byte (get_or-take m text n 0 lt) ∙ stop) in
          absurd (cc));
    }
  where
    positive : (n : ℕ) → IsRun is_next_byte (take 128 text) n → 0 < n
    positive zero run =
        let near : 0 < 128 = omega arith in
        let stop : is_next_byte (get_or text 0 0) ≡ false = ap is_next_byte (sym (get_or-take 128 text 0 0 near)) ∙ run.ends (omega (arith, length-take 128 text)) in
        let bad = sym stop ∙ next_first (get_or text 0 0) first in absurd (cc)
    positive (suc n) run = omega arith

first_kept : (text : List ℕ) (m : ℕ) → 0 < m → get_or (take m text) 0 0 ≡ get_or text 0 0
first_kept text m pos = get_or-take m text 0 0 pos

pub word_alone : (text : List ℕ) (n : ℕ) (k : TokenKind) → is_first_byte (get_or text 0 0) ≡ true → LongestOf Word text n → NoneOf Typed (in_lower_case text) → IsToken k (take n text) → Longest text k n
word_alone text n k first word none formed = record {
  within = word.within;
  formed = formed;
  longest = λ m other lt le is. (
      let pos : 0 < m = omega arith in
      elim (word_way other (take m text) (ap is_first_byte (first_kept text m pos) ∙ first) is) [
        | inl w ↦ word.longest m lt le w
        | inr t ↦ none m (omega (arith, folded_length text)) (subst Typed (fold_take m text) t)
      ]);
}

typed_token : (text : List ℕ) → Typed (in_lower_case text) → IsToken kind.Number text
typed_token text h = (h.0, h.5.0, subst (λ t. IsTyped t h.0 h.5.0) (sym h.3) (named_typed h.1 h.2 h.0 h.5.0 h.4 h.5.1))

pub word_typed : (text : List ℕ) (n long : ℕ) → is_first_byte (get_or text 0 0) ≡ true → IsRun is_next_byte (take 128 text) n → LongestOf Word text n → LongestOf Typed (in_lower_case text) long → Longest text kind.Number long
word_typed text n long first run word typed =
    let parts = parts_of (in_lower_case text) n long (run_folded text n run) typed.within typed.holds in
    let far : n < long = parts.far in
    record {
      within = omega (arith, typed.within, folded_length text);
      formed = typed_token (take long text) (subst Typed (sym (fold_take long text)) typed.holds);
      longest = λ m other lt le is. (
          let pos : 0 < m = omega arith in
          elim (word_way other (take m text) (ap is_first_byte (first_kept text m pos) ∙ first) is) [
            | inl w ↦ word.longest m (omega arith) le w
            | inr t ↦ typed.longest m lt (omega (arith, folded_length text)) (subst Typed (fold_take m text) t)
          ]);
    }

pub digits_found : (text : List ℕ) (n : ℕ) → 0 < length text → is_decimal (get_or text 0 0) ≡ true → IsRun is_decimal text n → Longest text kind.Digits n
digits_found text n some first run =
    let pos = positive n run in
    record {
      within = run.within;
      formed = (run.all, omega (arith, length-take n text, run.within));
      longest = λ m other lt le is. (
          let pos' : 0 < m = omega arith in
          let digits = digits_way other (take m text) (ap is_decimal (first_kept text m pos') ∙ first) is in
          let stop = run.ends (omega arith) in
          let bad = sym digits.0 ∙ list_all_at is_decimal (take m text) n 0 (omega (arith, length-take m text)) (ap is_decimal (get_or-take m text n 0 lt) ∙ stop) in
          absurd (cc));
    }
  where
    positive : (n : ℕ) → IsRun is_decimal text n → 0 < n
    positive zero run = let bad = sym (run.ends some) ∙ first in absurd (cc)
    positive (suc n) run = omega arith

no_token_empty : (k : TokenKind) (text : List ℕ) → length text ≡ 0 → IsToken k text → ⊥
no_token_empty k text none is = let starts = token_starts k text is in omega (arith, starts.some)

pub address_found : (text : List ℕ) (n : ℕ) → get_or text 0 0 ≡ 37 → LongestOf IsAddressForm (in_lower_case text) n → Longest text kind.Address n
address_found text n first found = record {
  within = omega (arith, found.within, folded_length text);
  formed = subst IsAddressForm (sym (fold_take n text)) found.holds;
  longest = λ m other lt le is. (
      let pos : 0 < m = omega arith in
      found.longest m lt (omega (arith, folded_length text)) (subst IsAddressForm (fold_take m text) (address_way other (take m text) (first_kept text m pos ∙ first) is)));
}

pub address_unfound : (text : List ℕ) → get_or text 0 0 ≡ 37 → NoneOf IsAddressForm (in_lower_case text) → NoneOf AnyToken text
address_unfound text first none zero le h = no_token_empty h.0 [] refl h.1
address_unfound text first none (suc m) le h =
    let pos : 0 < suc m = omega arith in
    none (suc m) (omega (arith, folded_length text)) (subst IsAddressForm (fold_take (suc m) text) (address_way h.0 (take (suc m) text) (first_kept text (suc m) pos ∙ first) h.1))

pub sign_found : (text : List ℕ) (n : ℕ) → is_first_byte (get_or text 0 0) ≡ false → is_decimal (get_or text 0 0) ≡ false → (get_or text 0 0 ≡ 37 → ⊥) → LongestOf Sign text n → Longest text kind.Sign n
sign_found text n letter digit percent found = record {
  within = found.within;
  formed = found.holds;
  longest = λ m other lt le is. (
      let pos : 0 < m = omega arith in
      let kept = first_kept text m pos in
      found.longest m lt le (sign_way other (take m text) (ap is_first_byte kept ∙ letter) (ap is_decimal kept ∙ digit) (λ h. percent (sym kept ∙ h)) is));
}

pub sign_unfound : (text : List ℕ) → is_first_byte (get_or text 0 0) ≡ false → is_decimal (get_or text 0 0) ≡ false → (get_or text 0 0 ≡ 37 → ⊥) → NoneOf Sign text → NoneOf AnyToken text
sign_unfound text letter digit percent none zero le h = no_token_empty h.0 [] refl h.1
sign_unfound text letter digit percent none (suc m) le h =
    let pos : 0 < suc m = omega arith in
    let kept = first_kept text (suc m) pos in
    none (suc m) le (sign_way h.0 (take (suc m) text) (ap is_first_byte kept ∙ letter) (ap is_decimal kept ∙ digit) (λ h. percent (sym kept ∙ h)) h.1)

-- what the longest sign is in the grammar
pub sign_told : (text : List ℕ) (r : Option (Terminal × ℕ)) → is_first_byte (get_or text 0 0) ≡ false → is_decimal (get_or text 0 0) ≡ false → (get_or text 0 0 ≡ 37 → ⊥)
    → MatchOption r (NoneOf Sign text) (λ s. LongestSign text s.0 s.1) → MatchOption r (NoneOf AnyToken text) (λ s. LongestTold text s.0 s.1)
sign_told text None letter digit percent none = sign_unfound text letter digit percent none
sign_told text (Some s) letter digit percent found = record {
  token = subst (λ (k : TokenKind). Longest text k s.1) (sym found.is.of_kind) (sign_found text s.1 letter digit percent found.sign);
  terminal = found.is.terminal ∙ ap (λ (k : TokenKind). terminal_of k (take s.1 text)) (sym found.is.of_kind);
}
