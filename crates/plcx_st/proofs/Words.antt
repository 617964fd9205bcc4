-- Which names are words of a text, whatever the case of their letters.
use Rattle.std.proofs.Common.{◌≡◌, ℕ, ◌≤◌, ◌<◌, ◌^◌, Bool, true, false, ◌&&◌, List, [], ◌∷◌, ◌++◌, length, refl, sym, ap, ap₂, ◌∙◌, subst, arith, codes}
use Rattle.std.specs.Prelude.{Some, nat_le, nat_lt, decimal, if◌then◌else◌}
use Rattle.std.specs.Char.{to_ascii_lowercase}
use Rattle.std.specs.List.{list_any, list_all}
use Rattle.std.specs.Str.{bytes_eq, str_eq_ignore_ascii_case}
use Rattle.std.proofs.lemmas.Bool.{and_from, or_parts, false_from_ne_true, both_ways, le-leb}
use Rattle.std.proofs.lemmas.Bool.Decides.{nat_tests}
use Rattle.std.proofs.lemmas.List.{length-map, length-append}
use Rattle.std.proofs.lemmas.List.Folds.{list_all-append}
use Rattle.plcx_types.specs.declared.ty.Ty.{Ty}
use Rattle.plcx_types.specs.declared.ty.Ty.TheVariants as ty
use Rattle.plcx_types.specs.Name.{is_first_byte, is_next_byte, is_identifier, in_lower_case}
use Rattle.plcx_types.specs.Reserved.{keywords, is_keyword, is_listed, is_own, is_reserved}
use Rattle.plcx_types.specs.TypeName.{all_types, type_name, type_named}
use Rattle.plcx_types.specs.TypeName as types
use Rattle.plcx_std.specs.declared.kind.StdKind.{StdKind}
use Rattle.plcx_std.specs.declared.kind.StdKind.TheVariants as kind
use Rattle.plcx_std.specs.Kind.{all_kinds, kind_name, kind_named}
use Rattle.plcx_std.specs.Kind as kinds
use Rattle.plcx_lex.proofs.Folds.{fold_next, fold_first, fold_all}
use Rattle.plcx_meaning.specs.Base.{AtEdge, AtOutput}
use Rattle.plcx_meaning.specs.Templates.{suffix, wire_name, memory_name, counter_name}
use Rattle.plcx_meaning.specs.Fits.{IsGoodName}
use Rattle.plcx_meaning.proofs.Names.{bytes_same, Digits, of_decimal, small_length}
use Rattle.plcx_st.specs.InRange.{IsWord}

abbrev identifier_by : ℕ → Bool → Bool → Bool
identifier_by n front all = nat_lt 0 n && nat_le n 128 && front && all

identifier_folded : (x : List ℕ) → is_identifier (in_lower_case x) ≡ is_identifier x
identifier_folded [] = refl
identifier_folded (b ∷ x) =
    ap (λ n. identifier_by n (is_first_byte (to_ascii_lowercase b)) (list_all is_next_byte (in_lower_case (b ∷ x)))) (length-map (b ∷ x) to_ascii_lowercase)
    ∙ ap₂ (identifier_by (length (b ∷ x))) (fold_first b) (fold_all is_next_byte (b ∷ x) fold_next)

-- a keyword by its letters in lower case
abbrev keyword_of : List ℕ → Bool
keyword_of key = list_any (λ entry. bytes_eq key (in_lower_case entry)) keywords

pub keyword_same : (x y : List ℕ) → in_lower_case x ≡ in_lower_case y → is_keyword x ≡ is_keyword y
keyword_same x y same = ap keyword_of same

pub word_same : (x y : List ℕ) → in_lower_case x ≡ in_lower_case y → IsWord y → IsWord x
word_same x y same h = (sym (identifier_folded x) ∙ ap is_identifier same ∙ identifier_folded y ∙ h.0, keyword_same x y same ∙ h.1)

-- a name that may be declared
no_keyword : (x : List ℕ) → is_reserved x ≡ false → is_keyword x ≡ false
no_keyword x h = false_from_ne_true (is_keyword x) (λ e. both_ways (is_listed x) (or_parts (is_listed x) (is_own x) h).0 (rw e refl))

pub good_word : (x : List ℕ) → IsGoodName x → IsWord x
good_word x h = (h.0, no_keyword x h.2)

-- ---- types

pub type_word : (t : Ty) → IsWord (type_name t)
type_word ty.Bool = (refl, refl)
type_word ty.Byte = (refl, refl)
type_word ty.Word = (refl, refl)
type_word ty.Dword = (refl, refl)
type_word ty.Lword = (refl, refl)
type_word ty.Sint = (refl, refl)
type_word ty.Int = (refl, refl)
type_word ty.Dint = (refl, refl)
type_word ty.Lint = (refl, refl)
type_word ty.Usint = (refl, refl)
type_word ty.Uint = (refl, refl)
type_word ty.Udint = (refl, refl)
type_word ty.Ulint = (refl, refl)
type_word ty.Time = (refl, refl)

pub kind_word : (k : StdKind) → IsWord (kind_name k)
kind_word kind.Ton = (refl, refl)
kind_word kind.Tof = (refl, refl)
kind_word kind.Tp = (refl, refl)
kind_word kind.Ctu = (refl, refl)
kind_word kind.Ctd = (refl, refl)
kind_word kind.Ctud = (refl, refl)
kind_word kind.Sr = (refl, refl)
kind_word kind.Rs = (refl, refl)
kind_word kind.RTrig = (refl, refl)
kind_word kind.FTrig = (refl, refl)

-- what a name in a table means has that name
type_found : (ts : List Ty) (word : List ℕ) (t : Ty) → types.first_named word ts ≡ Some t → in_lower_case word ≡ in_lower_case (type_name t)
type_found [] word t h = absurd (cc)
type_found (u ∷ ts) word t h = by (str_eq_ignore_ascii_case word (type_name u)) refl (type_found ts word t) h
  where
    by : (b : Bool) → str_eq_ignore_ascii_case word (type_name u) ≡ b → (types.first_named word ts ≡ Some t → in_lower_case word ≡ in_lower_case (type_name t)) → (if b then Some u else types.first_named word ts) ≡ Some t
        → in_lower_case word ≡ in_lower_case (type_name t)
    by true e later k = let same : u ≡ t = cc in subst (λ v. in_lower_case word ≡ in_lower_case (type_name v)) same (bytes_same (in_lower_case word) (in_lower_case (type_name u)) e)
    by false e later k = later k

kind_found : (ks : List StdKind) (word : List ℕ) (k : StdKind) → kinds.first_named word ks ≡ Some k → in_lower_case word ≡ in_lower_case (kind_name k)
kind_found [] word k h = absurd (cc)
kind_found (u ∷ ks) word k h = by (str_eq_ignore_ascii_case word (kind_name u)) refl (kind_found ks word k) h
  where
    by : (b : Bool) → str_eq_ignore_ascii_case word (kind_name u) ≡ b → (kinds.first_named word ks ≡ Some k → in_lower_case word ≡ in_lower_case (kind_name k)) → (if b then Some u else kinds.first_named word ks) ≡ Some k
        → in_lower_case word ≡ in_lower_case (kind_name k)
    by true e later l = let same : u ≡ k = cc in subst (λ v. in_lower_case word ≡ in_lower_case (kind_name v)) same (bytes_same (in_lower_case word) (in_lower_case (kind_name u)) e)
    by false e later l = later l

pub elementary_word : (word : List ℕ) (t : Ty) → type_named word ≡ Some t → IsWord word
elementary_word word t h = word_same word (type_name t) (type_found all_types word t h) (type_word t)

pub standard_word : (word : List ℕ) (k : StdKind) → kind_named word ≡ Some k → IsWord word
standard_word word k h = word_same word (kind_name k) (kind_found all_kinds word k h) (kind_word k)

-- ---- the compiler's own names

digits_next : (cs : List ℕ) → Digits cs → list_all is_next_byte cs ≡ true
digits_next [] h = refl
digits_next (c ∷ cs) h = and_from (is_next_byte c) (list_all is_next_byte cs) (digit c h.0 h.1) (digits_next cs h.2)
  where
    digit : (n : ℕ) → 48 ≤ n → n ≤ 57 → is_next_byte n ≡ true
    digit n low high = grind (arith, nat_tests)

suffix_next : (pin : List ℕ) → list_all is_next_byte pin ≡ true → list_all is_next_byte (suffix pin) ≡ true
suffix_next [] h = refl
suffix_next (b ∷ pin) h = h

suffix_length : (pin : List ℕ) → length pin ≤ 64 → length (suffix pin) ≤ 65
suffix_length [] h = omega arith
suffix_length (b ∷ pin) h = omega arith

tail_next : (id : ℕ) (pin : List ℕ) → list_all is_next_byte pin ≡ true → list_all is_next_byte (decimal id ++ suffix pin) ≡ true
tail_next id pin h = list_all-append is_next_byte (decimal id) (suffix pin) ∙ and_from (list_all is_next_byte (decimal id)) (list_all is_next_byte (suffix pin)) (digits_next (decimal id) (of_decimal id)) (suffix_next pin h)

tail_length : (id : ℕ) (pin : List ℕ) → id < 2 ^ 64 → length pin ≤ 64 → length (decimal id ++ suffix pin) ≤ 85
tail_length id pin small short =
    let both = length-append (decimal id) (suffix pin) in
    let front = small_length id small in
    let back = suffix_length pin short in
    omega arith

identifier_from : (n : ℕ) (front all : Bool) → 1 ≤ n → n ≤ 128 → front ≡ true → all ≡ true → identifier_by n front all ≡ true
identifier_from n front all some few first next = (let more : nat_lt 0 n ≡ true = grind (arith, nat_tests) in let fits : nat_le n 128 ≡ true = le-leb n 128 few in rw (more, fits, first, next) refl)

-- a name of the compiler's own: a letter, and what stands behind it
own_identifier : (letter : ℕ) (rest : List ℕ) → is_next_byte letter ≡ true → list_all is_next_byte rest ≡ true → length rest ≤ 85 → is_identifier (codes "PLCX_" ++ letter ∷ rest) ≡ true
own_identifier letter rest next all short = identifier_from (length (codes "PLCX_" ++ letter ∷ rest)) true (is_next_byte letter && list_all is_next_byte rest) (omega arith) (omega arith) refl (and_from (is_next_byte letter) (list_all is_next_byte rest) next all)

pub wire_word : (id : ℕ) (pin : List ℕ) → id < 2 ^ 64 → list_all is_next_byte pin ≡ true → length pin ≤ 64 → IsWord (wire_name id pin)
wire_word id pin small next short = (own_identifier 87 (decimal id ++ suffix pin) refl (tail_next id pin next) (tail_length id pin small short), refl)

edge_length : (id : ℕ) → id < 2 ^ 64 → length (decimal id) ≤ 85
edge_length id small = let short = small_length id small in omega arith

pub edge_word : (id : ℕ) → id < 2 ^ 64 → IsWord (memory_name (AtEdge id))
edge_word id small = (own_identifier 77 (decimal id) refl (digits_next (decimal id) (of_decimal id)) (edge_length id small), refl)

pub output_word : (id : ℕ) (pin : List ℕ) → id < 2 ^ 64 → list_all is_next_byte pin ≡ true → length pin ≤ 64 → IsWord (memory_name (AtOutput id pin))
output_word id pin small next short = (own_identifier 70 (decimal id ++ suffix pin) refl (tail_next id pin next) (tail_length id pin small short), refl)

pub counter_word : IsWord counter_name
counter_word = (refl, refl)
