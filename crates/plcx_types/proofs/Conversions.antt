-- What reads the names of conversions reads just these.
use Rattle.std.proofs.Common.{◌≡◌, ℕ, Bool, true, false, inl, inr, List, [], ◌∷◌, ◌++◌, Option, Some, None, refl, ap, sym, ◌∙◌, subst}
use Rattle.std.specs.Prelude.{codes, not, ◌&&◌, IfSome, IfNone, is_some}
use Rattle.std.specs.Char.{to_ascii_lowercase}
use Rattle.std.specs.List.{list_all, list_any}
use Rattle.std.specs.Option.{option_and_then}
use Rattle.std.specs.Str.{bytes_eq, str_eq_ignore_ascii_case}
use Rattle.std.proofs.lemmas.Bool.{cases_Bool, and_parts, and_from, both_ways, false_from_ne_true}
use Rattle.std.proofs.lemmas.List.{map-append}
use Rattle.std.proofs.lemmas.List.Folds.{list_all_at, list_any_at}
use Rattle.std.proofs.lemmas.Slice.Eq.{bytes_eq-Decides}
use Rattle.plcx_types.specs.declared.ty.Ty.{Ty}
use Rattle.plcx_types.specs.declared.ty.Ty.TheVariants as ty
use Rattle.plcx_types.specs.Name.{in_lower_case}
use Rattle.plcx_types.specs.Conversion.{conversion_name, NamesConversion}
use Rattle.plcx_types.specs.Literal.{type_word}
use Rattle.plcx_types.specs.Reading.{behind, front, back, is_letter}
use Rattle.plcx_types.specs.ReadConversion.{first_of, apart, joined, conversion_of}
use Rattle.plcx_types.specs.Reserved.{is_conversion}
use Rattle.plcx_types.specs.TypeName.{all_types, position_of_type, same_ty, type_name}
use Rattle.plcx_types.proofs.BehindWord.{behind_again, behind_is}
use Rattle.plcx_types.proofs.DurationsRead.{bound}
use Rattle.plcx_types.proofs.PartShape.{front_all, back_all, front_back}
use Rattle.plcx_types.proofs.TypeTable.{at_its_place, position_below, named_again}

letters : (t : Ty) → list_all is_letter (type_word t) ≡ true
letters t = every (λ u. list_all is_letter (type_word u)) refl t
  where
    every : (p : Ty → Bool) → list_all p all_types ≡ true → (u : Ty) → p u ≡ true
    every p all u = elim (cases_Bool (p u)) [
      | inl passes ↦ passes
      | inr fails ↦ absurd (both_ways _ (list_all_at p all_types (position_of_type u) ty.Bool (position_below u) (ap p (at_its_place u) ∙ fails)) all)
    ]

lower_name : (from to : Ty) → in_lower_case (conversion_name from to) ≡ type_word from ++ (codes "_to_" ++ type_word to)
lower_name from to = map-append to_ascii_lowercase (type_name from) (codes "_TO_" ++ type_name to)

apart_some : (from to : Ty) → same_ty from to ≡ false → apart from to ≡ Some (from, to)
apart_some from to other = rw other

joined_some : (from to : Ty) → same_ty from to ≡ false → joined (Some (type_word to)) (type_word from) ≡ Some (from, to)
joined_some from to other =
    ap (λ o. option_and_then (λ f. option_and_then (apart f) (first_of all_types (type_word to))) o) (named_again from)
    ∙ ap (option_and_then (apart from)) (named_again to)
    ∙ apart_some from to other

pub conversion_reads : (word : List ℕ) (from to : Ty) → NamesConversion word from to → conversion_of (in_lower_case word) ≡ Some (from, to)
unfolding conversion_of
conversion_reads word from to names =
    let rest = codes "_to_" ++ type_word to in
    let whole : in_lower_case word ≡ type_word from ++ rest = names.spelled ∙ lower_name from to in
    let name : front is_letter (in_lower_case word) ≡ type_word from = ap (front is_letter) whole ∙ front_all is_letter (type_word from) rest (letters from) refl in
    let gap : back is_letter (in_lower_case word) ≡ rest = ap (back is_letter) whole ∙ back_all is_letter (type_word from) rest (letters from) refl in
    let next : behind (codes "_to_") (back is_letter (in_lower_case word)) ≡ Some (type_word to) = ap (behind (codes "_to_")) gap ∙ behind_again (codes "_to_") (type_word to) in
    ap (λ o. joined o (front is_letter (in_lower_case word))) next ∙ ap (joined (Some (type_word to))) name ∙ joined_some from to names.apart

pub no_conversion : (word : List ℕ) (found : Option (Ty × Ty)) → found ≡ conversion_of (in_lower_case word) → IfNone found ((from to : Ty) → NamesConversion word from to → ⊥)
no_conversion word (Some p) is = tt
no_conversion word None is = λ from to names. absurd (let both : None ≡ Some (from, to) = is ∙ conversion_reads word from to names in cc)

first_is : (ts : List Ty) (word : List ℕ) (t : Ty) → first_of ts word ≡ Some t → word ≡ type_word t
first_is [] word t found = absurd (cc)
first_is (u ∷ ts) word t found = elim (cases_Bool (bytes_eq word (type_word u))) [
  | inl same ↦ let one : Some u ≡ Some t = rw same at found in let is : u ≡ t = cc in (bytes_eq-Decides _ _).0 same ∙ ap type_word is
  | inr other ↦ first_is ts word t (rw other at found)
]

record IsApart (from to : Ty) (p : Ty × Ty) : Type 0 where
  apart : same_ty from to ≡ false
  is : (from, to) ≡ p

apart_is : (from to : Ty) (p : Ty × Ty) → apart from to ≡ Some p → IsApart from to p
apart_is from to p found = elim (cases_Bool (same_ty from to)) [
  | inl same ↦ absurd (let none = rw same at found in cc)
  | inr other ↦ let one : Some (from, to) ≡ Some p = rw other at found in record { apart = other; is = (cc) }
]

pub conversion_is : (word : List ℕ) (p : Ty × Ty) → conversion_of (in_lower_case word) ≡ Some p → NamesConversion word p.0 p.1
unfolding conversion_of
conversion_is word p found =
    let key = in_lower_case word in
    let one = bound _ (behind (codes "_to_") (back is_letter key)) p found in
    let two = bound _ (first_of all_types (front is_letter key)) p one.2 in
    let three = bound (apart two.0) (first_of all_types one.0) p two.2 in
    let is = apart_is two.0 three.0 p three.2 in
    let rest : back is_letter key ≡ codes "_to_" ++ type_word three.0 = behind_is (codes "_to_") (back is_letter key) one.0 one.1 ∙ ap (λ w. codes "_to_" ++ w) (first_is all_types one.0 three.0 three.1) in
    let spelled : key ≡ type_word two.0 ++ (codes "_to_" ++ type_word three.0) = sym (front_back is_letter key) ∙ ap (λ w. w ++ back is_letter key) (first_is all_types (front is_letter key) two.0 two.1) ∙ ap (λ w. type_word two.0 ++ w) rest in
    subst (λ q. NamesConversion word q.0 q.1) is.is (record { apart = is.apart; spelled = spelled ∙ sym (lower_name two.0 three.0) })

-- the names of conversions as a list of all pairs has them
abbrev between : List ℕ → Ty → Ty → Bool
between word from to = not (same_ty from to) && str_eq_ignore_ascii_case word (conversion_name from to)

pub listed_by : (word : List ℕ) (from to : Ty) → NamesConversion word from to → is_conversion word ≡ true
unfolding is_conversion
listed_by word from to names =
    let here : between word from to ≡ true = and_from (not (same_ty from to)) _ (ap not names.apart) ((bytes_eq-Decides _ _).1 names.spelled) in
    let along : list_any (between word from) all_types ≡ true = list_any_at (between word from) all_types (position_of_type to) ty.Bool (position_below to) (ap (between word from) (at_its_place to) ∙ here) in
    list_any_at (λ f. list_any (between word f) all_types) all_types (position_of_type from) ty.Bool (position_below from) (ap (λ f. list_any (between word f) all_types) (at_its_place from) ∙ along)

one_of : (p : Ty → Bool) (ts : List Ty) → list_any p ts ≡ true → (t : Ty) × (p t ≡ true)
one_of p [] h = absurd (cc)
one_of p (t ∷ ts) h = elim (cases_Bool (p t)) [
  | inl here ↦ (t, here)
  | inr other ↦ one_of p ts (rw other at h)
]

pub differs : (b : Bool) → not b ≡ true → b ≡ false
differs true h = absurd (cc)
differs false h = refl

pub pair_of : (word : List ℕ) → is_conversion word ≡ true → (from : Ty) × (to : Ty) × NamesConversion word from to
unfolding is_conversion
pair_of word h =
    let from = one_of (λ f. list_any (between word f) all_types) all_types h in
    let to = one_of (between word from.0) all_types from.1 in
    let parts = and_parts (not (same_ty from.0 to.0)) _ to.1 in
    (from.0, to.0, record { apart = differs (same_ty from.0 to.0) parts.0; spelled = (bytes_eq-Decides _ _).0 parts.1 })

pub listed : (word : List ℕ) (found : Option (Ty × Ty)) → IfSome found (λ p. NamesConversion word p.0 p.1) → IfNone found ((from to : Ty) → NamesConversion word from to → ⊥) → is_some found ≡ is_conversion word
listed word (Some p) some none = sym (listed_by word p.0 p.1 some)
listed word None some none = sym (false_from_ne_true (is_conversion word) (λ h. let names = pair_of word h in none names.0 names.1 names.2))
