-- What reads literals reads just these.
use Rattle.std.proofs.Common.{◌≡◌, ◌⊎◌, ℕ, ℤ, pos, Bool, true, false, cond, inl, inr, List, [], ◌∷◌, ◌++◌, Option, Some, None, refl, ap, sym, ◌∙◌, subst}
use Rattle.std.specs.Prelude.{codes}
use Rattle.std.specs.List.{list_any}
use Rattle.std.specs.Option.{option_or, option_map, option_and_then, ok_or}
use Rattle.std.specs.Result.{IfErr}
use Rattle.std.specs.Str.{bytes_eq}
use Rattle.std.proofs.lemmas.Bool.{cases_Bool, both_ways, false_from_ne_true}
use Rattle.std.proofs.lemmas.Slice.Eq.{bytes_eq-Decides}
use Rattle.plcx_types.specs.declared.ty.Ty.{Ty}
use Rattle.plcx_types.specs.declared.ty.Ty.TheVariants as ty
use Rattle.plcx_types.specs.declared.literal.Literal.{Literal}
use Rattle.plcx_types.specs.declared.literal.Literal.TheVariants.{Typed, Whole}
use Rattle.plcx_types.specs.Name.{in_lower_case}
use Rattle.plcx_types.specs.Range.{InRange, fits}
use Rattle.plcx_types.specs.Value.{Value}
use Rattle.plcx_types.specs.TypeName.{same_ty, all_types}
use Rattle.plcx_types.specs.Numeral.{are_digits, IsWholeNumber, plain, plus, minus, binary, octal, hexadecimal}
use Rattle.plcx_types.specs.Duration.{IsTime}
use Rattle.plcx_types.specs.Literal.{value, type_word, IsTruth, IsNumber, IsForm, short_time, StandsForValue, IsValueOf}
use Rattle.plcx_types.specs.Literal as form
use Rattle.plcx_types.specs.Reading.{behind, choose, whole}
use Rattle.plcx_types.specs.ReadLiteral.{truth, number_behind, of_type, typed, behind_name, typed_or_whole, timed_or_other, truth_or, literal_of, as_value, value_of}
use Rattle.plcx_types.proofs.BehindWord.{behind_is}
use Rattle.plcx_types.proofs.Wholes.{chosen, mapped, is_foreign, behind_foreign, whole_reads, whole_is}
use Rattle.plcx_types.proofs.Durations.{time_reads}
use Rattle.plcx_types.proofs.DurationsRead.{bound, time_is}
use Rattle.plcx_types.proofs.TypeTable.{same_is, same_refl, within_range, range_within}

word_foreign : (t : Ty) → list_any is_foreign (type_word t) ≡ true
word_foreign ty.Bool = refl
word_foreign ty.Byte = refl
word_foreign ty.Word = refl
word_foreign ty.Dword = refl
word_foreign ty.Lword = refl
word_foreign ty.Sint = refl
word_foreign ty.Int = refl
word_foreign ty.Dint = refl
word_foreign ty.Lint = refl
word_foreign ty.Usint = refl
word_foreign ty.Uint = refl
word_foreign ty.Udint = refl
word_foreign ty.Ulint = refl
word_foreign ty.Time = refl

-- a numeral is no word
no_word : (word text : List ℕ) → are_digits 10 false word ≡ false → are_digits 10 false text ≡ true → bytes_eq text word ≡ false
no_word word text other digits = false_from_ne_true _ (λ h. both_ways (are_digits 10 false word) other (subst (λ t. are_digits 10 false t ≡ true) ((bytes_eq-Decides text word).0 h) digits))

no_truth : (text : List ℕ) (n : ℤ) → IsWholeNumber text n → truth text ≡ None
no_truth text n (plain {text = digits} is) = rw (no_word (codes "true") digits refl is.digits, no_word (codes "false") digits refl is.digits)
no_truth text n (plus is) = refl
no_truth text n (minus is) = refl
no_truth text n (binary is) = refl
no_truth text n (octal is) = refl
no_truth text n (hexadecimal is) = refl

pub number_reads : (t : Ty) (text : List ℕ) (n : ℤ) → IsNumber t text n → number_behind t text ≡ Some n
unfolding number_behind
number_reads t text n (form.truth form.IsTruth.truth) = refl
number_reads t text n (form.truth form.falsehood) = refl
number_reads t text n (form.IsNumber.whole other is) =
    rw (other, no_truth text n is, whole_reads text n is) (by_test (same_ty t ty.Bool))
  where
    by_test : (b : Bool) → cond b (Some n) (Some n) ≡ Some n
    by_test true = refl
    by_test false = refl
number_reads t text n (form.time is) = time_reads text n is

typed_reads : (t : Ty) (text : List ℕ) (n : ℤ) → IsNumber t text n → InRange t n → typed t text ≡ Some (Typed (value t n))
unfolding of_type
typed_reads t text n is range = rw (number_reads t text n is, range_within t n range)

-- the name of a type is found
name_found : (t : Ty) (rest : List ℕ) → literal_of (type_word t ++ (codes "#" ++ rest)) ≡ typed t rest
unfolding literal_of timed_or_other typed_or_whole
name_found ty.Bool rest = refl
name_found ty.Byte rest = refl
name_found ty.Word rest = refl
name_found ty.Dword rest = refl
name_found ty.Lword rest = refl
name_found ty.Sint rest = refl
name_found ty.Int rest = refl
name_found ty.Dint rest = refl
name_found ty.Lint rest = refl
name_found ty.Usint rest = refl
name_found ty.Uint rest = refl
name_found ty.Udint rest = refl
name_found ty.Ulint rest = refl
name_found ty.Time rest = refl

no_name : (ts : List Ty) (text : List ℕ) → are_digits 10 false text ≡ true → typed_or_whole ts text ≡ option_map Whole (whole text)
unfolding typed_or_whole
no_name [] text digits = refl
no_name (t ∷ ts) text digits = rw (behind_foreign (type_word t) text false (word_foreign t) digits) (no_name ts text digits)

whole_found : (text : List ℕ) (n : ℤ) → IsWholeNumber text n → literal_of text ≡ option_map Whole (whole text)
unfolding literal_of timed_or_other typed_or_whole
whole_found text n (plain {text = digits} {n = m} is) =
    ap (λ r. truth_or r (timed_or_other digits)) (no_truth digits (pos m) (plain is))
    ∙ ap (λ r. choose r (typed ty.Time) (typed_or_whole all_types digits)) (behind_foreign (codes "t#") digits false refl is.digits)
    ∙ no_name all_types digits is.digits
whole_found text n (plus is) = refl
whole_found text n (minus is) = refl
whole_found text n (binary is) = refl
whole_found text n (octal is) = refl
whole_found text n (hexadecimal is) = refl

truth_found : (text : List ℕ) (n : ℤ) → IsTruth text n → literal_of text ≡ Some (Typed (value ty.Bool n))
unfolding literal_of of_type
truth_found text n form.IsTruth.truth = refl
truth_found text n form.falsehood = refl

short_found : (rest : List ℕ) → literal_of (codes "t#" ++ rest) ≡ typed ty.Time rest
unfolding literal_of timed_or_other
short_found rest = refl

pub literal_reads : (text : List ℕ) (l : Literal) → IsForm text l → literal_of text ≡ Some l
literal_reads text l (form.IsForm.truth {n = n} is) = truth_found text n is
literal_reads text l (form.IsForm.whole {n = n} is) = whole_found text n is ∙ ap (option_map Whole) (whole_reads text n is)
literal_reads text l (form.typed {t = t} {text = rest} {n = n} is range) = name_found t rest ∙ typed_reads t rest n is range
literal_reads text l (short_time {text = rest} {n = n} is range) = short_found rest ∙ typed_reads ty.Time rest n (form.time is) range

-- what was read
pub truth_is : (text : List ℕ) (n : ℤ) → truth text ≡ Some n → IsTruth text n
truth_is text n found = elim (cases_Bool (bytes_eq text (codes "true"))) [
  | inl right ↦
      let is : Some (pos 1) ≡ Some n = rw right at found in
      let one : pos 1 ≡ n = cc in
      subst (λ t. IsTruth t n) (sym ((bytes_eq-Decides _ _).0 right)) (subst (λ k. IsTruth (codes "true") k) one form.IsTruth.truth)
  | inr other ↦ elim (cases_Bool (bytes_eq text (codes "false"))) [
    | inl right ↦
        let is : Some (pos 0) ≡ Some n = rw (other, right) at found in
        let none : pos 0 ≡ n = cc in
        subst (λ t. IsTruth t n) (sym ((bytes_eq-Decides _ _).0 right)) (subst (λ k. IsTruth (codes "false") k) none form.falsehood)
    | inr neither ↦ absurd (let none = rw (other, neither) at found in cc)
  ]
]

truth_or_whole : (text : List ℕ) (n : ℤ) → option_or (truth text) (whole text) ≡ Some n → IsNumber ty.Bool text n
truth_or_whole text n found = go (truth text) refl found
  where
    go : (r : Option ℤ) → truth text ≡ r → option_or r (whole text) ≡ Some n → IsNumber ty.Bool text n
    go None is found = form.IsNumber.whole refl (whole_is text n found)
    go (Some m) is found = form.truth (truth_is text n (is ∙ found))

pub number_is : (t : Ty) (text : List ℕ) (n : ℤ) → number_behind t text ≡ Some n → IsNumber t text n
unfolding number_behind
number_is t text n found = elim (cases_Bool (same_ty t ty.Time)) [
  | inl is_time ↦ subst (λ u. IsNumber u text n) (sym (same_is t ty.Time is_time)) (form.time (time_is text n (rw is_time at found)))
  | inr other ↦ elim (cases_Bool (same_ty t ty.Bool)) [
    | inl is_bool ↦ subst (λ u. IsNumber u text n) (sym (same_is t ty.Bool is_bool)) (truth_or_whole text n (rw (other, is_bool) at found))
    | inr number ↦ form.IsNumber.whole other (whole_is text n (rw (other, number) at found))
  ]
]

time_behind : (text : List ℕ) (n : ℤ) → number_behind ty.Time text ≡ Some n → IsTime text n
unfolding number_behind
time_behind text n found = time_is text n found

record IsTyped (t : Ty) (n : ℤ) (l : Literal) : Type 0 where
  range : InRange t n
  is : Typed (value t n) ≡ l

of_type_is : (t : Ty) (n : ℤ) (l : Literal) → of_type t n ≡ Some l → IsTyped t n l
unfolding of_type
of_type_is t n l found = elim (cases_Bool (fits t n)) [
  | inl within ↦
      let same : Some (Typed (value t n)) ≡ Some l = rw within at found in
      let is : Typed (value t n) ≡ l = cc in
      record { range = within_range t n within; is = is }
  | inr outside ↦ absurd (let no = rw outside at found in cc)
]

chosen_by : {A : Type 0} (o : Option (List ℕ)) (read : List ℕ → Option A) (other : Option A) (y : A) → choose o read other ≡ Some y → ((rest : List ℕ) × (o ≡ Some rest) × (read rest ≡ Some y)) ⊎ ((o ≡ None) × (other ≡ Some y))
chosen_by None read other y h = inr (refl, h)
chosen_by (Some rest) read other y h = inl (rest, refl, h)

name_is : (t : Ty) (text rest : List ℕ) → behind_name t text ≡ Some rest → text ≡ type_word t ++ (codes "#" ++ rest)
name_is t text rest found =
    let one = bound (behind (codes "#")) (behind (type_word t) text) rest found in
    behind_is (type_word t) text one.0 one.1 ∙ ap (λ r. type_word t ++ r) (behind_is (codes "#") one.0 rest one.2)

typed_or_whole_is : (ts : List Ty) (text : List ℕ) (l : Literal) → typed_or_whole ts text ≡ Some l → IsForm text l
unfolding typed_or_whole
typed_or_whole_is [] text l found = let one = mapped Whole (whole text) l found in subst (λ k. IsForm text k) one.2 (form.IsForm.whole (whole_is text one.0 one.1))
typed_or_whole_is (t ∷ ts) text l found = elim (chosen_by (behind_name t text) (typed t) (typed_or_whole ts text) l found) [
  | inl named ↦
      let one = bound (of_type t) (number_behind t named.0) l named.2 in
      let is = of_type_is t one.0 l one.2 in
      subst (λ x. IsForm x l) (sym (name_is t text named.0 named.1)) (subst (λ k. IsForm (type_word t ++ (codes "#" ++ named.0)) k) is.is (form.typed (number_is t named.0 one.0 one.1) is.range))
  | inr other ↦ typed_or_whole_is ts text l other.1
]

pub literal_is : (text : List ℕ) (l : Literal) → literal_of text ≡ Some l → IsForm text l
unfolding literal_of timed_or_other
literal_is text l found = go (truth text) refl found
  where
    go : (r : Option ℤ) → truth text ≡ r → truth_or r (timed_or_other text) ≡ Some l → IsForm text l
    go (Some n) is found = let typed = of_type_is ty.Bool n l found in subst (λ k. IsForm text k) typed.is (form.IsForm.truth (truth_is text n is))
    go None is found = elim (chosen (codes "t#") text (typed ty.Time) (typed_or_whole all_types text) l found) [
      | inl timed ↦
          let one = bound (of_type ty.Time) (number_behind ty.Time timed.0) l timed.2 in
          let is = of_type_is ty.Time one.0 l one.2 in
          subst (λ x. IsForm x l) (sym timed.1) (subst (λ k. IsForm (codes "t#" ++ timed.0) k) is.is (short_time (time_behind timed.0 one.0 one.1) is.range))
      | inr other ↦ typed_or_whole_is all_types text l other.1
    ]

-- a text stands for one literal at most
pub one_form : (text : List ℕ) (k l : Literal) → IsForm text k → IsForm text l → k ≡ l
one_form text k l first second = let both : Some k ≡ Some l = sym (literal_reads text k first) ∙ literal_reads text l second in cc

-- a literal as a value of a type
same_value : (t : Ty) (v w : Value) → (v.ty ≡ t) × (w ≡ v) → as_value t (Typed v) ≡ Some w
unfolding as_value
same_value t v w is = let same : same_ty v.ty t ≡ true = subst (λ u. same_ty v.ty u ≡ true) is.0 (same_refl v.ty) in rw same (ap Some (sym is.1))

pub as_value_reads : (t : Ty) (l : Literal) (v : Value) → IsValueOf t l v → as_value t l ≡ Some v
unfolding as_value
as_value_reads t (Typed w) v is = same_value t w v is
as_value_reads t (Whole n) v is = rw (is.0, range_within t n is.1) (ap Some (sym is.2))

pub as_value_is : (t : Ty) (l : Literal) (v : Value) → as_value t l ≡ Some v → IsValueOf t l v
unfolding as_value
as_value_is t (Typed w) v found = elim (cases_Bool (same_ty w.ty t)) [
  | inl same ↦ (same_is w.ty t same, (let one : Some w ≡ Some v = rw same at found in cc))
  | inr other ↦ absurd (let none = rw other at found in cc)
]
as_value_is t (Whole n) v found = elim (cases_Bool (same_ty t ty.Time)) [
  | inl timed ↦ absurd (let none = rw timed at found in cc)
  | inr other ↦ elim (cases_Bool (fits t n)) [
    | inl within ↦ (other, within_range t n within, (let one : Some (value t n) ≡ Some v = rw (other, within) at found in cc))
    | inr outside ↦ absurd (let none = rw (other, outside) at found in cc)
  ]
]

pub value_reads : (t : Ty) (text : List ℕ) (v : Value) → StandsForValue t text v → value_of t text ≡ Some v
value_reads t text v is = ap (option_and_then (as_value t)) (literal_reads (in_lower_case text) is.0 is.1) ∙ as_value_reads t is.0 v is.2

pub value_is : (t : Ty) (text : List ℕ) (v : Value) → value_of t text ≡ Some v → StandsForValue t text v
value_is t text v found =
    let one = bound (as_value t) (literal_of (in_lower_case text)) v found in
    (one.0, literal_is (in_lower_case text) one.0 one.1, as_value_is t one.0 v one.2)

pub no_value : {E : Type 0} (t : Ty) (text : List ℕ) (found : Option Value) (err : E) → found ≡ value_of t text → IfErr (ok_or found err) (λ x. (v : Value) → StandsForValue t text v → ⊥)
no_value t text None err is = λ v stands. absurd (let both : None ≡ Some v = is ∙ value_reads t text v stands in cc)
no_value t text (Some w) err is = tt
