-- What reads the numbers of a text reads just these.
use Rattle.std.proofs.Common.{◌≡◌, ◌⊎◌, ℕ, ℤ, Bool, inl, inr, List, [], ◌∷◌, ◌++◌, take, drop, Option, Some, None, refl, ap, sym, ◌∙◌, subst, nat_eq, append-nil}
use Rattle.std.specs.Prelude.{codes}
use Rattle.std.specs.List.{find}
use Rattle.std.specs.Str.{bytes_eq}
use Rattle.std.proofs.lemmas.Bool.{cases_Bool, eqb-true}
use Rattle.std.proofs.lemmas.Slice.Eq.{bytes_eq-Decides}
use Rattle.plcx_types.specs.declared.ty.Ty.{Ty}
use Rattle.plcx_types.specs.declared.ty.Ty.TheVariants as ty
use Rattle.plcx_types.specs.Name.{in_lower_case, is_next_byte}
use Rattle.plcx_types.specs.TypeName.{all_types}
use Rattle.plcx_types.specs.Literal.{type_word, IsTruth, IsNumber}
use Rattle.plcx_types.specs.Literal as form
use Rattle.plcx_types.specs.Reading.{front, back}
use Rattle.plcx_types.specs.ReadLiteral.{truth, number_behind}
use Rattle.plcx_types.proofs.DurationsRead.{bound, time_is}
use Rattle.plcx_types.proofs.Literals.{number_reads, number_is, truth_is}
use Rattle.plcx_types.specs.Duration.{IsTime}
use Rattle.plcx_lex.specs.Number as number
use Rattle.plcx_lex.specs.Number.{IsTyped, IsLiteral}
use Rattle.plcx_lex.specs.ReadNumber.{named, of_type, behind_word, typed_of, literal_of}
use Rattle.plcx_lex.specs.Scan.{IsRun}
use Rattle.plcx_lex.proofs.Folds.{fold_next, fold_front, fold_back, run_splits}

-- a name of a type, its number behind it
named_reads : (t : Ty) (rest : List ℕ) → typed_of (type_word t ++ (codes "#" ++ rest)) ≡ of_type (number_behind t rest) t
unfolding typed_of behind_word
named_reads ty.Bool rest = refl
named_reads ty.Byte rest = refl
named_reads ty.Word rest = refl
named_reads ty.Dword rest = refl
named_reads ty.Lword rest = refl
named_reads ty.Sint rest = refl
named_reads ty.Int rest = refl
named_reads ty.Dint rest = refl
named_reads ty.Lint rest = refl
named_reads ty.Usint rest = refl
named_reads ty.Uint rest = refl
named_reads ty.Udint rest = refl
named_reads ty.Ulint rest = refl
named_reads ty.Time rest = refl

short_reads : (rest : List ℕ) → typed_of (codes "t#" ++ rest) ≡ of_type (number_behind ty.Time rest) ty.Time
unfolding typed_of behind_word
short_reads rest = refl

truth_reads : (text : List ℕ) (n : ℤ) → IsTruth text n → typed_of text ≡ Some (ty.Bool, n)
unfolding typed_of behind_word
truth_reads text n form.IsTruth.truth = refl
truth_reads text n form.falsehood = refl

typed_reads : (text : List ℕ) (t : Ty) (n : ℤ) → IsTyped text t n → typed_of text ≡ Some (t, n)
typed_reads text t n (number.IsTyped.truth is) = truth_reads text n is
typed_reads text t n (number.typed {t = u} {text = rest} is) = named_reads u rest ∙ ap (λ o. of_type o u) (number_reads u rest n is)
typed_reads text t n (number.short_time {text = rest} is) = short_reads rest ∙ ap (λ o. of_type o ty.Time) (number_reads ty.Time rest n (form.time is))

pub literal_reads : (text : List ℕ) (t : Ty) (n : ℤ) → IsLiteral text t n → literal_of text ≡ Some (t, n)
literal_reads text t n is = typed_reads (in_lower_case text) t n is

-- which name was found
pub first_named_is : (ts : List Ty) (word : List ℕ) (t : Ty) → find (λ u. bytes_eq word (type_word u)) ts ≡ Some t → word ≡ type_word t
first_named_is [] word t found = absurd (cc)
first_named_is (u ∷ us) word t found = elim (cases_Bool (bytes_eq word (type_word u))) [
  | inl same ↦ let one : Some u ≡ Some t = rw same at found in let is : u ≡ t = cc in (bytes_eq-Decides _ _).0 same ∙ ap type_word is
  | inr other ↦ first_named_is us word t (rw other at found)
]

pub named_is : (word : List ℕ) (t : Ty) → named word ≡ Some t → (word ≡ type_word t) ⊎ ((word ≡ codes "t") × (ty.Time ≡ t))
named_is word t found = elim (cases_Bool (bytes_eq word (codes "t"))) [
  | inl same ↦ let one : Some ty.Time ≡ Some t = rw same at found in let is : ty.Time ≡ t = cc in inr ((bytes_eq-Decides _ _).0 same, is)
  | inr other ↦ inl (first_named_is all_types word t (rw other at found))
]

front_back : (p : ℕ → Bool) (text : List ℕ) → front p text ++ back p text ≡ text
front_back p [] = refl
front_back p (b ∷ bs) = elim (cases_Bool (p b)) [ inl passes ↦ rw (passes, front_back p bs) | inr fails ↦ rw fails ]

pub time_only : (text : List ℕ) (n : ℤ) → IsNumber ty.Time text n → IsTime text n
unfolding number_behind
time_only text n is = time_is text n (number_reads ty.Time text n is)

pub named_typed : (word rest : List ℕ) (t : Ty) (n : ℤ) → named word ≡ Some t → IsNumber t rest n → IsTyped (word ++ 35 ∷ rest) t n
named_typed word rest t n found is = elim (named_is word t found) [
  | inl same ↦ subst (λ w. IsTyped (w ++ 35 ∷ rest) t n) (sym same) (number.typed is)
  | inr short ↦ subst (λ w. IsTyped (w ++ 35 ∷ rest) t n) (sym short.0) (subst (λ u. IsTyped (codes "t#" ++ rest) u n) short.1 (number.short_time (time_only rest n (subst (λ u. IsNumber u rest n) (sym short.1) is))))
]

record Typing (o : Option ℤ) (u t : Ty) (n : ℤ) : Type 0 where
  same : u ≡ t
  found : o ≡ Some n

typing : (o : Option ℤ) (u t : Ty) (n : ℤ) → of_type o u ≡ Some (t, n) → Typing o u t n
typing None u t n h = absurd (cc)
typing (Some m) u t n h = let both : ◌≡◌ {A = Ty × ℤ} (u, m) (t, n) = cc in record { same = ap (λ p. p.0) both; found = ap (λ p. Some p.1) both }

behind_is : (word back : List ℕ) (t : Ty) (n : ℤ) → behind_word word back ≡ Some (t, n) → IsTyped (word ++ back) t n
unfolding behind_word
behind_is word [] t n found =
    let is = typing (truth word) ty.Bool t n found in
    let right : IsTyped word t n = subst (λ u. IsTyped word u n) is.same (number.IsTyped.truth (truth_is word n is.found)) in
    subst (λ w. IsTyped w t n) (sym (append-nil word)) right
behind_is word (b ∷ rest) t n found = elim (cases_Bool (nat_eq b 35)) [
  | inl hash ↦
      let one = bound (λ u. of_type (number_behind u rest) u) (named word) (t, n) (rw hash at found) in
      let is = typing (number_behind one.0 rest) one.0 t n one.2 in
      let b_is : b ≡ 35 = eqb-true b 35 hash in
      subst (λ c. IsTyped (word ++ c ∷ rest) t n) (sym b_is) (named_typed word rest t n (one.1 ∙ ap Some is.same) (subst (λ u. IsNumber u rest n) is.same (number_is one.0 rest n is.found)))
  | inr other ↦ absurd (let none = rw other at found in cc)
]

pub literal_is : (text : List ℕ) (t : Ty) (n : ℤ) → literal_of text ≡ Some (t, n) → IsLiteral text t n
unfolding typed_of
literal_is text t n found = subst (λ x. IsTyped x t n) (front_back is_next_byte (in_lower_case text)) (behind_is (front is_next_byte (in_lower_case text)) (back is_next_byte (in_lower_case text)) t n found)

-- the word at the front of a text, and what stands behind it
pub word_split : (text : List ℕ) (n : ℕ) → IsRun is_next_byte text n → (front is_next_byte (in_lower_case text) ≡ in_lower_case (take n text)) × (back is_next_byte (in_lower_case text) ≡ in_lower_case (drop n text))
word_split text n run =
    let split = run_splits is_next_byte text n run.within run.all run.ends in
    (fold_front is_next_byte text fold_next ∙ ap in_lower_case split.fronts, fold_back is_next_byte text fold_next ∙ ap in_lower_case split.backs)
