-- The longest number behind the name of its type at the front of a text.
use Rattle.std.proofs.Common.{◌≡◌, ◌+◌, ◌-◌, ◌<◌, ◌≤◌, ℕ, zero, suc, true, false, inl, inr, List, [], ◌∷◌, ◌++◌, length, take, drop, get_or, Some, None, refl, ap, arith, sym, ◌∙◌, subst}
use Rattle.std.specs.Char.{to_ascii_lowercase}
use Rattle.std.specs.List.{list_all}
use Rattle.std.proofs.lemmas.Bool.{cases_lt}
use Rattle.std.proofs.lemmas.List.{get_or-take, length-take, length-append, drop-map, take-take, take_all, length-drop}
use Rattle.std.proofs.lemmas.List.Folds.{list_all_at}
use Rattle.std.proofs.lemmas.Bool.{true_from_ne_false}
use Rattle.plcx_types.specs.declared.ty.Ty.{Ty}
use Rattle.plcx_types.specs.declared.ty.Ty.TheVariants as ty
use Rattle.plcx_types.specs.Name.{in_lower_case, is_next_byte}
use Rattle.plcx_types.specs.Literal.{type_word}
use Rattle.plcx_lex.specs.ReadNumber.{named}
use Rattle.plcx_lex.specs.Scan.{NoneOf, LongestOf, Number, Typed, IsRun}
use Rattle.plcx_lex.proofs.Folds.{fold_next, fold_all}
use Rattle.plcx_lex.proofs.Numbers.{named_is}
use Rattle.plcx_lex.proofs.NumeralScan.{folded_get, folded_length}
use Rattle.plcx_lex.proofs.TimeScan.{fold_take}

-- the word before `#`
pub record Shape (word : List ℕ) : Type 0 where
  pub all : list_all is_next_byte word ≡ true
  pub few : length word ≤ 5

type_shape : (t : Ty) → Shape (type_word t)
type_shape ty.Bool = record { all = refl; few = omega arith }
type_shape ty.Byte = record { all = refl; few = omega arith }
type_shape ty.Word = record { all = refl; few = omega arith }
type_shape ty.Dword = record { all = refl; few = omega arith }
type_shape ty.Lword = record { all = refl; few = omega arith }
type_shape ty.Sint = record { all = refl; few = omega arith }
type_shape ty.Int = record { all = refl; few = omega arith }
type_shape ty.Dint = record { all = refl; few = omega arith }
type_shape ty.Lint = record { all = refl; few = omega arith }
type_shape ty.Usint = record { all = refl; few = omega arith }
type_shape ty.Uint = record { all = refl; few = omega arith }
type_shape ty.Udint = record { all = refl; few = omega arith }
type_shape ty.Ulint = record { all = refl; few = omega arith }
type_shape ty.Time = record { all = refl; few = omega arith }

pub named_shape : (word : List ℕ) (t : Ty) → named word ≡ Some t → Shape word
named_shape word t found = elim (named_is word t found) [
  | inl same ↦ subst Shape (sym same) (type_shape t)
  | inr short ↦ subst Shape (sym short.0) (record { all = refl; few = omega arith })
]

-- ---- the run at the front

-- so many bytes at the front are of words, and the next is not
pub record Runs (xs : List ℕ) (n : ℕ) : Type 0 where
  pub within : n ≤ length xs
  pub all : list_all is_next_byte (take n xs) ≡ true
  pub ends : n < 128 → n < length xs → is_next_byte (get_or xs n 0) ≡ false

pub run_folded : (text : List ℕ) (n : ℕ) → IsRun is_next_byte (take 128 text) n → Runs (in_lower_case text) n
run_folded text n run = record {
  within = omega (arith, run.within, length-take 128 text, folded_length text);
  all = ap (list_all is_next_byte) (sym (fold_take n text)) ∙ fold_all is_next_byte (take n text) fold_next ∙ ap (list_all is_next_byte) (sym cut) ∙ run.all;
  ends = λ near lt.
      folded_end near (omega (arith, folded_length text));
}
  where
    cut : take n (take 128 text) ≡ take n text
    cut = take-take n 128 text (omega (arith, run.within, length-take 128 text))

    folded_end : n < 128 → n < length text → is_next_byte (get_or (in_lower_case text) n 0) ≡ false
    folded_end near lt = ap is_next_byte (folded_get text n lt) ∙ fold_next (get_or text n 0) ∙ ap is_next_byte (sym (get_or-take 128 text n 0 near)) ∙ run.ends (omega (arith, length-take 128 text))

pub mark_at : (word rest : List ℕ) (b : ℕ) → get_or (word ++ b ∷ rest) (length word) 0 ≡ b
mark_at [] rest b = refl
mark_at (w ∷ ws) rest b = mark_at ws rest b

pub inside : (word rest : List ℕ) (i : ℕ) → i < length word → get_or (word ++ rest) i 0 ≡ get_or word i 0
inside [] rest i lt = absurd (omega arith)
inside (w ∷ ws) rest zero lt = refl
inside (w ∷ ws) rest (suc i) lt = inside ws rest i (omega arith)

passes_at : (xs : List ℕ) (i : ℕ) → i < length xs → list_all is_next_byte xs ≡ true → is_next_byte (get_or xs i 0) ≡ true
passes_at xs i lt all = true_from_ne_false _ (λ h. let bad = sym all ∙ list_all_at is_next_byte xs i 0 lt h in absurd (cc))

-- a word before a `#` is the run
pub run_is_word : (xs word rest : List ℕ) (n m : ℕ) → Runs xs n → m ≤ length xs → take m xs ≡ word ++ 35 ∷ rest → Shape word → n ≡ length word
run_is_word xs word rest n m run le is shape =
    let far : length word < m = omega (arith, ap length is, length-take m xs, length-append word (35 ∷ rest)) in
    let mark : get_or xs (length word) 0 ≡ 35 = sym (get_or-take m xs (length word) 0 far) ∙ ap (λ ys. get_or ys (length word) 0) is ∙ mark_at word rest 35 in
    elim (cases_lt (length word) n) [
      | inl less ↦
          let passing = passes_at (take n xs) (length word) (omega (arith, length-take n xs, run.within)) run.all in
          let bad : is_next_byte 35 ≡ true = ap is_next_byte (sym mark ∙ sym (get_or-take n xs (length word) 0 less)) ∙ passing in
          absurd (cc)
      | inr ge ↦ elim (cases_lt n (length word)) [
        | inl short ↦
            let stop = run.ends (omega (arith, shape.few)) (omega arith) in
            let own : get_or xs n 0 ≡ get_or word n 0 = sym (get_or-take m xs n 0 (omega arith)) ∙ ap (λ ys. get_or ys n 0) is ∙ inside word (35 ∷ rest) n short in
            let bad = sym stop ∙ ap is_next_byte own ∙ passes_at word n short shape.all in
            absurd (cc)
        | inr same ↦ omega arith
      ]
    ]

-- ---- what is found

pub record Parts (xs : List ℕ) (n m : ℕ) : Type 0 where
  pub t : Ty
  pub far : n < m
  pub mark : get_or xs n 0 ≡ 35
  pub name : named (take n xs) ≡ Some t
  pub number : Number t (take (m - (n + 1)) (drop (n + 1) xs))

pub same_rest : (b : ℕ) (xs word rest : List ℕ) (m : ℕ) → take m xs ≡ word ++ b ∷ rest → (take (length word) xs ≡ word) × (take (m - suc (length word)) (drop (suc (length word)) xs) ≡ rest)
same_rest b xs [] rest zero is = absurd (cc)
same_rest b [] [] rest (suc m) is = absurd (cc)
same_rest b (x ∷ xs) [] rest (suc m) is = let tail : take m xs ≡ rest = cc in (refl, ap (λ i. take i xs) (omega arith) ∙ tail)
same_rest b xs (w ∷ ws) rest zero is = absurd (cc)
same_rest b [] (w ∷ ws) rest (suc m) is = absurd (cc)
same_rest b (x ∷ xs) (w ∷ ws) rest (suc m) is =
    let head : x ≡ w = cc in
    let tail : take m xs ≡ ws ++ b ∷ rest = cc in
    let again = same_rest b xs ws rest m tail in
    (ap (λ y. y ∷ take (length ws) xs) head ∙ ap (λ ys. w ∷ ys) again.0, ap (λ i. take i (drop (suc (length ws)) xs)) (omega arith) ∙ again.1)

pub parts_of : (xs : List ℕ) (n m : ℕ) → Runs xs n → m ≤ length xs → Typed (take m xs) → Parts xs n m
parts_of xs n m run le h =
    let shape = named_shape h.1 h.0 h.4 in
    let same = run_is_word xs h.1 h.2 n m run le h.3 shape in
    let far : length h.1 < m = omega (arith, ap length h.3, length-take m xs, length-append h.1 (35 ∷ h.2)) in
    let rest = same_rest 35 xs h.1 h.2 m h.3 in
    let count : suc (length h.1) ≡ n + 1 = omega arith in
    record {
      t = h.0;
      far = omega arith;
      mark = ap (λ i. get_or xs i 0) same ∙ sym (get_or-take m xs (length h.1) 0 far) ∙ ap (λ ys. get_or ys (length h.1) 0) h.3 ∙ mark_at h.1 h.2 35;
      name = ap (λ i. named (take i xs)) same ∙ ap named rest.0 ∙ h.4;
      number = subst (λ i. Number h.0 (take (m - i) (drop i xs))) count (subst (Number h.0) (sym rest.1) h.5);
    }

pub cut_at : (xs : List ℕ) (n k : ℕ) → n < length xs → take (n + 1 + k) xs ≡ take n xs ++ get_or xs n 0 ∷ take k (drop (n + 1) xs)
cut_at [] n k lt = absurd (omega arith)
cut_at (x ∷ xs) zero k lt = let one : 0 + 1 + k ≡ suc k = omega arith in rw one refl
cut_at (x ∷ xs) (suc n) k lt =
    let one : suc n + 1 + k ≡ suc (n + 1 + k) = omega arith in
    let two : suc n + 1 ≡ suc (n + 1) = omega arith in
    rw (one, two) (ap (λ ys. x ∷ ys) (cut_at xs n k (omega arith)))

pub fold_drop : (n : ℕ) (text : List ℕ) → in_lower_case (drop n text) ≡ drop n (in_lower_case text)
fold_drop n text = sym (drop-map to_ascii_lowercase n text)

pub rest_all : (text : List ℕ) (n : ℕ) → take (length text - n) (drop n text) ≡ drop n text
rest_all text n = take_all _ (drop n text) (omega (arith, length-drop n text))

same_type : (word : List ℕ) (t u : Ty) → named word ≡ Some t → named word ≡ Some u → t ≡ u
same_type word t u p q = let both : Some t ≡ Some u = sym p ∙ q in cc

mark_folded : (text : List ℕ) (n : ℕ) → n < length text → get_or text n 0 ≡ 35 → get_or (in_lower_case text) n 0 ≡ 35
mark_folded text n lt is = folded_get text n lt ∙ ap to_ascii_lowercase is

mark_raw : (text : List ℕ) (n : ℕ) → n < length text → get_or (in_lower_case text) n 0 ≡ 35 → get_or text n 0 ≡ 35
mark_raw text n lt is = go (get_or text n 0) (sym (folded_get text n lt) ∙ is)
  where
    go : (b : ℕ) → to_ascii_lowercase b ≡ 35 → b ≡ 35
    go b h = grind arith

pub typed_found : (text : List ℕ) (n long : ℕ) (t : Ty) → IsRun is_next_byte (take 128 text) n → n < length text → get_or text n 0 ≡ 35 → named (in_lower_case (take n text)) ≡ Some t → LongestOf (Number t) (in_lower_case (drop (n + 1) text)) long
    → LongestOf Typed (in_lower_case text) (n + 1 + long)
typed_found text n long t run lt mark name found =
    let xs = in_lower_case text in
    let runs = run_folded text n run in
    let rest : LongestOf (Number t) (drop (n + 1) xs) long = subst (λ ys. LongestOf (Number t) ys long) (fold_drop (n + 1) text) found in
    let named_here : named (take n xs) ≡ Some t = ap named (sym (fold_take n text)) ∙ name in
    let size : length xs ≡ length text = folded_length text in
    record {
      within = omega (arith, rest.within, length-drop (n + 1) xs);
      holds = (t, take n xs, take long (drop (n + 1) xs), cut_at xs n long (omega arith) ∙ ap (λ b. take n xs ++ b ∷ take long (drop (n + 1) xs)) (mark_folded text n lt mark), named_here, rest.holds);
      longest = λ m far le h. (
          let parts = parts_of xs n m runs le h in
          rest.longest (m - (n + 1)) (omega arith) (omega (arith, length-drop (n + 1) xs)) (subst (λ u. Number u (take (m - (n + 1)) (drop (n + 1) xs))) (same_type (take n xs) parts.t t parts.name named_here) parts.number));
    }

pub typed_unfound : (text : List ℕ) (n : ℕ) (t : Ty) → IsRun is_next_byte (take 128 text) n → named (in_lower_case (take n text)) ≡ Some t → NoneOf (Number t) (in_lower_case (drop (n + 1) text)) → NoneOf Typed (in_lower_case text)
typed_unfound text n t run name none = λ m le h.
    let xs = in_lower_case text in
    let parts = parts_of xs n m (run_folded text n run) le h in
    let named_here : named (take n xs) ≡ Some t = ap named (sym (fold_take n text)) ∙ name in
    let rest : NoneOf (Number t) (drop (n + 1) xs) = subst (λ ys. NoneOf (Number t) ys) (fold_drop (n + 1) text) none in
    let far : n < m = parts.far in
    rest (m - (n + 1)) (omega (arith, length-drop (n + 1) xs)) (subst (λ u. Number u (take (m - (n + 1)) (drop (n + 1) xs))) (same_type (take n xs) parts.t t parts.name named_here) parts.number)

pub typed_unnamed : (text : List ℕ) (n : ℕ) → IsRun is_next_byte (take 128 text) n → named (in_lower_case (take n text)) ≡ None → NoneOf Typed (in_lower_case text)
typed_unnamed text n run name = λ m le h.
    let parts = parts_of (in_lower_case text) n m (run_folded text n run) le h in
    let bad = sym (ap named (sym (fold_take n text)) ∙ name) ∙ parts.name in absurd (cc)

pub typed_unmarked : (text : List ℕ) (n : ℕ) → IsRun is_next_byte (take 128 text) n → (n < length text → get_or text n 0 ≡ 35 → ⊥) → NoneOf Typed (in_lower_case text)
typed_unmarked text n run other = λ m le h.
    let parts = parts_of (in_lower_case text) n m (run_folded text n run) le h in
    let far : n < m = parts.far in
    let lt : n < length text = omega (arith, folded_length text) in
    other lt (mark_raw text n lt parts.mark)
