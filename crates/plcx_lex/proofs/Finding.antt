-- The longest prefix of a form.
use Rattle.std.proofs.Common.{◌≡◌, ◌+◌, ◌-◌, ◌<◌, ◌≤◌, ℕ, zero, suc, inl, inr, List, [], ◌∷◌, ◌++◌, length, take, drop, get_or, Option, Some, None, refl, ap, arith, sym, ◌∙◌, subst, nat_le, append-nil}
use Rattle.std.specs.Option.{option_map}
use Rattle.std.proofs.lemmas.Bool.{cases_Bool, leb-true, leb-false, eq-eqb}
use Rattle.std.proofs.lemmas.List.{length-take, length-append, take-append-drop, append_cancel_left}
use Rattle.std.proofs.Math.Seq.{take-append_seam}
use Rattle.std.proofs.lemmas.Bool.{cases_lt}
use Rattle.plcx_types.specs.Reading.{behind}
use Rattle.plcx_types.proofs.BehindWord.{behind_is}
use Rattle.plcx_lex.specs.Scan.{LongestOf, NoneOf, Finds, Either, After, longer}

-- ---- fronts

-- a front that ends past a byte has that byte
pub record Past (xs : List ℕ) (i m : ℕ) : Type 0 where
  pub rest : List ℕ
  pub is : take m xs ≡ take i xs ++ (get_or xs i 0 ∷ rest)

pub past : (xs : List ℕ) (i m : ℕ) → i < m → i < length xs → Past xs i m
past [] i m lt within = absurd (omega arith)
past (x ∷ xs) i zero lt within = absurd (omega arith)
past (x ∷ xs) zero (suc m) lt within = record { rest = take m xs; is = refl }
past (x ∷ xs) (suc i) (suc m) lt within = let again = past xs i m (omega arith) (omega arith) in record { rest = again.rest; is = ap (λ ys. x ∷ ys) again.is }

pub front_behind : (word xs : List ℕ) (m : ℕ) → length word ≤ m → take m (word ++ xs) ≡ word ++ take (m - length word) xs
front_behind [] xs m le = ap (λ i. take i xs) (omega arith)
front_behind (w ∷ ws) xs zero le = absurd (omega arith)
front_behind (w ∷ ws) xs (suc m) le = ap (λ ys. w ∷ ys) (front_behind ws xs m (omega arith) ∙ ap (λ i. ws ++ take i xs) (omega arith))

-- a word at the front of a front is at the front
pub begins : (word rest xs : List ℕ) (m : ℕ) → take m xs ≡ word ++ rest → behind word xs ≡ Some (rest ++ drop m xs)
begins [] rest xs m is = ap Some (sym (take-append-drop m xs) ∙ ap (λ ys. ys ++ drop m xs) is)
begins (w ∷ ws) rest [] zero is = absurd (cc)
begins (w ∷ ws) rest [] (suc m) is = absurd (cc)
begins (w ∷ ws) rest (x ∷ xs) zero is = absurd (cc)
begins (w ∷ ws) rest (x ∷ xs) (suc m) is =
    let first : x ≡ w = cc in
    let later : take m xs ≡ ws ++ rest = cc in
    rw (eq-eqb x w first) (begins ws rest xs m later)

-- ---- forms

pub alike : (P Q : List ℕ → Type 0) (xs : List ℕ) (found : Option ℕ) → ((m : ℕ) → P (take m xs) → Q (take m xs)) → ((m : ℕ) → Q (take m xs) → P (take m xs)) → Finds P xs found → Finds Q xs found
alike P Q xs None to from none = λ m le q. none m le (from m q)
alike P Q xs (Some n) to from long = record { within = long.within; holds = to n long.holds; longest = λ m lt le q. long.longest m lt le (from m q) }

pub either : (P Q : List ℕ → Type 0) (xs : List ℕ) (one other : Option ℕ) → Finds P xs one → Finds Q xs other → Finds (Either P Q) xs (longer one other)
either P Q xs None None p q = λ m le h. elim h [ inl a ↦ p m le a | inr b ↦ q m le b ]
either P Q xs None (Some m) p q = record { within = q.within; holds = inr q.holds; longest = λ k lt le h. elim h [ inl a ↦ p k le a | inr b ↦ q.longest k lt le b ] }
either P Q xs (Some n) None p q = record { within = p.within; holds = inl p.holds; longest = λ k lt le h. elim h [ inl a ↦ p.longest k lt le a | inr b ↦ q k le b ] }
either P Q xs (Some n) (Some m) p q = elim (cases_Bool (nat_le n m)) [
  | inl le ↦ rw le (let small : n ≤ m = leb-true n m le in record { within = q.within; holds = inr q.holds; longest = λ k lt in' h. elim h [ inl a ↦ p.longest k (omega arith) in' a | inr b ↦ q.longest k lt in' b ] })
  | inr gt ↦ rw gt (let small : m < n = leb-false n m gt in record { within = p.within; holds = inl p.holds; longest = λ k lt in' h. elim h [ inl a ↦ p.longest k lt in' a | inr b ↦ q.longest k (omega arith) in' b ] })
]

-- a form behind a word
pub after : (P : List ℕ → Type 0) (word xs : List ℕ) (found : Option ℕ) → Finds P xs found → Finds (After word P) (word ++ xs) (option_map (λ n. length word + n) found)
after P word xs found is = go found is
  where
    inner : (m : ℕ) → length word ≤ m → After word P (take m (word ++ xs)) → P (take (m - length word) xs)
    inner m le h =
        let same : word ++ take (m - length word) xs ≡ word ++ h.0 = sym (front_behind word xs m le) ∙ h.1 in
        subst P (sym (append_cancel_left word (take (m - length word) xs) h.0 same)) h.2

    short : (m : ℕ) → m ≤ length (word ++ xs) → After word P (take m (word ++ xs)) → length word ≤ m
    short m le h = omega (arith, length-take m (word ++ xs), ap length h.1, length-append word h.0)

    go : (found : Option ℕ) → Finds P xs found → Finds (After word P) (word ++ xs) (option_map (λ n. length word + n) found)
    go None none = λ m le h. let far = short m le h in none (m - length word) (omega (arith, length-append word xs)) (inner m far h)
    go (Some n) long = record {
      within = omega (arith, long.within, length-append word xs);
      holds = (take n xs, front_behind word xs (length word + n) (omega arith) ∙ ap (λ i. word ++ take i xs) (omega arith), long.holds);
      longest = λ m lt le h. long.longest (m - length word) (omega arith) (omega (arith, length-append word xs)) (inner m (omega arith) h);
    }

pub after_behind : (P : List ℕ → Type 0) (word text rest : List ℕ) (found : Option ℕ) → behind word text ≡ Some rest → Finds P rest found → Finds (After word P) text (option_map (λ n. length word + n) found)
after_behind P word text rest found is finds = subst (λ t. Finds (After word P) t (option_map (λ n. length word + n) found)) (sym (behind_is word text rest is)) (after P word rest found finds)

pub not_behind : (P : List ℕ → Type 0) (word text : List ℕ) → behind word text ≡ None → NoneOf (After word P) text
not_behind P word text none = λ m le h. let bad = sym none ∙ begins word h.0 text m h.1 in absurd (cc)

-- a word alone
pub word_here : (word text rest : List ℕ) → behind word text ≡ Some rest → LongestOf (λ front. front ≡ word) text (length word)
word_here word text rest is =
    let whole = behind_is word text rest is in
    record {
      within = omega (arith, ap length whole, length-append word rest);
      holds = ap (λ t. take (length word) t) whole ∙ take-append_seam word rest;
      longest = λ m lt le h. absurd (omega (arith, ap length h, length-take m text));
    }

pub not_word : (word text : List ℕ) → behind word text ≡ None → NoneOf (λ front. front ≡ word) text
not_word word text none = λ m le h. let bad = sym none ∙ begins word [] text m (h ∙ sym (append-nil word)) in absurd (cc)

-- ---- a longest prefix that is looked for from the left

-- among the fronts of at most so many bytes
abbrev pub Best : (List ℕ → Type 0) → List ℕ → ℕ → Option ℕ → Type 0
Best P xs most None = (m : ℕ) → m ≤ most → P (take m xs) → ⊥
Best P xs most (Some n) = (n ≤ most) × P (take n xs) × ((m : ℕ) → n < m → m ≤ most → P (take m xs) → ⊥)

pub best_finds : (P : List ℕ → Type 0) (xs : List ℕ) (i : ℕ) (best : Option ℕ) → i ≤ length xs → Best P xs i best → ((m : ℕ) → i < m → m ≤ length xs → P (take m xs) → ⊥) → Finds P xs best
best_finds P xs i None within none beyond = λ m le h. elim (cases_lt i m) [ inl lt ↦ beyond m lt le h | inr ge ↦ none m ge h ]
best_finds P xs i (Some n) within best beyond = record {
  within = omega (arith, best.0);
  holds = best.1;
  longest = λ m lt le h. elim (cases_lt i m) [ inl far ↦ beyond m far le h | inr ge ↦ best.2 m lt ge h ];
}

pub best_kept : (P : List ℕ → Type 0) (xs : List ℕ) (i : ℕ) (best : Option ℕ) → Best P xs i best → (P (take (suc i) xs) → ⊥) → Best P xs (suc i) best
best_kept P xs i None none next = λ m le h. elim (cases_lt i m) [ inl lt ↦ (let same : m ≡ suc i = omega arith in next (subst (λ j. P (take j xs)) same h)) | inr ge ↦ none m ge h ]
best_kept P xs i (Some n) best next = (omega (arith, best.0), best.1, λ m lt le h. elim (cases_lt i m) [ inl far ↦ (let same : m ≡ suc i = omega arith in next (subst (λ j. P (take j xs)) same h)) | inr ge ↦ best.2 m lt ge h ])
