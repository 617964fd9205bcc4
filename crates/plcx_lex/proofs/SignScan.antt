-- The longest sign at the front of a text.
use Rattle.std.proofs.Common.{◌≡◌, ◌<◌, ◌≤◌, ◌||◌, ◌&&◌, nat_le, ℕ, zero, suc, Bool, true, false, inl, inr, List, [], ◌∷◌, length, take, get_or, refl, ap, arith, sym, ◌∙◌}
use Rattle.std.specs.Prelude.{codes}
use Rattle.std.specs.List.{list_all, list_any}
use Rattle.std.specs.Str.{bytes_eq}
use Rattle.std.proofs.lemmas.Bool.{cases_Bool, and_parts, leb-true}
use Rattle.std.proofs.lemmas.Slice.Eq.{bytes_eq-Decides}
use Rattle.plcx_types.specs.Address.{is_one_of}
use Rattle.plcx_lex.specs.Lexis.{sign_texts}
use Rattle.plcx_lex.specs.Scan.{NoneOf, LongestOf, LongestSign, IsSign, Sign, is_pair}
use Rattle.plcx_lex.specs.declared.terminal.Terminal.{Terminal}

-- what all entries of a table have, a text among them has
pub listed : (p : List ℕ → Bool) (table : List (List ℕ)) (text : List ℕ) → list_all p table ≡ true → list_any (bytes_eq text) table ≡ true → p text ≡ true
listed p [] text all any = absurd (cc)
listed p (entry ∷ table) text all any =
    let parts = and_parts (p entry) (list_all p table) all in
    elim (cases_Bool (bytes_eq text entry)) [
      | inl same ↦ ap p ((bytes_eq-Decides text entry).0 same) ∙ parts.0
      | inr other ↦ listed p table text parts.1 (rw other at any)
    ]

and_false : (b : Bool) → (b && false) ≡ false
and_false true = refl
and_false false = refl

and_true : (b : Bool) → (b && true) ≡ b
and_true true = refl
and_true false = refl

or_false : (b : Bool) → (b || false) ≡ b
or_false true = refl
or_false false = refl

or_assoc : (a b c : Bool) → ((a || b) || c) ≡ (a || (b || c))
or_assoc true b c = refl
or_assoc false b c = refl

pub one_byte : (b : ℕ) → list_any (bytes_eq (b ∷ [])) sign_texts ≡ is_one_of (codes ":;,.()+-*/=<>") b
one_byte b = simp (and_false, and_true) refl

pub two_bytes : (b c : ℕ) → list_any (bytes_eq (b ∷ c ∷ [])) sign_texts ≡ is_pair b c
two_bytes b c = simp (and_false, and_true, or_false, or_assoc) refl

short_sign : (text : List ℕ) → list_any (bytes_eq text) sign_texts ≡ true → length text ≤ 2
short_sign text any = leb-true (length text) 2 (listed (λ t. nat_le (length t) 2) sign_texts text refl any)

pub no_sign_empty : list_any (bytes_eq []) sign_texts ≡ false
no_sign_empty = refl

pub sign_none : NoneOf Sign []
sign_none zero le h = absurd (cc)
sign_none (suc m) le h = absurd (cc)

pub single_found : (b : ℕ) → is_one_of (codes ":;,.()+-*/=<>") b ≡ true → LongestOf Sign (b ∷ []) 1
single_found b is = record { within = omega arith; holds = one_byte b ∙ is; longest = λ m lt le h. absurd (omega arith) }

pub single_none : (b : ℕ) → is_one_of (codes ":;,.()+-*/=<>") b ≡ false → NoneOf Sign (b ∷ [])
single_none b other zero le h = absurd (cc)
single_none b other (suc zero) le h = let bad = sym (one_byte b ∙ other) ∙ h in absurd (cc)
single_none b other (suc (suc m)) le h = absurd (omega arith)

pub pair_found : (b c : ℕ) (text : List ℕ) → is_pair b c ≡ true → LongestOf Sign (b ∷ c ∷ text) 2
pair_found b c text is = record { within = omega arith; holds = two_bytes b c ∙ is; longest = λ m lt le h. longer m text lt le h }
  where
    longer : (m : ℕ) (text : List ℕ) → 2 < m → m ≤ length (b ∷ c ∷ text) → Sign (take m (b ∷ c ∷ text)) → ⊥
    longer zero text lt le h = omega arith
    longer (suc zero) text lt le h = omega arith
    longer (suc (suc zero)) text lt le h = omega arith
    longer (suc (suc (suc m))) [] lt le h = omega arith
    longer (suc (suc (suc m))) (d ∷ ds) lt le h = omega (arith, short_sign (b ∷ c ∷ d ∷ take m ds) h)

pub first_found : (b c : ℕ) (text : List ℕ) → is_pair b c ≡ false → is_one_of (codes ":;,.()+-*/=<>") b ≡ true → LongestOf Sign (b ∷ c ∷ text) 1
first_found b c text pair is = record { within = omega arith; holds = one_byte b ∙ is; longest = λ m lt le h. longer m text lt le h }
  where
    longer : (m : ℕ) (text : List ℕ) → 1 < m → m ≤ length (b ∷ c ∷ text) → Sign (take m (b ∷ c ∷ text)) → ⊥
    longer zero text lt le h = omega arith
    longer (suc zero) text lt le h = omega arith
    longer (suc (suc zero)) text lt le h = let bad = sym (two_bytes b c ∙ pair) ∙ h in absurd (cc)
    longer (suc (suc (suc m))) [] lt le h = omega arith
    longer (suc (suc (suc m))) (d ∷ ds) lt le h = omega (arith, short_sign (b ∷ c ∷ d ∷ take m ds) h)

pub none_found : (b c : ℕ) (text : List ℕ) → is_pair b c ≡ false → is_one_of (codes ":;,.()+-*/=<>") b ≡ false → NoneOf Sign (b ∷ c ∷ text)
none_found b c text pair other zero le h = absurd (cc)
none_found b c text pair other (suc zero) le h = let bad = sym (one_byte b ∙ other) ∙ h in absurd (cc)
none_found b c text pair other (suc (suc zero)) le h = let bad = sym (two_bytes b c ∙ pair) ∙ h in absurd (cc)
none_found b c [] pair other (suc (suc (suc m))) le h = omega arith
none_found b c (d ∷ ds) pair other (suc (suc (suc m))) le h = omega (arith, short_sign (b ∷ c ∷ d ∷ take m ds) h)

pub pair_sign : (b c : ℕ) (text : List ℕ) (t : Terminal) → is_pair b c ≡ true → IsSign t (b ∷ c ∷ []) → LongestSign (b ∷ c ∷ text) t 2
pair_sign b c text t pair is = record { sign = pair_found b c text pair; is = is }

pub single_sign : (b : ℕ) (t : Terminal) → is_one_of (codes ":;,.()+-*/=<>") b ≡ true → IsSign t (b ∷ []) → LongestSign (b ∷ []) t 1
single_sign b t single is = record { sign = single_found b single; is = is }

pub first_sign : (b c : ℕ) (text : List ℕ) (t : Terminal) → is_pair b c ≡ false → is_one_of (codes ":;,.()+-*/=<>") b ≡ true → IsSign t (b ∷ []) → LongestSign (b ∷ c ∷ text) t 1
first_sign b c text t pair single is = record { sign = first_found b c text pair single; is = is }

-- the same by the bytes at the front
pub pair_at : (text : List ℕ) (t : Terminal) → 2 ≤ length text → is_pair (get_or text 0 0) (get_or text 1 0) ≡ true → IsSign t (get_or text 0 0 ∷ get_or text 1 0 ∷ []) → LongestSign text t 2
pair_at [] t two pair is = absurd (omega arith)
pair_at (b ∷ []) t two pair is = absurd (omega arith)
pair_at (b ∷ c ∷ text) t two pair is = pair_sign b c text t pair is

pub first_at : (text : List ℕ) (t : Terminal) → 2 ≤ length text → is_pair (get_or text 0 0) (get_or text 1 0) ≡ false → is_one_of (codes ":;,.()+-*/=<>") (get_or text 0 0) ≡ true → IsSign t (get_or text 0 0 ∷ []) → LongestSign text t 1
first_at [] t two pair single is = absurd (omega arith)
first_at (b ∷ []) t two pair single is = absurd (omega arith)
first_at (b ∷ c ∷ text) t two pair single is = first_sign b c text t pair single is

pub none_at : (text : List ℕ) → 2 ≤ length text → is_pair (get_or text 0 0) (get_or text 1 0) ≡ false → is_one_of (codes ":;,.()+-*/=<>") (get_or text 0 0) ≡ false → NoneOf Sign text
none_at [] two pair other = absurd (omega arith)
none_at (b ∷ []) two pair other = absurd (omega arith)
none_at (b ∷ c ∷ text) two pair other = none_found b c text pair other

pub ruleset sign_rules = (sign_none, single_sign, single_none, pair_sign, first_sign, none_found)
