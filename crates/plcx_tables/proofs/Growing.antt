-- Tables of first numbers, as they grow.
use Rattle.std.proofs.Common.{◌≡◌, ℕ, ◌+◌, Bool, true, false, cond, List, [], ◌∷◌, ◌++◌, length, Option, Some, None, is_some, suc, refl, sym, ap, ◌∙◌, arith}
use Rattle.std.specs.List.{position_from}
use Rattle.std.specs.Map.{lookup}
use Rattle.std.specs.Option.{option_map}
use Rattle.std.specs.Cmp.{IsEquivalence}
use Rattle.std.proofs.lemmas.List.{length-append}
use Rattle.indexmap.specs.IndexMap.{insert_entry}
use Rattle.plcx_names.specs.Told.{found_or, place_if}
use Rattle.plcx_names.proofs.Firsts.{or_none}
use Rattle.plcx_tables.specs.Tables.{Asks, has_key, Grows, Tells, first_place}

-- ---- entries

-- the test passes the key, and what passes is its equal
asked : {K : Type 0} (eq : K → K → Bool) (test : K → Bool) → Asks eq test → (k : K) → test k ≡ true → (es : List (K × ℕ)) → lookup test es ≡ lookup (eq k) es
asked eq test asks k is [] = refl
asked eq test asks k is (e ∷ es) = rw (asks k e.0 is, asked eq test asks k is es) refl

known : (o p : Option ℕ) → is_some o ≡ true → found_or o p ≡ o
known None p h = cc
known (Some x) p h = refl

module _ {K : Type 0} (eq : K → K → Bool) (k : K) (v : ℕ) where
  -- the key is there
  pub stays : (es : List (K × ℕ)) → is_some (lookup (eq k) es) ≡ true → Grows eq (Some k) v es es
  stays es there test asks = by (test k) refl
    where
      by : (b : Bool) → test k ≡ b → lookup test es ≡ found_or (lookup test es) (place_if b v)
      by true is = sym (known (lookup test es) (Some v) (ap is_some (asked eq test asks k is es) ∙ there))
      by false is = sym (or_none (lookup test es))

  module _ (test : K → Bool) where
    put : (es : List (K × ℕ)) → is_some (lookup (eq k) es) ≡ false → lookup test (insert_entry eq es k v) ≡ found_or (lookup test es) (place_if (test k) v)
    put [] new = refl
    put (e ∷ es) new = by (eq k e.0) new (put es)
      where
        later : (b : Bool) (after before : Option ℕ) → after ≡ found_or before (place_if (test k) v) → cond b (Some e.1) after ≡ found_or (cond b (Some e.1) before) (place_if (test k) v)
        later true after before h = refl
        later false after before h = h

        by : (b : Bool) → is_some (cond b (Some e.1) (lookup (eq k) es)) ≡ false → (is_some (lookup (eq k) es) ≡ false → lookup test (insert_entry eq es k v) ≡ found_or (lookup test es) (place_if (test k) v))
            → lookup test (cond b ((e.0, v) ∷ es) (e ∷ insert_entry eq es k v)) ≡ found_or (lookup test (e ∷ es)) (place_if (test k) v)
        by true h rest = cc
        by false h rest = later (test e.0) (lookup test (insert_entry eq es k v)) (lookup test es) (rest h)

  -- the key is new
  pub added : (es fs : List (K × ℕ)) → is_some (lookup (eq k) es) ≡ false → fs ≡ insert_entry eq es k v → Grows eq (Some k) v es fs
  added es fs new is test asks = ap (lookup test) is ∙ put test es new

-- a place without a key
pub passed : {K : Type 0} (eq : K → K → Bool) (v : ℕ) (es : List (K × ℕ)) → Grows eq None v es es
passed eq v es test asks = sym (or_none (lookup test es))

-- ---- places

-- one place more
place_push : {X : Type 0} (t : X → Bool) (i : ℕ) (xs : List X) (x : X) → position_from t i (xs ++ x ∷ []) ≡ found_or (position_from t i xs) (place_if (t x) (i + length xs))
place_push t i [] x = ap (place_if (t x)) (let e : i ≡ i + 0 = omega arith in e)
place_push t i (y ∷ xs) x = by (t y) (place_push t (i + 1) xs x)
  where
    by : (b : Bool) → position_from t (i + 1) (xs ++ x ∷ []) ≡ found_or (position_from t (i + 1) xs) (place_if (t x) (i + 1 + length xs))
        → cond b (Some i) (position_from t (i + 1) (xs ++ x ∷ [])) ≡ found_or (cond b (Some i) (position_from t (i + 1) xs)) (place_if (t x) (i + suc (length xs)))
    by true h = refl
    by false h = h ∙ ap (λ n. found_or (position_from t (i + 1) xs) (place_if (t x) n)) (let e : i + 1 + length xs ≡ i + suc (length xs) = omega arith in e)

module _ {K V : Type 0} (shown : K → V) (same : V → V → Bool) (laws : IsEquivalence same) where
  -- no place
  pub none_told : (es : List (K × ℕ)) (n : ℕ) → es ≡ [] → n ≡ 0 → Tells shown same es n []
  none_told es n none zero = record { numbers = λ q. ap (lookup (λ k. same (shown k) q)) none; long = zero }

  asks_one : (eq : K → K → Bool) → ((x y : K) → eq x y ≡ same (shown x) (shown y)) → (q : V) → Asks eq (λ k. same (shown k) q)
  asks_one eq equal q x y is = laws.symm (shown y) q ∙ sym (laws.congr (shown x) q (shown y) is) ∙ sym (equal x y)

  seen : (q : V) (key : Option K) → has_key (λ k. same (shown k) q) key ≡ has_key (λ v. same v q) (option_map shown key)
  seen q None = refl
  seen q (Some k) = refl

  -- one place more
  pub more_told : (eq : K → K → Bool) → ((x y : K) → eq x y ≡ same (shown x) (shown y)) → (es fs : List (K × ℕ)) (n after : ℕ) (key : Option K) → Grows eq key n es fs → after ≡ n + 1
      → (places : List (Option V)) → Tells shown same es n places → Tells shown same fs after (places ++ option_map shown key ∷ [])
  more_told eq equal es fs n after key grows is places told = record {
    numbers = λ q.
        grows (λ k. same (shown k) q) (asks_one eq equal q)
        ∙ ap (λ b. found_or (lookup (λ k. same (shown k) q) es) (place_if b n)) (seen q key)
        ∙ ap (λ o. found_or o (place_if (has_key (λ v. same v q) (option_map shown key)) n)) (told.numbers q)
        ∙ ap (λ m. found_or (first_place same places q) (place_if (has_key (λ v. same v q) (option_map shown key)) m)) (let l = told.long in let e : n ≡ 0 + length places = omega arith in e)
        ∙ sym (place_push (has_key (λ v. same v q)) 0 places (option_map shown key));
    long = (let l = told.long in let e = length-append places (option_map shown key ∷ []) in omega arith);
  }
