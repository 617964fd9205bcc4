-- Tables that have the number of the first place of each key.
use Rattle.std.specs.Prelude.{◌≡◌, ℕ, Bool, true, false, List, Option, Some, None, length}
use Rattle.std.specs.List.{position_from}
use Rattle.std.specs.Map.{lookup}
use Rattle.plcx_names.specs.Told.{found_or, place_if}

-- a test that asks for one key at most: where it passes one, it passes its equals and no other
abbrev pub Asks : {K : Type 0} → (K → K → Bool) → (K → Bool) → Type 0
Asks {K} eq test = (x y : K) → test x ≡ true → test y ≡ eq x y

-- a place has a key that passes
abbrev pub has_key : {K : Type 0} → (K → Bool) → Option K → Bool
has_key test None = false
has_key test (Some key) = test key

-- the table gets a place of this number, with its key if it has one
abbrev pub Grows : {K : Type 0} → (K → K → Bool) → Option K → (number : ℕ) → (before after : List (K × ℕ)) → Type 0
Grows {K} eq key number before after = (test : K → Bool) → Asks eq test → lookup test after ≡ found_or (lookup test before) (place_if (has_key test key) number)

-- the number in a table of what is asked for, where keys are shown so, and are the same so
abbrev pub number_in : {K V : Type 0} → (K → V) → (V → V → Bool) → List (K × ℕ) → V → Option ℕ
number_in shown same entries q = lookup (λ k. same (shown k) q) entries

-- the number of the first place that has it
abbrev pub first_place : {V : Type 0} → (V → V → Bool) → List (Option V) → V → Option ℕ
first_place same places q = position_from (has_key (λ v. same v q)) 0 places

-- the table of so many places
pub record Tells {K V : Type 0} (shown : K → V) (same : V → V → Bool) (entries : List (K × ℕ)) (count : ℕ) (places : List (Option V)) : Type 0 where
  pub numbers : (q : V) → number_in shown same entries q ≡ first_place same places q
  pub long : count ≡ length places
