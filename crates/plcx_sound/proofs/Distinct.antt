-- What may stand once stands once.
use Rattle.std.proofs.Common.{◌≡◌, ◌≢◌, ℕ, Bool, true, false, ◌||◌, List, [], ◌∷◌, Option, Some, None, refl, filter_map, arith}
use Rattle.std.specs.List.{All, AllPairs, cons_option}
use Rattle.std.specs.Str.{bytes_eq}
use Rattle.std.proofs.lemmas.List.Elements.{All-nil, All-cons}
use Rattle.std.proofs.lemmas.List.Kept.{AllPairs-cons}
use Rattle.std.proofs.lemmas.Slice.Eq.{bytes_eq-Decides}
use Rattle.plcx_types.specs.Lists.{Each}
use Rattle.plcx_model.specs.Verdict.{Never}
use Rattle.plcx_profile.specs.declared.doubling.Once.{Once}
use Rattle.plcx_profile.specs.Declarations.{Declared}
use Rattle.plcx_profile.specs.Names.{key_of, begins, is_key, has_stood, doubles}

abbrev pub Differ : List ℕ → List ℕ → Type 0
Differ x y = x ≢ y

or_true : (b : Bool) → (b || true) ≡ true
or_true true = refl
or_true false = refl

same_bytes : (q : List ℕ) → bytes_eq q q ≡ true
same_bytes q = (bytes_eq-Decides q q).1 refl

all_from : {A : Type 0} (P : A → Type 0) (xs : List A) → Each P xs → All P xs
all_from P [] h = All-nil P
all_from P (x ∷ xs) h = All-cons P x xs h.0 (all_from P xs h.1)

module _ (once : Once) where
  abbrev Doubles : List Declared → Declared → Type 0
  Doubles before x = doubles once before x ≡ true

  abbrev pub Goes : Declared → Type 0
  Goes x = begins once x ≡ false

  stays : (q : List ℕ) (before : List Declared) (x : Declared) → Goes x → has_stood once q before ≡ true → has_stood once q (x ∷ before) ≡ true
  stays q before x goes stood = rw (goes, stood) (or_true (is_key q (key_of once x)))

  stands : (q : List ℕ) (before : List Declared) (x : Declared) → Goes x → key_of once x ≡ Some q → has_stood once q (x ∷ before) ≡ true
  stands q before x goes is = rw (goes, is, same_bytes q) refl

  apart_one : (q : List ℕ) (before : List Declared) (x : Declared) (key : Option (List ℕ)) (rest : List (List ℕ)) → key_of once x ≡ key → has_stood once q before ≡ true → (Doubles before x → ⊥) → Each (Differ q) rest
      → Each (Differ q) (cons_option key rest)
  apart_one q before x None rest is stood never more = more
  apart_one q before x (Some k) rest is stood never more = ((λ e. never (rw (is, ← e) stood)), more)

  apart : (q : List ℕ) (before xs : List Declared) → has_stood once q before ≡ true → Each Goes xs → Never Doubles before xs → Each (Differ q) (filter_map (key_of once) xs)
  apart q before [] stood goes never = tt
  apart q before (x ∷ xs) stood goes never =
      apart_one q before x (key_of once x) (filter_map (key_of once) xs) refl stood never.0 (apart q (x ∷ before) xs (stays q before x goes.0 stood) goes.1 never.1)

  distinct_one : (before xs : List Declared) (x : Declared) (key : Option (List ℕ)) → key_of once x ≡ key → Goes x → Each Goes xs → Never Doubles (x ∷ before) xs → AllPairs Differ (filter_map (key_of once) xs)
      → AllPairs Differ (cons_option key (filter_map (key_of once) xs))
  distinct_one before xs x None is goes all never more = more
  distinct_one before xs x (Some k) is goes all never more =
      let differs = apart k (x ∷ before) xs (stands k before x goes is) all never in
      AllPairs-cons Differ k (filter_map (key_of once) xs) (all_from (Differ k) (filter_map (key_of once) xs) differs) more

  pub distinct : (before xs : List Declared) → Each Goes xs → Never Doubles before xs → AllPairs Differ (filter_map (key_of once) xs)
  distinct before [] goes never = λ i j d less in'. absurd (omega arith)
  distinct before (x ∷ xs) goes never = distinct_one before xs x (key_of once x) refl goes.0 goes.1 never.1 (distinct (x ∷ before) xs goes.1 never.1)
