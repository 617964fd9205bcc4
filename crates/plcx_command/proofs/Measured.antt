-- The number of networks that words ask for.
use Rattle.std.proofs.Common.{◌≡◌, ◌≤◌, ◌+◌, ◌*◌, ℕ, Bool, true, false, List, [], ◌∷◌, length, refl, ap, subst, arith}
use Rattle.std.specs.Prelude.{◌&&◌, not, nat_eq, nat_le, nat_lt, Option, Some, None, codes, if◌then◌else◌}
use Rattle.std.specs.List.{list_all}
use Rattle.std.specs.Option.{option_map, option_and_then}
use Rattle.std.specs.Str.{bytes_eq}
use Rattle.plcx_types.specs.Numeral.{is_digit, digit_value, number_from}
use Rattle.plcx_types.specs.Duration.{number}
use Rattle.plcx_words.specs.Simple.{Arguments, given}
use Rattle.plcx_words.specs.Command.{Command, check, compile, simulate, run, bench, cycle, migrate, report, cover, is_size, alone, bench_of, run_of, task_run_of, migration_of, asked, asked_by, command_of}
use Rattle.plcx_bench_project.specs.Bench.{IsMeasured}

-- more digits make no number less
grows : (n : ℕ) (bs : List ℕ) → n ≤ number_from 10 n bs
grows n [] = omega arith
grows n (b ∷ bs) = by (is_digit 10 b) (grows (n * 10 + digit_value b) bs) (grows n bs)
  where
    by : (c : Bool) → n * 10 + digit_value b ≤ number_from 10 (n * 10 + digit_value b) bs → n ≤ number_from 10 n bs
        → n ≤ (if c then number_from 10 (n * 10 + digit_value b) bs else number_from 10 n bs)
    by true more rest = omega arith
    by false more rest = rest

-- a digit that is no zero makes a number from 1 on
first_some : (b : ℕ) (bs : List ℕ) → is_digit 10 b ≡ true → nat_eq b 48 ≡ false → 1 ≤ number_from 10 0 (b ∷ bs)
first_some b bs digit other =
    let some : 1 ≤ digit_value b = grind arith in
    let more = grows (0 * 10 + digit_value b) bs in
    let here : number_from 10 0 (b ∷ bs) ≡ number_from 10 (0 * 10 + digit_value b) bs = ap (λ c. if c then number_from 10 (0 * 10 + digit_value b) bs else number_from 10 0 bs) digit in
    omega arith

both : (a b : Bool) → (a && b) ≡ true → (a ≡ true) × (b ≡ true)
both true true h = (refl, refl)
both true false h = absurd (cc)
both false b h = absurd (cc)

isnt : (a : Bool) → not a ≡ true → a ≡ false
isnt true h = absurd (cc)
isnt false h = refl

le_if : (a b : ℕ) → nat_le a b ≡ true → a ≤ b
le_if a b h = grind arith

size_is : (text : List ℕ) → is_size text ≡ true → IsMeasured (number text)
size_is [] h = absurd (cc)
size_is (b ∷ bs) h =
    let long = nat_lt 0 (length (b ∷ bs)) && nat_le (length (b ∷ bs)) 4 in
    let digits = list_all (is_digit 10) (b ∷ bs) in
    let other = not (nat_eq b 48) in
    let few = both (long && digits && other) (nat_le (number (b ∷ bs)) 1000) h in
    let first = both (long && digits) other few.0 in
    let all = both (is_digit 10 b) (list_all (is_digit 10) bs) (both long digits first.0).1 in
    record { some = first_some b bs all.0 (isnt (nat_eq b 48) first.1); few = le_if (number (b ∷ bs)) 1000 few.1 }

bench_is : (text : List ℕ) (n : ℕ) → bench_of text ≡ Some (bench n) → IsMeasured n
bench_is text n h = by (is_size text) refl h
  where
    by : (c : Bool) → is_size text ≡ c → (if c then Some (bench (number text)) else None) ≡ Some (bench n) → IsMeasured n
    by true t k = let same : number text ≡ n = cc in subst IsMeasured same (size_is text t)
    by false t k = absurd (cc)

alone_is : (o : Option (List ℕ)) (n : ℕ) → option_and_then bench_of o ≡ Some (bench n) → IsMeasured n
alone_is None n h = absurd (cc)
alone_is (Some text) n h = bench_is text n h

-- no other action is a bench
no_bench : {A : Type 0} (f : A → Command) (o : Option A) (n : ℕ) → ((x : A) → f x ≡ bench n → ⊥) → option_map f o ≡ Some (bench n) → ⊥
no_bench f None n ne h = cc
no_bench f (Some x) n ne h = ne x (cc)

asked_is : (action : List ℕ) (a : Arguments) (n : ℕ) → asked action a ≡ Some (bench n) → IsMeasured n
asked_is action a n h =
    by (bytes_eq action (codes "check")) (bytes_eq action (codes "compile")) (bytes_eq action (codes "simulate")) (bytes_eq action (codes "run")) (bytes_eq action (codes "bench"))
    (bytes_eq action (codes "cycle")) (bytes_eq action (codes "migrate")) (bytes_eq action (codes "report")) (bytes_eq action (codes "cover")) h
  where
    by : (b1 b2 b3 b4 b5 b6 b7 b8 b9 : Bool) → (if b1 then option_map check (alone a)
        else (if b2 then option_map compile (alone a)
        else (if b3 then option_map simulate (run_of a)
        else (if b4 then option_map run (run_of a)
        else (if b5 then option_and_then bench_of (alone a)
        else (if b6 then option_map cycle (task_run_of a)
        else (if b7 then option_map migrate (migration_of a)
        else (if b8 then option_map report (migration_of a)
        else (if b9 then option_map cover (run_of a)
        else None))))))))) ≡ Some (bench n) → IsMeasured n
    by true b2 b3 b4 b5 b6 b7 b8 b9 k = absurd (no_bench check (alone a) n (λ x e. cc) k)
    by false true b3 b4 b5 b6 b7 b8 b9 k = absurd (no_bench compile (alone a) n (λ x e. cc) k)
    by false false true b4 b5 b6 b7 b8 b9 k = absurd (no_bench simulate (run_of a) n (λ x e. cc) k)
    by false false false true b5 b6 b7 b8 b9 k = absurd (no_bench run (run_of a) n (λ x e. cc) k)
    by false false false false true b6 b7 b8 b9 k = alone_is (alone a) n k
    by false false false false false true b7 b8 b9 k = absurd (no_bench cycle (task_run_of a) n (λ x e. cc) k)
    by false false false false false false true b8 b9 k = absurd (no_bench migrate (migration_of a) n (λ x e. cc) k)
    by false false false false false false false true b9 k = absurd (no_bench report (migration_of a) n (λ x e. cc) k)
    by false false false false false false false false true k = absurd (no_bench cover (run_of a) n (λ x e. cc) k)
    by false false false false false false false false false k = absurd (cc)

asked_by_is : (a : Arguments) (n : ℕ) → asked_by a ≡ Some (bench n) → IsMeasured n
asked_by_is a n h = by a.action h
  where
    by : (o : Option (List ℕ)) → option_and_then (λ action. asked action a) o ≡ Some (bench n) → IsMeasured n
    by None k = absurd (cc)
    by (Some action) k = asked_is action a n k

pub words_measured : (words : List (List ℕ)) (n : ℕ) → command_of words ≡ Some (bench n) → IsMeasured n
words_measured words n h = by (given words) h
  where
    by : (o : Option Arguments) → option_and_then asked_by o ≡ Some (bench n) → IsMeasured n
    by None k = absurd (cc)
    by (Some a) k = asked_by_is a n k
