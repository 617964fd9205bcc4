-- Which bytes a length of time has, and how many at most.
use Rattle.std.proofs.Common.{◌≡◌, ◌+◌, ◌-◌, ◌*◌, ◌≤◌, ◌||◌, ℕ, ℤ, suc, Bool, true, List, [], ◌∷◌, ◌++◌, length, get_or, refl, arith, ◌∙◌}
use Rattle.std.specs.Prelude.{codes}
use Rattle.std.specs.List.{list_all}
use Rattle.std.proofs.lemmas.Bool.{and_parts, and_from}
use Rattle.std.proofs.lemmas.List.{length-append}
use Rattle.std.proofs.lemmas.List.Folds.{list_all-append}
use Rattle.plcx_types.specs.declared.duration.TimeUnit.{TimeUnit}
use Rattle.plcx_types.specs.declared.duration.TimeUnit.TheVariants as unit
use Rattle.plcx_types.specs.Name.{is_between}
use Rattle.plcx_types.specs.Numeral.{is_digit}
use Rattle.plcx_types.specs.Duration.{letters_of, units, AreDigits, AreParts, IsTime, skip, last, point, more, apart, ahead, back}
use Rattle.plcx_lex.specs.declared.runs.Class.TheVariants as class
use Rattle.plcx_lex.specs.Lexis.{is_decimal}
use Rattle.plcx_lex.specs.Scan.{belongs, is_end}

abbrev pub timed : ℕ → Bool
timed = belongs class.Time

pub record Brief (most : ℕ) (text : List ℕ) : Type 0 where
  pub all : list_all timed text ≡ true
  pub few : length text ≤ most

pub all_pass : (p q : ℕ → Bool) (xs : List ℕ) → ((b : ℕ) → p b ≡ true → q b ≡ true) → list_all p xs ≡ true → list_all q xs ≡ true
all_pass p q [] to all = refl
all_pass p q (x ∷ xs) to all = let parts = and_parts (p x) (list_all p xs) all in and_from (q x) (list_all q xs) (to x parts.0) (all_pass p q xs to parts.1)

digit_timed : (b : ℕ) → is_digit 10 b ≡ true → timed b ≡ true
digit_timed b is = let shape : (is_between 48 57 b || is_between 97 102 b) ≡ true = (and_parts _ _ is).0 in grind arith

brief_digits : (most : ℕ) (digits : List ℕ) → AreDigits most digits → Brief most digits
brief_digits most digits is = record { all = all_pass (is_digit 10) timed digits digit_timed is.all; few = is.few }

brief_letters : (u : TimeUnit) → Brief 2 (letters_of u)
brief_letters unit.Day = record { all = refl; few = omega arith }
brief_letters unit.Hour = record { all = refl; few = omega arith }
brief_letters unit.Minute = record { all = refl; few = omega arith }
brief_letters unit.Second = record { all = refl; few = omega arith }
brief_letters unit.Millisecond = record { all = refl; few = omega arith }

brief_both : (m n : ℕ) (xs ys : List ℕ) → Brief m xs → Brief n ys → Brief (m + n) (xs ++ ys)
brief_both m n xs ys p q = record { all = list_all-append timed xs ys ∙ and_from _ _ p.all q.all; few = omega (arith, length-append xs ys, p.few, q.few) }

brief_mark : (b : ℕ) (most : ℕ) (xs : List ℕ) → timed b ≡ true → Brief most xs → Brief (suc most) (b ∷ xs)
brief_mark b most xs is p = record { all = and_from (timed b) (list_all timed xs) is p.all; few = omega (arith, p.few) }

brief_less : (m n : ℕ) (xs : List ℕ) → m ≤ n → Brief m xs → Brief n xs
brief_less m n xs le p = record { all = p.all; few = omega (arith, p.few) }

pub brief_parts : (us : List TimeUnit) (text : List ℕ) (ms : ℕ) → AreParts us text ms → Brief (23 * length us + 10) text
brief_parts us text ms (skip {us = vs} {text = same} {ms = n} is) = brief_less (23 * length vs + 10) (23 * length us + 10) same (omega arith) (brief_parts vs same n is)
brief_parts us text ms (last {u = u} {us = vs} {digits = digits} is) = brief_less (20 + 2) _ _ (omega arith) (brief_both 20 2 digits (letters_of u) (brief_digits 20 digits is) (brief_letters u))
brief_parts us text ms (point {u = u} {us = vs} {digits = digits} {decimals = decimals} is tail exact) =
    brief_less (20 + suc (9 + 2)) _ _ (omega arith)
    (brief_both 20 (suc (9 + 2)) digits (codes "." ++ (decimals ++ letters_of u)) (brief_digits 20 digits is)
    (brief_mark 46 (9 + 2) (decimals ++ letters_of u) refl (brief_both 9 2 decimals (letters_of u) (brief_digits 9 decimals tail) (brief_letters u))))
brief_parts us text ms (more {u = u} {us = vs} {digits = digits} {rest = rest} {ms = n} is others) =
    let inner = brief_parts vs rest n others in
    brief_less (20 + (2 + (23 * length vs + 10))) _ _ (omega arith) (brief_both 20 (2 + (23 * length vs + 10)) digits (letters_of u ++ rest) (brief_digits 20 digits is) (brief_both 2 (23 * length vs + 10) (letters_of u) rest (brief_letters u) inner))
brief_parts us text ms (apart {u = u} {us = vs} {digits = digits} {rest = rest} {ms = n} is others) =
    let inner = brief_parts vs rest n others in
    brief_less (20 + (2 + suc (23 * length vs + 10))) _ _ (omega arith)
    (brief_both 20 (2 + suc (23 * length vs + 10)) digits (letters_of u ++ (codes "_" ++ rest)) (brief_digits 20 digits is)
    (brief_both 2 (suc (23 * length vs + 10)) (letters_of u) (codes "_" ++ rest) (brief_letters u) (brief_mark 95 (23 * length vs + 10) rest refl inner)))

pub brief_time : (text : List ℕ) (n : ℤ) → IsTime text n → Brief 128 text
brief_time text n (ahead {ms = ms} is) = brief_less 125 128 text (omega arith) (brief_parts units text ms is)
brief_time text n (back {text = rest} {ms = ms} is) = brief_less 126 128 _ (omega arith) (brief_mark 45 125 rest refl (brief_parts units rest ms is))

-- ---- how it ends

-- a unit stands at the end, behind a digit or as `ms`
pub record Ends (text : List ℕ) : Type 0 where
  pub two : 2 ≤ length text
  pub closed : is_end (get_or text (length text - 2) 0) (get_or text (length text - 1) 0) ≡ true

ends_behind : (front text : List ℕ) → Ends text → Ends (front ++ text)
ends_behind [] text ends = ends
ends_behind (b ∷ bs) text ends =
    let again = ends_behind bs text ends in
    let two : 2 ≤ length (bs ++ text) = again.two in
    let near : suc (length (bs ++ text)) - 2 ≡ suc (length (bs ++ text) - 2) = omega arith in
    let last : suc (length (bs ++ text)) - 1 ≡ suc (length (bs ++ text) - 1) = omega arith in
    record { two = omega arith; closed = rw (near, last) again.closed }

ends_unit : (d : ℕ) (u : TimeUnit) → is_decimal d ≡ true → Ends (d ∷ letters_of u)
ends_unit d unit.Day digit = record { two = omega arith; closed = rw digit refl }
ends_unit d unit.Hour digit = record { two = omega arith; closed = rw digit refl }
ends_unit d unit.Minute digit = record { two = omega arith; closed = rw digit refl }
ends_unit d unit.Second digit = record { two = omega arith; closed = rw digit refl }
ends_unit d unit.Millisecond digit = record { two = omega arith; closed = refl }

decimal : (b : ℕ) → is_digit 10 b ≡ true → is_decimal b ≡ true
decimal b h = grind arith

ends_digits : (digits : List ℕ) (u : TimeUnit) → list_all (is_digit 10) digits ≡ true → 1 ≤ length digits → Ends (digits ++ letters_of u)
ends_digits [] u all some = absurd (omega arith)
ends_digits (d ∷ []) u all some = ends_unit d u (decimal d (and_parts (is_digit 10 d) true all).0)
ends_digits (d ∷ e ∷ ds) u all some = ends_behind (d ∷ []) ((e ∷ ds) ++ letters_of u) (ends_digits (e ∷ ds) u (and_parts (is_digit 10 d) (list_all (is_digit 10) (e ∷ ds)) all).1 (omega arith))

ends_parts : (us : List TimeUnit) (text : List ℕ) (ms : ℕ) → AreParts us text ms → Ends text
ends_parts us text ms (skip {us = vs} {text = same} {ms = n} is) = ends_parts vs same n is
ends_parts us text ms (last {u = u} {digits = digits} is) = ends_digits digits u is.all is.some
ends_parts us text ms (point {u = u} {digits = digits} {decimals = decimals} is tail exact) =
    ends_behind digits (codes "." ++ (decimals ++ letters_of u)) (ends_behind (codes ".") (decimals ++ letters_of u) (ends_digits decimals u tail.all tail.some))
ends_parts us text ms (more {u = u} {us = vs} {digits = digits} {rest = rest} {ms = n} is others) = ends_behind digits (letters_of u ++ rest) (ends_behind (letters_of u) rest (ends_parts vs rest n others))
ends_parts us text ms (apart {u = u} {us = vs} {digits = digits} {rest = rest} {ms = n} is others) =
    ends_behind digits (letters_of u ++ (codes "_" ++ rest)) (ends_behind (letters_of u) (codes "_" ++ rest) (ends_behind (codes "_") rest (ends_parts vs rest n others)))

pub ends_time : (text : List ℕ) (n : ℤ) → IsTime text n → Ends text
ends_time text n (ahead {ms = ms} is) = ends_parts units text ms is
ends_time text n (back {text = rest} {ms = ms} is) = ends_behind (codes "-") rest (ends_parts units rest ms is)
