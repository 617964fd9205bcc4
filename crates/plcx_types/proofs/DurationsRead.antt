-- What is read as a length of time is one.
use Rattle.std.proofs.Common.{◌≡◌, ◌+◌, ◌*◌, ◌^◌, ◌/◌, ◌%◌, nat_eq, ℕ, ℤ, pos, neg_ℤ, true, inl, inr, List, [], ◌∷◌, ◌++◌, length, Option, Some, None, refl, ap, arith, sym, ◌∙◌, subst, append-nil}
use Rattle.std.specs.Prelude.{codes}
use Rattle.std.specs.List.{list_all}
use Rattle.std.specs.Option.{option_map, option_and_then, unwrap_or}
use Rattle.std.specs.Str.{bytes_eq}
use Rattle.std.proofs.Math.Nat.{div-add-mod, mul_comm}
use Rattle.std.proofs.lemmas.Bool.{cases_Bool, eqb-true}
use Rattle.std.proofs.lemmas.Slice.Eq.{bytes_eq-Decides}
use Rattle.plcx_types.specs.declared.duration.TimeUnit.{TimeUnit}
use Rattle.plcx_types.specs.Numeral.{is_digit}
use Rattle.plcx_types.specs.Duration.{letters_of, milliseconds_of, units, number, AreParts, skip, last, point, more, apart, IsTime, ahead}
use Rattle.plcx_types.specs.Duration as duration
use Rattle.plcx_types.specs.Reading.{behind, front, back, is_letter, Part, with_point, part_at, count, exact, last_part, with_others, behind_gap, is_nil, parts, time}
use Rattle.plcx_types.proofs.BehindWord.{behind_is}
use Rattle.plcx_types.proofs.PartShape.{front_passes, front_back, Counts, count_is}
use Rattle.plcx_types.proofs.Wholes.{chosen, mapped}

-- a text is made of these pieces
abbrev IsMade : List ℕ → List ℕ → Option (List ℕ) → List ℕ → List ℕ → Type 0
IsMade text digits None letters rest = text ≡ digits ++ (letters ++ rest)
IsMade text digits (Some decimals) letters rest = (list_all (is_digit 10) decimals ≡ true) × (text ≡ digits ++ (codes "." ++ (decimals ++ (letters ++ rest))))

abbrev IsPart : List ℕ → Part → Type 0
IsPart text p = (list_all (is_digit 10) p.digits ≡ true) × IsMade text p.digits p.decimals p.letters p.rest

part_is : (text : List ℕ) → IsPart text (part_at text)
unfolding part_at
part_is text = go (behind (codes ".") (back (is_digit 10) text)) refl
  where
    go : (r : Option (List ℕ)) → behind (codes ".") (back (is_digit 10) text) ≡ r → IsPart text (with_point (front (is_digit 10) text) (back (is_digit 10) text) r)
    go None is = (
      front_passes (is_digit 10) text,
      sym (ap (λ t. front (is_digit 10) text ++ t) (front_back is_letter (back (is_digit 10) text)) ∙ front_back (is_digit 10) text),
    )
    go (Some decimals) is =
        let pointed : back (is_digit 10) text ≡ codes "." ++ decimals = behind_is (codes ".") (back (is_digit 10) text) decimals is in
        let split : front (is_digit 10) decimals ++ (front is_letter (back (is_digit 10) decimals) ++ back is_letter (back (is_digit 10) decimals)) ≡ decimals = ap (λ t. front (is_digit 10) decimals ++ t) (front_back is_letter (back (is_digit 10) decimals)) ∙ front_back (is_digit 10) decimals in (
          front_passes (is_digit 10) text,
          (front_passes (is_digit 10) decimals, sym (ap (λ t. front (is_digit 10) text ++ (codes "." ++ t)) split ∙ ap (λ t. front (is_digit 10) text ++ t) (sym pointed) ∙ front_back (is_digit 10) text)),
        )

exact_whole : (ms scale scaled : ℕ) → exact scaled scale ≡ Some ms → ms * scale ≡ scaled
unfolding exact
exact_whole ms scale scaled found = elim (cases_Bool (nat_eq (scaled % scale) 0)) [
  | inl none ↦
      let much : Some (scaled / scale) ≡ Some ms = rw none at found in
      let is : scaled / scale ≡ ms = cc in
      let rest : scaled % scale ≡ 0 = eqb-true _ _ none in
      let whole = div-add-mod scaled scale in
      ap (λ n. n * scale) (sym is) ∙ mul_comm (scaled / scale) scale ∙ omega (arith, whole, rest)
  | inr some ↦ absurd (let no = rw some at found in cc)
]

pub bound : {A B : Type 0} (f : A → Option B) (o : Option A) (y : B) → option_and_then f o ≡ Some y → (x : A) × (o ≡ Some x) × (f x ≡ Some y)
bound f None y h = absurd (cc)
bound f (Some x) y h = (x, refl, h)

-- a last part
last_is : (u : TimeUnit) (us : List TimeUnit) (text digits : List ℕ) (decimals : Option (List ℕ)) (letters : List ℕ) (ms : ℕ) → list_all (is_digit 10) digits ≡ true → IsMade text digits decimals letters [] → letters ≡ letters_of u → last_part u digits decimals ≡ Some ms → AreParts (u ∷ us) text ms
unfolding last_part
last_is u us text digits None letters ms all made own found =
    let one = mapped (λ n. n * milliseconds_of u) (count 20 digits) ms found in
    let counts = count_is 20 digits one.0 all one.1 in
    let is : text ≡ digits ++ letters_of u = made ∙ ap (λ t. digits ++ t) (append-nil letters ∙ own) in
    subst (λ t. AreParts (u ∷ us) t ms) (sym is) (subst (λ n. AreParts (u ∷ us) (digits ++ letters_of u) n) (ap (λ n. n * milliseconds_of u) counts.is ∙ one.2) (last counts.are))
last_is u us text digits (Some decimals) letters ms all made own found =
    let one = bound (λ n. option_and_then (λ m. exact ((n * 10 ^ length decimals + m) * milliseconds_of u) (10 ^ length decimals)) (count 9 decimals)) (count 20 digits) ms found in
    let two = bound (λ m. exact ((one.0 * 10 ^ length decimals + m) * milliseconds_of u) (10 ^ length decimals)) (count 9 decimals) ms one.2 in
    let counts = count_is 20 digits one.0 all one.1 in
    let below = count_is 9 decimals two.0 made.0 two.1 in
    let whole = exact_whole ms (10 ^ length decimals) _ two.2 in
    let is : text ≡ digits ++ (codes "." ++ (decimals ++ letters_of u)) = made.1 ∙ ap (λ t. digits ++ (codes "." ++ (decimals ++ t))) (append-nil letters ∙ own) in
    subst (λ t. AreParts (u ∷ us) t ms) (sym is) (point counts.are below.are (rw (counts.is, below.is) whole))

-- a part with others behind it
others_are : (u : TimeUnit) (us : List TimeUnit) (text digits : List ℕ) (decimals : Option (List ℕ)) (letters rest : List ℕ) (ms : ℕ) → ((t : List ℕ) (m : ℕ) → parts us t ≡ Some m → AreParts us t m) → list_all (is_digit 10) digits ≡ true → IsMade text digits decimals letters rest → letters ≡ letters_of u → with_others u digits decimals (parts us (behind_gap rest)) ≡ Some ms → AreParts (u ∷ us) text ms
unfolding with_others
others_are u us text digits (Some decimals) letters rest ms again all made own found = absurd (cc)
others_are u us text digits None letters rest ms again all made own found =
    let one = bound (λ n. option_map (λ m. n * milliseconds_of u + m) (parts us (behind_gap rest))) (count 20 digits) ms found in
    let two = mapped (λ m. one.0 * milliseconds_of u + m) (parts us (behind_gap rest)) ms one.2 in
    let counts = count_is 20 digits one.0 all one.1 in
    let sum : number digits * milliseconds_of u + two.0 ≡ ms = ap (λ n. n * milliseconds_of u + two.0) counts.is ∙ two.2 in
    let is : text ≡ digits ++ (letters_of u ++ rest) = made ∙ ap (λ l. digits ++ (l ++ rest)) own in
    subst (λ t. AreParts (u ∷ us) t ms) (sym is) (subst (λ n. AreParts (u ∷ us) (digits ++ (letters_of u ++ rest)) n) sum (go (behind (codes "_") rest) refl two.0 counts two.1))
  where
    go : (r : Option (List ℕ)) → behind (codes "_") rest ≡ r → (m : ℕ) {n : ℕ} → Counts 20 digits n → parts us (unwrap_or r rest) ≡ Some m → AreParts (u ∷ us) (digits ++ (letters_of u ++ rest)) (number digits * milliseconds_of u + m)
    go None is m counts found = more counts.are (again rest m found)
    go (Some r) is m counts found = subst (λ t. AreParts (u ∷ us) (digits ++ (letters_of u ++ t)) (number digits * milliseconds_of u + m)) (sym (behind_is (codes "_") rest r is)) (apart counts.are (again r m found))

is_empty : (rest : List ℕ) → is_nil rest ≡ true → rest ≡ []
is_empty [] h = refl
is_empty (b ∷ bs) h = absurd (cc)

pub parts_are : (us : List TimeUnit) (text : List ℕ) (ms : ℕ) → parts us text ≡ Some ms → AreParts us text ms
unfolding parts
parts_are [] text ms found = absurd (cc)
parts_are (u ∷ us) text ms found = elim (cases_Bool (bytes_eq (part_at text).letters (letters_of u))) [
  | inr other ↦ skip (parts_are us text ms (rw other at found))
  | inl here ↦
      let own : (part_at text).letters ≡ letters_of u = (bytes_eq-Decides _ _).0 here in
      let is = part_is text in
      elim (cases_Bool (is_nil (part_at text).rest)) [
        | inl nil ↦ last_is u us text (part_at text).digits (part_at text).decimals (part_at text).letters ms is.0 (subst (λ r. IsMade text (part_at text).digits (part_at text).decimals (part_at text).letters r) (is_empty (part_at text).rest nil) is.1) own (rw (here, nil) at found)
        | inr some ↦ others_are u us text (part_at text).digits (part_at text).decimals (part_at text).letters (part_at text).rest ms (λ t m h. parts_are us t m h) is.0 is.1 own (rw (here, some) at found)
      ]
]

pub time_is : (text : List ℕ) (n : ℤ) → time text ≡ Some n → IsTime text n
unfolding time
time_is text n found = elim (chosen (codes "-") text (λ rest. option_map (λ k. neg_ℤ (pos k)) (parts units rest)) _ n found) [
  | inl down ↦
      let one = mapped (λ k. neg_ℤ (pos k)) (parts units down.0) n down.2 in
      subst (λ t. IsTime t n) (sym down.1) (subst (λ k. IsTime (codes "-" ++ down.0) k) one.2 (duration.back (parts_are units down.0 one.0 one.1)))
  | inr up ↦
      let one = mapped pos (parts units text) n up.1 in
      subst (λ k. IsTime text k) one.2 (ahead (parts_are units text one.0 one.1))
]
