-- Counting what waits.
use Rattle.std.proofs.Common.{◌≡◌, ℕ, zero, suc, ◌+◌, ◌-◌, ◌<◌, ◌≤◌, ◌⊎◌, ◌&&◌, inl, inr, Bool, true, false, List, [], ◌∷◌, ◌++◌, length, set, slice_index, nat_eq, not, refl, sym, ◌∙◌, ap, arith, length-set, get_or-set_same, get_or-set_other}
use Rattle.std.proofs.lemmas.Bool.{cases_lt, cases_eq}
use Rattle.std.proofs.lemmas.List.{length_push, get_or_push, get_or_append_left}
use Rattle.std.proofs.lemmas.Bool.Decides.{nat_tests}
use Rattle.plcx_model.specs.declared.source.Wire.{Wire}
use Rattle.plcx_model.specs.Graph.{to_at}
use Rattle.plcx_order.specs.Counts.{bit, one, count_below, is_awaited, incoming, IsCounted, places_of}
use Rattle.plcx_model.specs.Networks.{Listed}

pub eq_true : (a b : ℕ) → a ≡ b → nat_eq a b ≡ true
eq_true a b e = grind (arith, nat_tests)

pub eq_false : (a b : ℕ) → (a ≡ b → ⊥) → nat_eq a b ≡ false
eq_false a b e = grind (arith, nat_tests)

pub one_same : (a b : ℕ) → a ≡ b → one a b ≡ 1
one_same a b e = ap bit (eq_true a b e)

pub one_other : (a b : ℕ) → (a ≡ b → ⊥) → one a b ≡ 0
one_other a b e = ap bit (eq_false a b e)

pub and_no : (a b : Bool) → b ≡ false → (a && b) ≡ false
and_no true b e = e
and_no false b e = refl

pub no_and : (a b : Bool) → a ≡ false → (a && b) ≡ false
no_and true b e = absurd (let f : true ≡ false = e in cc)
no_and false b e = refl

pub and_yes : (a b : Bool) → a ≡ true → (a && b) ≡ b
and_yes true b e = refl
and_yes false b e = absurd (let f : false ≡ true = e in cc)

pub bit_zero : (b : Bool) → bit b ≡ 0 → b ≡ false
bit_zero true e = absurd (omega (arith, e))
bit_zero false e = refl

pub either_bool : (b : Bool) → (b ≡ true) ⊎ (b ≡ false)
either_bool true = inl refl
either_bool false = inr refl

pub count_zero : (k : ℕ) (p : ℕ → Bool) → count_below k p ≡ 0 → (i : ℕ) → i < k → p i ≡ false
count_zero zero p e i h = absurd (omega arith)
count_zero (suc k) p e i h = elim (cases_lt i k) [
  | inl lt ↦ count_zero k p (omega (arith, e)) i lt
  | inr ge ↦ let at : i ≡ k = omega arith in ap p at ∙ bit_zero (p k) (omega (arith, e))
]

pub zero_count : (k : ℕ) (p : ℕ → Bool) → ((i : ℕ) → i < k → p i ≡ false) → count_below k p ≡ 0
zero_count zero p h = refl
zero_count (suc k) p h = omega (arith, ap bit (h k (omega arith)), zero_count k p (λ i lt. h i (omega arith)))

pub same_count : (k : ℕ) (p q : ℕ → Bool) → ((i : ℕ) → i < k → p i ≡ q i) → count_below k p ≡ count_below k q
same_count zero p q h = refl
same_count (suc k) p q h = omega (arith, ap bit (h k (omega arith)), same_count k p q (λ i lt. h i (omega arith)))

pub less_count : (k : ℕ) (p q : ℕ → Bool) (i : ℕ) → i < k → p i ≡ true → q i ≡ false → ((j : ℕ) → j < k → (j ≡ i → ⊥) → p j ≡ q j) → count_below k q + 1 ≡ count_below k p
less_count zero p q i lt on n h = absurd (omega arith)
less_count (suc k) p q i lt on n h = elim (cases_lt i k) [
  | inl low ↦ omega (arith, ap bit (h k (omega arith) (λ e. omega arith)), less_count k p q i low on n (λ j l other. h j (omega arith) other))
  | inr ge ↦
      let at : k ≡ i = omega arith in
      omega (arith, ap (λ x. bit (p x)) at, ap (λ x. bit (q x)) at, ap bit on, ap bit n, same_count k p q (λ j l. h j (omega arith) (λ e. omega arith)))
]

-- HEARD

pub fewer_incoming : (ws : List Wire) (a : List Bool) (k i v : ℕ) → i < k → k ≡ length a → to_at ws i ≡ v → is_awaited a i ≡ true → incoming ws (set a i false) k v + 1 ≡ incoming ws a k v
fewer_incoming ws a k i v h e is on = less_count k (λ j. nat_eq (to_at ws j) v && is_awaited a j) (λ j. nat_eq (to_at ws j) v && is_awaited (set a i false) j) i h
    (and_yes (nat_eq (to_at ws i) v) (is_awaited a i) (eq_true (to_at ws i) v is) ∙ on)
    (and_no (nat_eq (to_at ws i) v) (is_awaited (set a i false) i) (get_or-set_same a i false false (omega arith)))
    (λ j l other. ap (λ b. nat_eq (to_at ws j) v && b) (sym (get_or-set_other a i j false false other)))

pub same_incoming : (ws : List Wire) (a : List Bool) (k i v : ℕ) → (to_at ws i ≡ v → ⊥) → incoming ws (set a i false) k v ≡ incoming ws a k v
same_incoming ws a k i v not = same_count k (λ j. nat_eq (to_at ws j) v && is_awaited (set a i false) j) (λ j. nat_eq (to_at ws j) v && is_awaited a j)
    (λ j l. elim (cases_eq j i) [
      | inl is ↦
          let no' : nat_eq (to_at ws j) v ≡ false = eq_false (to_at ws j) v (λ e. not (sym (ap (to_at ws) is) ∙ e)) in
          no_and (nat_eq (to_at ws j) v) (is_awaited (set a i false) j) no' ∙ sym (no_and (nat_eq (to_at ws j) v) (is_awaited a j) no')
      | inr other ↦ ap (λ b. nat_eq (to_at ws j) v && b) (get_or-set_other a i j false false other)
    ])

pub positive : (n : ℕ) (ws : List Wire) (a : List Bool) (c : List ℕ) (i v : ℕ) → IsCounted n ws (length ws) a c → i < length ws → v ≡ to_at ws i → v < n → is_awaited a i ≡ true → 1 ≤ slice_index c v
positive n ws a c i v m h e hv on = omega (arith, m.each v hv, fewer_incoming ws a (length ws) i v h (sym m.opens) (sym e) on)

pub hear_counted : (n : ℕ) (ws : List Wire) (a : List Bool) (c : List ℕ) (i v x : ℕ) → IsCounted n ws (length ws) a c → i < length ws → v ≡ to_at ws i → v < n → is_awaited a i ≡ true → x ≡ slice_index c v → IsCounted n ws (length ws) (set a i false) (set c v (x - 1))
hear_counted n ws a c i v x m h e hv on is_x = record {
  opens = length-set a i false ∙ m.opens;
  counts = length-set c v (x - 1) ∙ m.counts;
  each = λ w hw. elim (cases_eq w v) [
    | inl is ↦ omega (arith, ap (slice_index (set c v (x - 1))) is, get_or-set_same c v (x - 1) 0 (omega (arith, m.counts)), m.each v hv, ap (incoming ws (set a i false) (length ws)) is, fewer_incoming ws a (length ws) i v h (sym m.opens) (sym e) on)
    | inr other ↦ omega (arith, get_or-set_other c v w (x - 1) 0 other, m.each w hw, same_incoming ws a (length ws) i w (λ at. other (sym at ∙ sym e)))
  ];
}

-- nothing changes where the connection wasn't awaited
pub hear_nothing : (n : ℕ) (ws : List Wire) (a : List Bool) (c : List ℕ) (i : ℕ) → IsCounted n ws (length ws) a c → is_awaited a i ≡ false → IsCounted n ws (length ws) (set a i false) c
hear_nothing n ws a c i m off = record {
  opens = length-set a i false ∙ m.opens;
  counts = m.counts;
  each = λ v hv. m.each v hv ∙ same_count (length ws) (λ j. nat_eq (to_at ws j) v && is_awaited a j) (λ j. nat_eq (to_at ws j) v && is_awaited (set a i false) j) (λ j h. ap (λ b. nat_eq (to_at ws j) v && b) (elim (cases_eq j i) [
    | inl is ↦ ap (is_awaited a) is ∙ (off ∙ sym (ap (is_awaited (set a i false)) is ∙ get_or-set_same a i false false (omega (arith, m.opens))))
    | inr other ↦ sym (get_or-set_other a i j false false other)
  ]));
}

-- LISTS

pub none_listed : (xs : List ℕ) (v : ℕ) → (Listed xs v → ⊥) → places_of xs v ≡ 0
none_listed [] v h = refl
none_listed (x ∷ xs) v h = omega (arith, one_other x v (λ e. h (inl (sym e))), none_listed xs v (λ l. h (inr l)))

pub some_listed : (xs : List ℕ) (v : ℕ) → Listed xs v → 1 ≤ places_of xs v
some_listed [] v h = absurd h
some_listed (x ∷ xs) v (inl is) = omega (arith, one_same x v (sym is))
some_listed (x ∷ xs) v (inr later) = omega (arith, some_listed xs v later)

pub places-push : (xs : List ℕ) (x v : ℕ) → places_of (xs ++ x ∷ []) v ≡ places_of xs v + one x v
places-push [] x v = omega arith
places-push (y ∷ xs) x v = omega (arith, places-push xs x v)

pub count_bound : (k : ℕ) (p : ℕ → Bool) → count_below k p ≤ k
count_bound zero p = omega arith
count_bound (suc k) p = elim (either_bool (p k)) [
  | inl on ↦ omega (arith, ap bit on, count_bound k p)
  | inr off ↦ omega (arith, ap bit off, count_bound k p)
]

-- one connection more

pub incoming_push : (ws : List Wire) (a : List Bool) (i v : ℕ) (b : Bool) → length a ≡ i → incoming ws (a ++ b ∷ []) (i + 1) v ≡ incoming ws a i v + bit (nat_eq (to_at ws i) v && b)
incoming_push ws a i v b e =
    let next : i + 1 ≡ suc i = omega arith in
    let read : is_awaited (a ++ b ∷ []) i ≡ b = get_or_push a b false i e in
    let old = same_count i (λ j. nat_eq (to_at ws j) v && is_awaited (a ++ b ∷ []) j) (λ j. nat_eq (to_at ws j) v && is_awaited a j) (λ j h. ap (λ x. nat_eq (to_at ws j) v && x) (get_or_append_left a (b ∷ []) false j (omega arith))) in
    ap (λ n. incoming ws (a ++ b ∷ []) n v) next ∙ omega (arith, ap (λ x. bit (nat_eq (to_at ws i) v && x)) read, old)

pub counted_skip : (n : ℕ) (ws : List Wire) (a : List Bool) (c : List ℕ) (i : ℕ) → IsCounted n ws i a c → IsCounted n ws (i + 1) (a ++ false ∷ []) c
counted_skip n ws a c i m = record {
  opens = length_push a false ∙ ap (λ k. k + 1) m.opens;
  counts = m.counts;
  each = λ v hv. omega (arith, m.each v hv, incoming_push ws a i v false m.opens, ap bit (and_no (nat_eq (to_at ws i) v) false refl));
}

pub counted_more : (n : ℕ) (ws : List Wire) (a : List Bool) (c : List ℕ) (i t x : ℕ) → IsCounted n ws i a c → t ≡ to_at ws i → t < n → x ≡ slice_index c t → IsCounted n ws (i + 1) (a ++ true ∷ []) (set c t (x + 1))
counted_more n ws a c i t x m is ht is_x = record {
  opens = length_push a true ∙ ap (λ k. k + 1) m.opens;
  counts = length-set c t (x + 1) ∙ m.counts;
  each = λ v hv. elim (cases_eq v t) [
    | inl at ↦ omega (arith, ap (slice_index (set c t (x + 1))) at, get_or-set_same c t (x + 1) 0 (omega (arith, m.counts)), m.each v hv, ap (slice_index c) at, incoming_push ws a i v true m.opens, ap bit (and_yes (nat_eq (to_at ws i) v) true (eq_true (to_at ws i) v (sym is ∙ sym at))))
    | inr other ↦ omega (arith, get_or-set_other c t v (x + 1) 0 other, m.each v hv, incoming_push ws a i v true m.opens, ap bit (no_and (nat_eq (to_at ws i) v) true (eq_false (to_at ws i) v (λ e. other (sym e ∙ sym is)))))
  ];
}
