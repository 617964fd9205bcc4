-- Names, and labels, that come one after another, none of them twice.
use Rattle.std.proofs.Common.{◌≡◌, ℕ, Bool, true, false, ◌||◌, List, [], ◌∷◌, ◌++◌, map, refl, sym, ◌∙◌}
use Rattle.std.specs.Prelude.{nat_eq, not}
use Rattle.std.specs.List.{list_any}
use Rattle.std.specs.Str.{bytes_eq}
use Rattle.std.proofs.lemmas.Bool.{and_parts, and_from, or_parts, or_from, not-true, not_from_false}
use Rattle.plcx_types.specs.Name.{in_lower_case}
use Rattle.plcx_types.specs.Lists.{Each}
use Rattle.plcx_meaning.specs.Base.{are_distinct, all_differ}
use Rattle.plcx_meaning.proofs.Lists.{IsNew, distinct_parts, distinct_from}
use Rattle.plcx_meaning.proofs.Names.{numbers_swapped}
use Rattle.plcx_conditions.specs.Placed.{Word}
use Rattle.plcx_conditions.specs.Known.{same_name, is_among}

-- ---- a test over one more

one_more : {A : Type 0} (test : A → Bool) (before : List A) (y : A) → list_any test (before ++ y ∷ []) ≡ (list_any test before || test y)
one_more test [] y = by_test (test y)
  where
    by_test : (b : Bool) → (b || false) ≡ b
    by_test true = refl
    by_test false = refl
one_more test (x ∷ before) y = rw (one_more test before y) (turned (test x) (list_any test before) (test y))
  where
    turned : (a b c : Bool) → (a || (b || c)) ≡ ((a || b) || c)
    turned true b c = refl
    turned false b c = refl

-- ---- words

abbrev pub keys : List Word → List (List ℕ)
keys xs = map (λ (w : Word). in_lower_case w.name) xs

-- each is the name of none of these, nor of an earlier one of them
abbrev pub AllNew : (before xs : List Word) → Type 0
AllNew before [] = Unit {0}
AllNew before (x ∷ xs) = (is_among before x ≡ false) × AllNew (before ++ x ∷ []) xs

pub record Apart (before xs : List Word) : Type 0 where
  pub distinct : are_distinct (keys xs) ≡ true
  pub others : Each (λ (x : Word). is_among before x ≡ false) xs

among_more : (before : List Word) (y x : Word) → is_among (before ++ y ∷ []) x ≡ (is_among before x || same_name y.name x.name)
among_more before y x = one_more (λ (w : Word). same_name w.name x.name) before y

fewer : (before xs : List Word) (y : Word) → Each (λ (x : Word). is_among (before ++ y ∷ []) x ≡ false) xs → Each (λ (x : Word). is_among before x ≡ false) xs × IsNew (in_lower_case y.name) (keys xs)
fewer before [] y h = (tt, refl)
fewer before (x ∷ xs) y h =
    let parts = or_parts (is_among before x) (same_name y.name x.name) (sym (among_more before y x) ∙ h.0) in
    let rest = fewer before xs y h.1 in
    ((parts.0, rest.0), or_from (same_name y.name x.name) (list_any (bytes_eq (in_lower_case y.name)) (keys xs)) parts.1 rest.1)

pub new_apart : (before xs : List Word) → AllNew before xs → Apart before xs
new_apart before [] h = record { distinct = refl; others = tt }
new_apart before (x ∷ xs) h =
    let rest = new_apart (before ++ x ∷ []) xs h.1 in
    let less = fewer before xs x rest.others in
    record { distinct = distinct_from (in_lower_case x.name) (keys xs) less.1 rest.distinct; others = (h.0, less.0) }

more : (before xs : List Word) (y : Word) → Each (λ (x : Word). is_among before x ≡ false) xs → IsNew (in_lower_case y.name) (keys xs) → Each (λ (x : Word). is_among (before ++ y ∷ []) x ≡ false) xs
more before [] y h k = tt
more before (x ∷ xs) y h k =
    let parts = or_parts (same_name y.name x.name) (list_any (bytes_eq (in_lower_case y.name)) (keys xs)) k in
    (among_more before y x ∙ or_from (is_among before x) (same_name y.name x.name) h.0 parts.0, more before xs y h.1 parts.1)

pub apart_new : (before xs : List Word) → Apart before xs → AllNew before xs
apart_new before [] h = tt
apart_new before (x ∷ xs) h =
    let parts = distinct_parts (in_lower_case x.name) (keys xs) h.distinct in
    (h.others.0, apart_new (before ++ x ∷ []) xs (record { distinct = parts.1; others = more before xs x h.others.1 parts.0 }))

-- before them stands nothing
pub none_before : (xs : List Word) → Each (λ (x : Word). is_among [] x ≡ false) xs
none_before [] = tt
none_before (x ∷ xs) = (refl, none_before xs)

-- ---- labels

abbrev pub IsFresh : (before : List ℕ) → ℕ → Type 0
IsFresh before n = list_any (nat_eq n) before ≡ false

abbrev pub AllFresh : (before ns : List ℕ) → Type 0
AllFresh before [] = Unit {0}
AllFresh before (n ∷ ns) = IsFresh before n × AllFresh (before ++ n ∷ []) ns

pub record Differ (before ns : List ℕ) : Type 0 where
  pub differ : all_differ ns ≡ true
  pub others : Each (IsFresh before) ns

fewer_labels : (before ns : List ℕ) (m : ℕ) → Each (IsFresh (before ++ m ∷ [])) ns → Each (IsFresh before) ns × (list_any (nat_eq m) ns ≡ false)
fewer_labels before [] m h = (tt, refl)
fewer_labels before (n ∷ ns) m h =
    let parts = or_parts (list_any (nat_eq n) before) (nat_eq n m) (sym (one_more (nat_eq n) before m) ∙ h.0) in
    let rest = fewer_labels before ns m h.1 in
    ((parts.0, rest.0), or_from (nat_eq m n) (list_any (nat_eq m) ns) (numbers_swapped m n ∙ parts.1) rest.1)

pub fresh_differ : (before ns : List ℕ) → AllFresh before ns → Differ before ns
fresh_differ before [] h = record { differ = refl; others = tt }
fresh_differ before (n ∷ ns) h =
    let rest = fresh_differ (before ++ n ∷ []) ns h.1 in
    let less = fewer_labels before ns n rest.others in
    record { differ = and_from (not (list_any (nat_eq n) ns)) (all_differ ns) (not_from_false (list_any (nat_eq n) ns) less.1) rest.differ; others = (h.0, less.0) }

more_labels : (before ns : List ℕ) (m : ℕ) → Each (IsFresh before) ns → list_any (nat_eq m) ns ≡ false → Each (IsFresh (before ++ m ∷ [])) ns
more_labels before [] m h k = tt
more_labels before (n ∷ ns) m h k =
    let parts = or_parts (nat_eq m n) (list_any (nat_eq m) ns) k in
    (one_more (nat_eq n) before m ∙ or_from (list_any (nat_eq n) before) (nat_eq n m) h.0 (numbers_swapped n m ∙ parts.0), more_labels before ns m h.1 parts.1)

pub differ_fresh : (before ns : List ℕ) → Differ before ns → AllFresh before ns
differ_fresh before [] h = tt
differ_fresh before (n ∷ ns) h =
    let parts = and_parts (not (list_any (nat_eq n) ns)) (all_differ ns) h.differ in
    (h.others.0, differ_fresh (before ++ n ∷ []) ns (record { differ = parts.1; others = more_labels before ns n h.others.1 (not-true (list_any (nat_eq n) ns) parts.0) }))

pub nothing_before : (ns : List ℕ) → Each (IsFresh []) ns
nothing_before [] = tt
nothing_before (n ∷ ns) = (refl, nothing_before ns)
