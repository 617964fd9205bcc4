-- Files of events of two programs that declare the same.
use Rattle.std.proofs.Common.{◌≡◌, ◌∷◌, ◌∙◌, ◌⊎◌, ℕ, Bool, true, false, List, [], inl, inr, ℤ, refl, sym, ap, subst}
use Rattle.std.specs.Prelude.{if◌then◌else◌}
use Rattle.std.specs.List.{Contains}
use Rattle.plcx_types.specs.Lists.{Each}
use Rattle.plcx_types.specs.Range.{InRange}
use Rattle.plcx_types.specs.declared.ty.Ty.{Ty}
use Rattle.plcx_meaning.specs.Base.{is_declared}
use Rattle.plcx_meaning.specs.Layout.{Leaf, declared_leaves}
use Rattle.plcx_meaning.specs.Run as meant
use Rattle.plcx_meaning.specs.Run.{Input, Event, Scan, Again, last_after}
use Rattle.plcx_meaning.proofs.Lists.{contains_cases, contains_first, contains_later, contains_none}
use Rattle.plcx_state.specs.Retains.{Pairwise}
use Rattle.plcx_state.proofs.Keeping.{stands_ranged}
use Rattle.plcx_scan.specs.Files.{Record, records_of, IsColumn, AreInputs, AreEvents, RecordsStandFor, StandsForEvents, IsFirstWrong, nothing, wrong}

-- what can be set is declared
abbrev pub SetsDeclared : List Leaf → Type 0
SetsDeclared ls = (leaf : Leaf) → Contains ls leaf → leaf.settable ≡ true → is_declared leaf.path ≡ true

declared_in : (ls : List Leaf) (leaf : Leaf) → Contains ls leaf → is_declared leaf.path ≡ true → Contains (declared_leaves ls) leaf
declared_in [] leaf h d = absurd (contains_none leaf h)
declared_in (l ∷ ls) leaf h d = by (is_declared l.path) refl (contains_cases l ls leaf h) (λ k. declared_in ls leaf k d)
  where
    by : (b : Bool) → is_declared l.path ≡ b → (l ≡ leaf) ⊎ Contains ls leaf → (Contains ls leaf → Contains (declared_leaves ls) leaf) → Contains (if b then l ∷ declared_leaves ls else declared_leaves ls) leaf
    by true is (inl e) rest = subst (Contains (l ∷ declared_leaves ls)) e (contains_first l (declared_leaves ls))
    by true is (inr k) rest = contains_later l (declared_leaves ls) leaf (rest k)
    by false is (inl e) rest = let no : is_declared leaf.path ≡ false = ap (λ (x : Leaf). is_declared x.path) (sym e) ∙ is in absurd (cc)
    by false is (inr k) rest = rest k

declared_from : (ls : List Leaf) (leaf : Leaf) → Contains (declared_leaves ls) leaf → Contains ls leaf
declared_from [] leaf h = absurd (contains_none leaf h)
declared_from (l ∷ ls) leaf h = by (is_declared l.path) h (λ k. declared_from ls leaf k)
  where
    of : (l ≡ leaf) ⊎ Contains (declared_leaves ls) leaf → (Contains (declared_leaves ls) leaf → Contains ls leaf) → Contains (l ∷ ls) leaf
    of (inl e) rest = subst (Contains (l ∷ ls)) e (contains_first l ls)
    of (inr k) rest = contains_later l ls leaf (rest k)

    by : (b : Bool) → Contains (if b then l ∷ declared_leaves ls else declared_leaves ls) leaf → (Contains (declared_leaves ls) leaf → Contains ls leaf) → Contains (l ∷ ls) leaf
    by true k rest = of (contains_cases l (declared_leaves ls) leaf k) rest
    by false k rest = contains_later l ls leaf (rest k)

module _ (xs ys : List Leaf) (declared : SetsDeclared xs) (same : declared_leaves xs ≡ declared_leaves ys) where
  column_over : (name : List ℕ) (leaf : Leaf) → IsColumn xs name leaf → IsColumn ys name leaf
  column_over name leaf h = record {
    among = declared_from ys leaf (subst (λ (ls : List Leaf). Contains ls leaf) same (declared_in xs leaf h.among (declared leaf h.among h.settable)));
    settable = h.settable;
    path_is = h.path_is;
  }

  columns_over : (names : List (List ℕ)) (cs : List Leaf) → Pairwise (IsColumn xs) names cs → Pairwise (IsColumn ys) names cs
  columns_over [] [] h = tt
  columns_over [] (c ∷ cs) h = absurd h
  columns_over (name ∷ names) [] h = absurd h
  columns_over (name ∷ names) (c ∷ cs) h = (column_over name c h.0, columns_over names cs h.1)

  records_over : (rows : List Record) (es : List Event) → RecordsStandFor xs rows es → RecordsStandFor ys rows es
  records_over [] es h = h
  records_over (header ∷ rows) es (cs, h, k) =
      (cs, record { names = h.names; header_is = h.header_is; are_columns = columns_over h.names cs h.are_columns; once = h.once }, k)

  -- a file stands for the same events
  pub events_over : (bytes : List ℕ) (es : List Event) → StandsForEvents xs bytes es → StandsForEvents ys bytes es
  events_over bytes es h = record { some = h.some; stands = records_over (records_of bytes) es h.stands }

-- and its first wrong record is the same
pub wrong_over : (xs ys : List Leaf) → SetsDeclared xs → SetsDeclared ys → declared_leaves xs ≡ declared_leaves ys → (rows : List Record) (n : ℕ) → IsFirstWrong xs rows n → IsFirstWrong ys rows n
wrong_over xs ys dx dy same rows n (nothing e) = nothing e
wrong_over xs ys dx dy same rows n (wrong place h) = wrong place (record {
  there = h.there;
  events = h.events;
  before = records_over xs ys dx same _ h.events h.before;
  wrong = λ more k. h.wrong more (records_over ys xs dy (sym same) _ more k);
})

-- ---- events that can follow

columns_among : (xs : List Leaf) (names : List (List ℕ)) (cs : List Leaf) → Pairwise (IsColumn xs) names cs → Each (λ (leaf : Leaf). Contains xs leaf × (leaf.settable ≡ true)) cs
columns_among xs [] [] h = tt
columns_among xs [] (c ∷ cs) h = absurd h
columns_among xs (name ∷ names) [] h = absurd h
columns_among xs (name ∷ names) (c ∷ cs) h = ((h.0.among, h.0.settable), columns_among xs names cs h.1)

are_inputs : (xs : List Leaf) (cs : List Leaf) (fields : Record) (is : List Input) → Each (λ (leaf : Leaf). Contains xs leaf × (leaf.settable ≡ true)) cs → AreInputs cs fields is → Each (meant.IsInput xs) is
are_inputs xs [] [] [] h k = tt
are_inputs xs [] [] (i ∷ is) h k = absurd k
are_inputs xs [] (f ∷ fs) is h k = absurd k
are_inputs xs (c ∷ cs) [] is h k = absurd k
are_inputs xs (c ∷ cs) ([] ∷ fs) is h k = are_inputs xs cs fs is h.1 k
are_inputs xs (c ∷ cs) ((b ∷ bs) ∷ fs) [] h k = absurd k
are_inputs xs (c ∷ cs) ((b ∷ bs) ∷ fs) (i ∷ is) h k =
    let v = stands_ranged c.ty (b ∷ bs) k.0.value k.0.stands in
    let range : InRange c.ty i.value = subst (λ (n : ℤ). InRange c.ty n) (sym k.0.number_is) (subst (λ (t : Ty). InRange t k.0.value.n) v.0 v.1) in
    ((c, h.0.0, h.0.1, sym k.0.path_is, range), are_inputs xs cs fs is h.1 k.1)

can_follow : (xs cs : List Leaf) → Each (λ (leaf : Leaf). Contains xs leaf × (leaf.settable ≡ true)) cs → (last : ℕ) (rows : List Record) (es : List Event) → AreEvents cs last rows es → meant.AreEvents xs last es
can_follow xs cs h last [] [] k = tt
can_follow xs cs h last [] (e ∷ es) k = absurd k
can_follow xs cs h last (row ∷ rows) [] k = absurd k
can_follow xs cs h last (row ∷ rows) (Scan time is ∷ es) k =
    (k.0.not_before, k.0.time_is.within, are_inputs xs cs k.0.fields is h k.0.are_inputs, can_follow xs cs h time rows es k.1)
can_follow xs cs h last (row ∷ rows) (Again r ∷ es) k = can_follow xs cs h last rows es k.1

-- the events of a file can follow
pub file_follows : (xs : List Leaf) (bytes : List ℕ) (es : List Event) → StandsForEvents xs bytes es → meant.AreEvents xs 0 es
file_follows xs bytes es h = by (records_of bytes) h.stands
  where
    by : (rows : List Record) → RecordsStandFor xs rows es → meant.AreEvents xs 0 es
    by [] e = subst (meant.AreEvents xs 0) (sym e) tt
    by (header ∷ rows) (cs, k, r) = can_follow xs cs (columns_among xs k.names cs k.are_columns) 0 rows es r
