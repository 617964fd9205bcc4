-- An output changes the row of its wire, and no other.
use Rattle.std.proofs.Common.{◌≡◌, ◌∙◌, ℕ, zero, suc, ◌+◌, ◌<◌, Bool, true, false, List, [], ◌∷◌, ◌++◌, Some, map, take, length, get_or, slice_get, slice_set, refl, sym, ap, ap₂, subst}
use Rattle.std.specs.Prelude.{◌&&◌, nat_eq, if◌then◌else◌}
use Rattle.std.specs.List.{AllByRecursion, IsDistinct, list_any}
use Rattle.std.proofs.lemmas.List.{map-append, take_more}
use Rattle.std.proofs.lemmas.Bool.{and_parts, or_parts, or_from, eqb-true, true≢false}
use Rattle.std.proofs.lemmas.Map.Keys.{IsDistinct-head, IsDistinct-tail}
use Rattle.std.proofs.lemmas.Option.{slice_get-get_or}
use Rattle.indexmap.specs.IndexSet.{insert_key}
use Rattle.plcx_meaning.specs.Evaluate.{Heard}
use Rattle.plcx_cover.specs.declared.counting.CoverRow.{CoverRow}
use Rattle.plcx_cover.specs.declared.counting.WireKey.{WireKey}
use Rattle.plcx_cover.specs.Counts.{is_of, is_true_of, is_truth, raised, grown, all_grown}
use Rattle.plcx_cover.specs.Keys.{key_of, heard_key, same_key, HasNone}
use Rattle.plcx_cover.proofs.Growing.{raised_none, count_one, row_with}

-- keys are the same where they are equal
pub key_is : (a b : WireKey) → same_key a b ≡ true → a ≡ b
key_is a b h =
    let all = and_parts (nat_eq a.pou b.pou) (nat_eq a.local_id b.local_id && nat_eq a.pin b.pin) h in
    let rest = and_parts (nat_eq a.local_id b.local_id) (nat_eq a.pin b.pin) all.1 in
    ap₂ (λ pou id. record { pou = pou; local_id = id; pin = a.pin }) (eqb-true a.pou b.pou all.0) (eqb-true a.local_id b.local_id rest.0)
    ∙ ap (λ pin. record { pou = b.pou; local_id = b.local_id; pin = pin }) (eqb-true a.pin b.pin rest.1)

pub key_apart : (a b : WireKey) → same_key a b ≡ false → same_key b a ≡ false
key_apart a b h = by (same_key b a) refl
  where
    by : (t : Bool) → same_key b a ≡ t → t ≡ false
    by false e = refl
    by true e = absurd (true≢false (sym e ∙ subst (λ k. same_key b k ≡ false) (key_is b a e) (subst (λ k. same_key k b ≡ false) (sym (key_is b a e)) h)))

-- a row of another wire stays
stays : (h : Heard) (row : CoverRow) → is_of row h ≡ false → grown (h ∷ []) row ≡ row
stays h row other = ap₂ (row_with row)
    (ap (raised row.evaluated) (count_one (is_of row) h ∙ ap (λ b. if b then 1 else 0) other) ∙ raised_none row.evaluated)
    (ap (raised row.trues) (count_one (is_true_of row) h ∙ ap (λ b. if b && is_truth h.value then 1 else 0) other) ∙ raised_none row.trues)

-- that of the wire counts one more
abbrev pub counted : (h : Heard) → CoverRow → CoverRow
counted h row = row_with row (raised row.evaluated 1) (raised row.trues (if is_truth h.value then 1 else 0))

counts : (h : Heard) (row : CoverRow) → is_of row h ≡ true → grown (h ∷ []) row ≡ counted h row
counts h row own = ap₂ (row_with row)
    (ap (raised row.evaluated) (count_one (is_of row) h ∙ ap (λ b. if b then 1 else 0) own))
    (ap (raised row.trues) (count_one (is_true_of row) h ∙ ap (λ b. if b && is_truth h.value then 1 else 0) own))

pub none_changed : (h : Heard) (rows : List CoverRow) → HasNone (heard_key h) rows → all_grown (h ∷ []) rows ≡ rows
none_changed h [] none = refl
none_changed h (row ∷ rows) none =
    let p = or_parts _ _ none in
    ap₂ (λ (r : CoverRow) (rs : List CoverRow). r ∷ rs) (stays h row p.0) (none_changed h rows p.1)

-- the rows that differ from one are of other wires
others : (key : WireKey) (rows : List CoverRow) → AllByRecursion (λ k. same_key key k ≡ false) (map key_of rows) → HasNone key rows
others key [] h = refl
others key (row ∷ rows) h = or_from _ _ h.0 (others key rows h.1)

apart_at : (key : WireKey) (rows : List CoverRow) (place : ℕ) (row : CoverRow) → slice_get rows place ≡ Some row → AllByRecursion (λ k. same_key key k ≡ false) (map key_of rows) → same_key key (key_of row) ≡ false
apart_at key [] place row there h = absurd (cc)
apart_at key (r ∷ rows) zero row there h = let same : r ≡ row = cc in subst (λ (x : CoverRow). same_key key (key_of x) ≡ false) same h.0
apart_at key (r ∷ rows) (suc i) row there h = apart_at key rows i row there h.1

pub one_changed : (h : Heard) (rows : List CoverRow) (place : ℕ) (row : CoverRow) → slice_get rows place ≡ Some row → same_key (heard_key h) (key_of row) ≡ true → IsDistinct same_key (map key_of rows)
    → all_grown (h ∷ []) rows ≡ slice_set rows place (counted h row)
one_changed h [] place row there is d = absurd (cc)
one_changed h (r ∷ rows) zero row there is d =
    let same : r ≡ row = cc in
    let key = key_is (heard_key h) (key_of row) is in
    let apart = IsDistinct-head same_key (key_of r) (map key_of rows) d in
    let none = subst (λ k. HasNone k rows) (ap key_of same ∙ sym key) (others (key_of r) rows apart) in
    ap₂ (λ (x : CoverRow) (xs : List CoverRow). x ∷ xs) (ap (grown (h ∷ [])) same ∙ counts h row is) (none_changed h rows none)
one_changed h (r ∷ rows) (suc i) row there is d =
    let key = key_is (heard_key h) (key_of row) is in
    let apart = apart_at (key_of r) rows i row there (IsDistinct-head same_key (key_of r) (map key_of rows) d) in
    let other = subst (λ k. same_key k (key_of r) ≡ false) (sym key) (key_apart (key_of r) (key_of row) apart) in
    ap₂ (λ (x : CoverRow) (xs : List CoverRow). x ∷ xs) (stays h r other) (one_changed h rows i row there is (IsDistinct-tail same_key (key_of r) (map key_of rows) d))

-- ---- the keys of rows that are told apart, one after another

absent : (rows : List CoverRow) (i : ℕ) (row : CoverRow) → slice_get rows i ≡ Some row → IsDistinct same_key (map key_of rows) → list_any (same_key (key_of row)) (map key_of (take i rows)) ≡ false
absent [] i row there d = absurd (cc)
absent (r ∷ rows) zero row there d = refl
absent (r ∷ rows) (suc i) row there d =
    or_from _ _ (key_apart (key_of r) (key_of row) (apart_at (key_of r) rows i row there (IsDistinct-head same_key (key_of r) (map key_of rows) d)))
    (absent rows i row there (IsDistinct-tail same_key (key_of r) (map key_of rows) d))

pub key_more : (rows : List CoverRow) (i : ℕ) (d : CoverRow) (keys : List WireKey) (key : WireKey) → IsDistinct same_key (map key_of rows) → keys ≡ map key_of (take i rows) → i < length rows → key ≡ key_of (get_or rows i d)
    → insert_key same_key keys key ≡ map key_of (take (i + 1) rows)
key_more rows i d keys key apart so_far low is =
    let row = get_or rows i d in
    ap₂ (insert_key same_key) so_far is
    ∙ ap (λ b. if b then map key_of (take i rows) else map key_of (take i rows) ++ key_of row ∷ []) (absent rows i row (slice_get-get_or rows i d low) apart)
    ∙ sym (ap (map key_of) (take_more rows i d low) ∙ map-append key_of (take i rows) (row ∷ []))
