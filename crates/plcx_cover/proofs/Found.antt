-- The row of a wire is found by the keys of all rows.
use Rattle.std.proofs.Common.{◌≡◌, ◌∙◌, ℕ, suc, ◌+◌, Bool, true, false, cond, List, [], ◌∷◌, Option, Some, None, map, slice_get, refl, sym, ap, arith}
use Rattle.std.specs.Prelude.{MatchOption}
use Rattle.std.specs.List.{position, position_from}
use Rattle.std.proofs.lemmas.Iterator.Adapters.{position_from-zero}
use Rattle.std.proofs.lemmas.Bool.{or_from}
use Rattle.plcx_cover.specs.declared.counting.CoverRow.{CoverRow}
use Rattle.plcx_cover.specs.declared.counting.WireKey.{WireKey}
use Rattle.plcx_cover.specs.Keys.{key_of, same_key, HasNone, IsAt}

-- what is found from a place on
record IsFound (key : WireKey) (rows : List CoverRow) (n i : ℕ) : Type 0 where
  pub place : ℕ
  pub moved : n + place ≡ i
  pub row : CoverRow
  pub there : slice_get rows place ≡ Some row
  pub is : same_key key (key_of row) ≡ true

found_from : (key : WireKey) (rows : List CoverRow) (n i : ℕ) → position_from (same_key key) n (map key_of rows) ≡ Some i → IsFound key rows n i
found_from key [] n i e = absurd (cc)
found_from key (row ∷ rows) n i e = by (same_key key (key_of row)) refl (found_from key rows (n + 1) i) e
  where
    by : (b : Bool) → same_key key (key_of row) ≡ b → (position_from (same_key key) (n + 1) (map key_of rows) ≡ Some i → IsFound key rows (n + 1) i)
        → cond b (Some n) (position_from (same_key key) (n + 1) (map key_of rows)) ≡ Some i → IsFound key (row ∷ rows) n i
    by true is rest at = let same : n ≡ i = cc in record { place = 0; moved = omega arith; row = row; there = refl; is = is }
    by false is rest at =
        let f = rest at in
        let moved = f.moved in
        record { place = suc f.place; moved = omega arith; row = f.row; there = f.there; is = f.is }

none_from : (key : WireKey) (rows : List CoverRow) (n : ℕ) → position_from (same_key key) n (map key_of rows) ≡ None → HasNone key rows
none_from key [] n e = refl
none_from key (row ∷ rows) n e = by (same_key key (key_of row)) refl (none_from key rows (n + 1)) e
  where
    by : (b : Bool) → same_key key (key_of row) ≡ b → (position_from (same_key key) (n + 1) (map key_of rows) ≡ None → HasNone key rows)
        → cond b (Some n) (position_from (same_key key) (n + 1) (map key_of rows)) ≡ None → HasNone key (row ∷ rows)
    by true is rest at = absurd (cc)
    by false is rest at = or_from _ _ is (rest at)

pub found : (key : WireKey) (rows : List CoverRow) (o : Option ℕ) → o ≡ position (same_key key) (map key_of rows) → MatchOption o (HasNone key rows) (IsAt key rows)
found key rows None e = none_from key rows 0 (sym (position_from-zero (same_key key) (map key_of rows)) ∙ sym e)
found key rows (Some i) e =
    let f = found_from key rows 0 i (sym (position_from-zero (same_key key) (map key_of rows)) ∙ sym e) in
    let moved = f.moved in
    let same : f.place ≡ i = omega arith in
    record { row = f.row; there = ap (slice_get rows) (sym same) ∙ f.there; is = f.is }
