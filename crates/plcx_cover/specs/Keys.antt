-- Serves proofs: how the row of a wire is found.
use Rattle.std.specs.Prelude.{◌≡◌, ℕ, Bool, true, false, ◌&&◌, List, Some, nat_eq, slice_get}
use Rattle.std.specs.List.{list_any}
use Rattle.plcx_meaning.specs.Evaluate.{Heard}
use Rattle.plcx_cover.specs.declared.counting.CoverRow.{CoverRow}
use Rattle.plcx_cover.specs.declared.counting.WireKey.{WireKey}

-- what tells the wire of a row from others
abbrev pub key_of : CoverRow → WireKey
key_of row = record { pou = row.pou; local_id = row.local_id; pin = row.pin }

abbrev pub same_key : WireKey → WireKey → Bool
same_key a b = nat_eq a.pou b.pou && (nat_eq a.local_id b.local_id && nat_eq a.pin b.pin)

-- the same of an output
abbrev pub heard_key : Heard → WireKey
heard_key h = record { pou = h.pou; local_id = h.id; pin = h.number }

-- no row is of the wire
abbrev pub HasNone : WireKey → List CoverRow → Type 0
HasNone key rows = list_any (λ (row : CoverRow). same_key key (key_of row)) rows ≡ false

-- the row at a place is
pub record IsAt (key : WireKey) (rows : List CoverRow) (place : ℕ) : Type 0 where
  pub row : CoverRow
  pub there : slice_get rows place ≡ Some row
  pub is : same_key key (key_of row) ≡ true
