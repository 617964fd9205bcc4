-- Where a variable that is found stands.
use Rattle.std.proofs.Common.{◌≡◌, ℕ, List, Option, Some, None}
use Rattle.std.specs.Prelude.{slice_get, option_and_then}
use Rattle.plcx_rules.specs.Texts.{same_name}
use Rattle.plcx_tables.specs.declared.placed.Placed.{Placed}
use Rattle.plcx_tables.specs.declared.placed.Table.{Table}
use Rattle.plcx_tables.specs.Tables.{number_in}
use Rattle.plcx_tables.specs.Named.{text_of}
use Rattle.plcx_tables.specs.Tabled.{found}

-- it stands among the variables of its table
pub found_at : (table : Table) (name : List ℕ) (p : Placed) → found table name ≡ Some p → (i : ℕ) × (slice_get table.placed.items i ≡ Some p)
found_at table name p h = by (number_in text_of same_name table.own.now.names.numbers.entries name) h
  where
    by : (o : Option ℕ) → option_and_then (slice_get table.placed.items) o ≡ Some p → (i : ℕ) × (slice_get table.placed.items i ≡ Some p)
    by None h = absurd (let no : ⊥ = cc in no)
    by (Some i) h = (i, h)
