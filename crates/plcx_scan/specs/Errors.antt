-- When each error of `read_events` comes.
use Rattle.std.specs.Prelude.{ℕ, List, ⊤}
use Rattle.plcx_meaning.specs.Layout.{Leaf}
use Rattle.plcx_scan.specs.declared.reading.EventError.{EventError}
use Rattle.plcx_scan.specs.declared.reading.EventError.TheVariants.{Row, NoMemory}
use Rattle.plcx_scan.specs.Files.{Record, records_of, IsFirstWrong}

-- the first record that is wrong; want of memory at any time
abbrev pub WhyNotRecords : List Leaf → List Record → EventError → Type 0
WhyNotRecords leaves rows (Row row) = IsFirstWrong leaves rows row
WhyNotRecords leaves rows NoMemory = ⊤

-- the same of the records of a file
abbrev pub WhyNotEvents : List Leaf → List ℕ → EventError → Type 0
WhyNotEvents leaves bytes e = WhyNotRecords leaves (records_of bytes) e
