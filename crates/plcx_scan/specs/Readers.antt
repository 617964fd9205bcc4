-- Serves proofs: the records that a reader over bytes has left.
use Rattle.std.specs.Prelude.{◌≡◌, ◌+◌, ℕ, false, List, [], Option, Some, None, length}
use Rattle.std.specs.Borrow.{Bor}
use Rattle.csv.specs.Machine.{ends_at_end}
use Rattle.csv.specs.Reading.{Ready, default_config, has_failed, reader_config, reader_state, reader_trim, records_from, source_of}
use Rattle.csv.specs.declared.parser.State.{State}
use Rattle.csv.specs.declared.reader.Reader.{Reader}
use Rattle.csv.specs.declared.reader.Trim.TheVariants as trim
use Rattle.plcx_scan.specs.Files.{Record}

-- the bytes underneath
abbrev pub underneath : Bor (List ℕ) → Option (List ℕ)
underneath s = Some s.now

-- the bytes that it has left
abbrev pub bytes_of : Reader (Bor (List ℕ)) → Option (List ℕ)
bytes_of r = source_of underneath r

-- the records of bytes, from a state on
abbrev pub records_after : State → Option (List ℕ) → List Record
records_after s None = []
records_after s (Some xs) = records_from default_config (length xs + 1) s xs

-- the records that it has left
abbrev pub left_of : Reader (Bor (List ℕ)) → List Record
left_of r = records_after (reader_state r) (bytes_of r)

-- it has not failed, reads as it was set up to, and stands between two records
pub record IsReading (r : Reader (Bor (List ℕ))) : Type 0 where
  pub goes : has_failed r ≡ false
  pub trim_is : reader_trim r ≡ trim.None
  pub config_is : reader_config r ≡ default_config
  pub ready : Ready r
  pub between : ends_at_end (reader_state r) ≡ false
