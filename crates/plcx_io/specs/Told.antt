-- What reads and writes mean where the outside tells its bytes.
use Rattle.std.specs.Prelude.{◌≡◌, ◌≤◌, ◌<◌, ◌↔◌, ℕ, List, length, take, drop, ⊤, None, Some}
use Rattle.std.specs.declared.option.Option.{Option}
use Rattle.std.specs.Io.KnownBytes.{Appends}

-- a piece, read where there is so much room: the file's bytes from that place on, none only at its end
abbrev pub ReadsFrom : Option (List ℕ) → ℕ → ℕ → List ℕ → Type 0
ReadsFrom None from room piece = ⊤
ReadsFrom (Some bytes) from room piece = (piece ≡ take (length piece) (drop from bytes)) × (0 < room → ((length piece ≡ 0) ↔ (length bytes ≤ from)))

-- these bytes are the whole file
abbrev pub Tells : Option (List ℕ) → List ℕ → Type 0
Tells None bytes = ⊤
Tells (Some held) bytes = bytes ≡ held

-- a front of these bytes was appended
abbrev pub AppendsFront : Option (List ℕ) → Option (List ℕ) → List ℕ → Type 0
AppendsFront old new bytes = (count : ℕ) × (count ≤ length bytes) × Appends old new (take count bytes)
