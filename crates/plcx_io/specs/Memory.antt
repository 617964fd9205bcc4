-- Files and sinks in memory.
use Rattle.std.specs.Prelude.{◌||◌, ◌&&◌, ◌==◌, ◌++◌, ◌-◌, ℕ, Bool, List, find, is_none, length, min, take, if◌then◌else◌}
use Rattle.std.specs.declared.option.Option.{Option}
use Rattle.std.specs.Option.{option_map, option_map_or}
use Rattle.std.specs.List.{list_any}
use Rattle.std.specs.Str.{bytes_eq}
use Rattle.plcx_io.specs.Counts.{raised}

-- a file: its name, what it holds, and how many calls for it have failed
pub record StoredFile : Type 0 where
  pub name : List ℕ
  pub bytes : List ℕ
  pub faults : ℕ

-- the file after a failed call for it
abbrev pub after_fault : StoredFile → StoredFile
after_fault file = record file { faults = raised file.faults }

-- a desk: its files, the numbers of the calls that fail, the calls so far, and how many named no file
pub record MemoryDesk : Type 0 where
  pub files : List StoredFile
  pub failing : List ℕ
  pub calls : ℕ
  pub missing : ℕ

-- the first file of the name
abbrev pub file_named : List StoredFile → List ℕ → Option StoredFile
file_named files name = find (λ file. bytes_eq file.name name) files

-- what the file of the name holds
abbrev pub contents_of : MemoryDesk → List ℕ → Option (List ℕ)
contents_of desk name = option_map (λ file. file.bytes) (file_named desk.files name)

-- how many calls with the name have failed; names of no file share one count
abbrev pub faults_of : MemoryDesk → List ℕ → ℕ
faults_of desk name = option_map_or (λ file. file.faults) (file_named desk.files name) desk.missing

-- the next call fails: its number, counted from 1, is among the failing ones, or no file has the name
abbrev pub call_fails : MemoryDesk → List ℕ → Bool
call_fails desk name = list_any (λ number. number == raised desk.calls) desk.failing || is_none (file_named desk.files name)

-- a failed call with the one name counts for the other: they are one, or neither is a file's
abbrev pub counts_for : MemoryDesk → List ℕ → List ℕ → Bool
counts_for desk name other = bytes_eq name other || (is_none (file_named desk.files name) && is_none (file_named desk.files other))

-- the count of another name after a call with the one that failed or didn't
abbrev pub count_after : MemoryDesk → List ℕ → Bool → List ℕ → ℕ
count_after desk name failed other = if failed && counts_for desk name other then raised (faults_of desk other) else faults_of desk other

-- a sink: the bytes written, the room left, the most that a write takes, the numbers of the calls that fail, the calls so far and the failed ones
pub record MemorySink : Type 0 where
  pub bytes : List ℕ
  pub room : ℕ
  pub step : ℕ
  pub failing : List ℕ
  pub calls : ℕ
  pub faults : ℕ

-- the next write fails: no room is left, or its number, counted from 1, is among the failing ones
abbrev pub write_fails : MemorySink → Bool
write_fails sink = sink.room == 0 || list_any (λ number. number == raised sink.calls) sink.failing

-- how many bytes of a piece a write takes that doesn't fail
abbrev pub write_takes : MemorySink → List ℕ → ℕ
write_takes sink piece = min (min (length piece) sink.step) sink.room

-- the sink after a write that took bytes of the piece
abbrev pub sink_after : MemorySink → List ℕ → MemorySink
sink_after sink piece = record sink { bytes = sink.bytes ++ take (write_takes sink piece) piece; room = sink.room - write_takes sink piece; calls = raised sink.calls }

-- the sink after a write that failed
abbrev pub sink_after_fault : MemorySink → MemorySink
sink_after_fault sink = record sink { calls = raised sink.calls; faults = raised sink.faults }
