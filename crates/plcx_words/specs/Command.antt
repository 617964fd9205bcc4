-- What words ask for. Words that ask for nothing are a faulty command line.
use Rattle.std.specs.Prelude.{ℕ, Bool, not, ◌&&◌, List, [], ◌∷◌, Option, Some, None, is_none, length, nat_eq, nat_le, nat_lt, slice_index, codes, if◌then◌else◌}
use Rattle.std.specs.List.{list_all}
use Rattle.std.specs.Option.{option_map, option_and_then}
use Rattle.std.specs.Str.{bytes_eq}
use Rattle.clap.specs.Walk.{Text}
use Rattle.plcx_types.specs.Duration.{number}
use Rattle.plcx_types.specs.Numeral.{is_digit}
use Rattle.plcx_words.specs.Simple.{Arguments, given}

-- a run of one program over a list of events
pub record Run : Type 0 where
  -- the file of the diagrams, or that of a text
  pub file : Text
  pub events : Text
  -- the program's name, where one is given
  pub program : Option Text
  -- the turns that each scan has
  pub turns : ℕ
  -- the file of the retained values, where one is given
  pub retain : Option Text

-- a run of the tasks of a resource over a list of ticks
pub record TaskRun : Type 0 where
  -- the file of the diagrams, and of the resource
  pub file : Text
  pub ticks : Text
  -- the turns that each scan has
  pub turns : ℕ

-- retained values of an old version of a project for a new one
pub record Migration : Type 0 where
  -- the files of both versions
  pub old : Text
  pub new : Text
  -- the program's name in both, where one is given
  pub program : Option Text
  -- the file of the old version's retained values
  pub retain : Text

pub data Command : Type 0 where
  check : (file : Text) → Command
  compile : (file : Text) → Command
  simulate : Run → Command
  run : Run → Command
  bench : (networks : ℕ) → Command
  cycle : TaskRun → Command
  migrate : Migration → Command
  report : Migration → Command
  cover : Run → Command

-- the turns of a scan where none are given
abbrev pub usual_turns : ℕ
usual_turns = 1000

-- 1 to 18 decimal digits
abbrev pub are_turns : Text → Bool
are_turns text = nat_lt 0 (length text) && nat_le (length text) 18 && list_all (is_digit 10) text

abbrev pub turns_of : Option Text → Option ℕ
turns_of None = Some usual_turns
turns_of (Some text) = if are_turns text then Some (number text) else None

-- a decimal number from 1 to 1000 that begins with no zero
abbrev pub is_size : Text → Bool
is_size text = nat_lt 0 (length text) && nat_le (length text) 4 && list_all (is_digit 10) text && not (nat_eq (slice_index text 0) 48) && nat_le (number text) 1000

abbrev pub has_option : Arguments → Bool
has_option a = not (is_none a.program && is_none a.turns && is_none a.retain)

-- what has one file, or one number, and nothing else
abbrev pub alone : Arguments → Option Text
alone a = if is_none a.events && not (has_option a) then a.file else None

abbrev pub bench_of : Text → Option Command
bench_of text = if is_size text then Some (bench (number text)) else None

abbrev pub run_with : Arguments → Text → Text → ℕ → Run
run_with a file events turns = record { file = file; events = events; program = a.program; turns = turns; retain = a.retain }

-- a run needs both of its files
abbrev pub run_of : Arguments → Option Run
run_of a = option_and_then (λ file. option_and_then (λ events. option_map (run_with a file events) (turns_of a.turns)) a.events) a.file

abbrev pub task_run_with : Text → Text → ℕ → TaskRun
task_run_with file ticks turns = record { file = file; ticks = ticks; turns = turns }

-- a run of tasks needs both of its files, and takes the turns alone of the options
abbrev pub task_run_of : Arguments → Option TaskRun
task_run_of a =
    if is_none a.program && is_none a.retain then
    option_and_then (λ file. option_and_then (λ ticks. option_map (task_run_with file ticks) (turns_of a.turns)) a.events) a.file
    else None

abbrev pub migration_with : Arguments → Text → Text → Text → Migration
migration_with a old new retain = record { old = old; new = new; program = a.program; retain = retain }

-- a migration needs all of its three files, and takes no turns
abbrev pub migration_of : Arguments → Option Migration
migration_of a =
    if is_none a.turns then
    option_and_then (λ old. option_and_then (λ new. option_map (migration_with a old new) a.retain) a.events) a.file
    else None

abbrev pub asked : Text → Arguments → Option Command
asked action a =
    if bytes_eq action (codes "check") then option_map check (alone a)
    else (if bytes_eq action (codes "compile") then option_map compile (alone a)
    else (if bytes_eq action (codes "simulate") then option_map simulate (run_of a)
    else (if bytes_eq action (codes "run") then option_map run (run_of a)
    else (if bytes_eq action (codes "bench") then option_and_then bench_of (alone a)
    else (if bytes_eq action (codes "cycle") then option_map cycle (task_run_of a)
    else (if bytes_eq action (codes "migrate") then option_map migrate (migration_of a)
    else (if bytes_eq action (codes "report") then option_map report (migration_of a)
    else (if bytes_eq action (codes "cover") then option_map cover (run_of a)
    else None))))))))

abbrev pub asked_by : Arguments → Option Command
asked_by a = option_and_then (λ action. asked action a) a.action

-- what the words ask for
abbrev pub command_of : List Text → Option Command
command_of words = option_and_then asked_by (given words)
