-- When each error of `read_ticks` comes.
use Rattle.std.specs.Prelude.{ℕ, List, ⊤}
use Rattle.plcx_meaning.specs.Layout.{Leaf}
use Rattle.plcx_scan.specs.declared.reading.EventError.{EventError}
use Rattle.plcx_scan.specs.declared.reading.EventError.TheVariants.{Row, NoMemory}
use Rattle.plcx_scan.specs.Files.{Record, records_of}
use Rattle.plcx_tasks.specs.declared.planning.Instance.{Instance}
use Rattle.plcx_tasks.specs.declared.planning.TaskPlan.{TaskPlan}
use Rattle.plcx_ticks.specs.Ticks.{IsFirstWrong}

-- the first record that is wrong; want of memory at any time
abbrev pub WhyNotRecords : List Instance → List (List Leaf) → List Record → EventError → Type 0
WhyNotRecords instances lays rows (Row row) = IsFirstWrong instances lays rows row
WhyNotRecords instances lays rows NoMemory = ⊤

-- the same of the records of a file
abbrev pub WhyNotTicks : TaskPlan → List (List Leaf) → List ℕ → EventError → Type 0
WhyNotTicks plan lays bytes e = WhyNotRecords plan.instances lays (records_of bytes) e
