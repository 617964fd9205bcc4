-- Values of a retained file of an old version, in a new one.
use Rattle.std.specs.Prelude.{◌≡◌, ℕ, List, Option, Result, Ok, Err, ⊤}
use Rattle.plcx_types.specs.Lists.{Each}
use Rattle.plcx_types.specs.Value.{Value}
use Rattle.plcx_state.specs.declared.layout.Leaf.{Leaf}
use Rattle.plcx_state.specs.Lines.{StandsForRetained}
use Rattle.plcx_state.specs.Tables.{HasPlainNames}
use Rattle.plcx_traced.specs.Files.{TellsRetained, IsWrongLine}
use Rattle.plcx_keep.specs.declared.carry.Carry.{Carry}
use Rattle.plcx_keep.specs.declared.carry.CarryRow.{CarryRow}
use Rattle.plcx_keep.specs.Carries.{carry_of}
use Rattle.plcx_keep.specs.States.{IsCarried}
use Rattle.plcx_keep.specs.Texts.{state_lines, report_text}
use Rattle.plcx_migrate.specs.declared.migrating.Form.{Form}
use Rattle.plcx_migrate.specs.declared.migrating.Form.TheVariants.{Lines, Report}
use Rattle.plcx_migrate.specs.declared.error.MigrateError.{MigrateError}
use Rattle.plcx_migrate.specs.declared.error.MigrateError.TheVariants.{RetainedRead, Line, NoMemory}

-- The text has the retained lines of the state that has the value of each row; and it is read again as that state, so that runs of the new version go on from there.
pub record AreLinesOf (after : List Leaf) (rows : List CarryRow) (text : List ℕ) : Type 0 where
  pub state : List (Option Value)
  pub carried : IsCarried after rows state
  pub text_is : text ≡ state_lines after state
  pub read_again : StandsForRetained after text state

-- what is written of what becomes of each value: the lines of the new version, or a report
abbrev pub IsWritten : Form → List Leaf → List Leaf → Carry → List ℕ → Type 0
IsWritten Lines before after carry text = AreLinesOf after carry.rows text
IsWritten Report before after carry text = text ≡ report_text before after carry

-- The file stands for a state of the old version, and the text is what is written of that. The names of the old leaves are plain, so that a printed path is that of one leaf.
pub record IsMigrated (form : Form) (told : Option (List ℕ)) (before after : List Leaf) (text : List ℕ) : Type 0 where
  pub kept : List (Option Value)
  pub tells : TellsRetained told before kept
  pub plain : Each HasPlainNames before
  pub written : IsWritten form before after (carry_of before kept after) text

-- why nothing is written; want of memory at any time
abbrev pub WhyNotMigrated : Option (List ℕ) → Type 0 → List Leaf → MigrateError → Type 0
WhyNotMigrated told rose before RetainedRead = rose
WhyNotMigrated told rose before (Line line) = IsWrongLine told before line
WhyNotMigrated told rose before NoMemory = ⊤

-- what the values of a file come to
abbrev pub ComesTo : Form → Option (List ℕ) → Type 0 → List Leaf → List Leaf → Result (List ℕ) MigrateError → Type 0
ComesTo form told rose before after (Ok text) = IsMigrated form told before after text
ComesTo form told rose before after (Err e) = WhyNotMigrated told rose before e
