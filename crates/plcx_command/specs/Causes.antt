-- Why an action over files that are accepted gives no output: runs of diagrams, runs of texts, runs of tasks and migrations alike.
use Rattle.std.specs.Prelude.{◌≡◌, ℕ, List, Option, Some, Err}
use Rattle.plcx_words.specs.Command.{Command, Run, TaskRun, Migration, run, cycle}
use Rattle.plcx_traced.specs.declared.error.RunError.{RunError}
use Rattle.plcx_text_run.specs.TextRuns as texts
use Rattle.plcx_text_run.specs.declared.running.TextRunError.{TextRunError}
use Rattle.plcx_cycle.specs.declared.error.CycleError.{CycleError}
use Rattle.plcx_migrate.specs.declared.migrating.Form.{Form}
use Rattle.plcx_command.specs.Cycled.{Cycles, cycle_refused, cycle_line}
use Rattle.plcx_command.specs.Migrated.{NotMigrated, Migrates, action_of, migration_refused, migration_line}
use Rattle.plcx_command.specs.Simulated.{RunForm, run_action, Simulates, refused_as, error_line}
use Rattle.plcx_command.specs.TextRun.{text_refused, text_error_line}
use Rattle.plcx_command.specs.declared.status.Refused.{Refused}

-- a cause, with the run or the migration that it stops; of a run of a text what refuses the text too, and of a run of tasks what is wrong with these
pub data Cause : Type 0 where
  of_run : RunForm → Run → RunError → Cause
  of_text : Run → TextRunError → Cause
  of_cycle : TaskRun → CycleError → Cause
  of_migration : Form → Migration → NotMigrated → Cause

-- the command is this run, or this migration
abbrev pub Stops : Option Command → Cause → Type 0
Stops command (of_run form r e) = command ≡ Some (run_action form r)
Stops command (of_text r e) = command ≡ Some (run r)
Stops command (of_cycle t e) = command ≡ Some (cycle t)
Stops command (of_migration form m e) = command ≡ Some (action_of form m)

-- the status of a cause
abbrev pub cause_refused : Cause → Refused
cause_refused (of_run form r e) = refused_as e
cause_refused (of_text r e) = text_refused e
cause_refused (of_cycle t e) = cycle_refused e
cause_refused (of_migration form m e) = migration_refused e

-- and its line
abbrev pub cause_line : Cause → List ℕ
cause_line (of_run form r e) = error_line r e
cause_line (of_text r e) = text_error_line r e
cause_line (of_cycle t e) = cycle_line t e
cause_line (of_migration form m e) = migration_line m e

-- the run, or the migration, comes to this cause
abbrev pub Comes : (List ℕ → Option (List ℕ)) → (List ℕ → Type 0) → Cause → Type 0
Comes told rose (of_run form r e) = Simulates told rose form r (Err e)
Comes told rose (of_text r e) = texts.ComesTo told rose r (Err e)
Comes told rose (of_cycle t e) = Cycles told rose t (Err e)
Comes told rose (of_migration form m e) = Migrates told rose form m (Err e)
