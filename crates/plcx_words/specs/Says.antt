-- What values of the code say.
use Rattle.std.specs.Prelude.{⊤, Result, Ok, Err}
use Rattle.std.specs.Option.{option_map}
use Rattle.plcx_words.specs.Simple as spec
use Rattle.plcx_words.specs.Command as command
use Rattle.plcx_words.specs.declared.arguments.Arguments.{Arguments}
use Rattle.plcx_words.specs.declared.command.Command.{Command}
use Rattle.plcx_words.specs.declared.command.Command.TheVariants.{Check, Compile, Simulate, Run, Bench, Cycle, Migrate, Report, Cover}
use Rattle.plcx_words.specs.declared.command.Run as declared
use Rattle.plcx_words.specs.declared.command.TaskRun as declared-task
use Rattle.plcx_words.specs.declared.command.Migration as declared-migration
use Rattle.plcx_words.specs.declared.error.WordsError.{WordsError}
use Rattle.plcx_words.specs.declared.error.WordsError.TheVariants.{Usage, NoMemory}

abbrev pub said_by_arguments : Arguments → spec.Arguments
said_by_arguments a = record {
  action = option_map (λ s. s.now) a.action;
  file = option_map (λ s. s.now) a.file;
  events = option_map (λ s. s.now) a.events;
  program = option_map (λ s. s.now) a.program;
  turns = option_map (λ s. s.now) a.turns;
  retain = option_map (λ s. s.now) a.retain;
}

abbrev pub said_by_run : declared.Run → command.Run
said_by_run r = record {
  file = r.file.now;
  events = r.events.now;
  program = option_map (λ s. s.now) r.program;
  turns = r.turns;
  retain = option_map (λ s. s.now) r.retain;
}

abbrev pub said_by_task_run : declared-task.TaskRun → command.TaskRun
said_by_task_run r = record { file = r.file.now; ticks = r.ticks.now; turns = r.turns }

abbrev pub said_by_migration : declared-migration.Migration → command.Migration
said_by_migration m = record {
  old = m.old.now;
  new = m.new.now;
  program = option_map (λ s. s.now) m.program;
  retain = m.retain.now;
}

abbrev pub said_by : Command → command.Command
said_by (Check file) = command.check file.now
said_by (Compile file) = command.compile file.now
said_by (Simulate run) = command.simulate (said_by_run run)
said_by (Run run) = command.run (said_by_run run)
said_by (Bench networks) = command.bench networks
said_by (Cycle run) = command.cycle (said_by_task_run run)
said_by (Migrate migration) = command.migrate (said_by_migration migration)
said_by (Report migration) = command.report (said_by_migration migration)
said_by (Cover run) = command.cover (said_by_run run)

-- where words are called faulty, this holds
abbrev pub Refuses : {T : Type 0} → Result T WordsError → Type 0 → Type 0
Refuses (Ok x) P = ⊤
Refuses (Err Usage) P = P
Refuses (Err NoMemory) P = ⊤
